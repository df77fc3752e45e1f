use Rattle.exchange_steps.specs.Lent.{bytes}
use Rattle.counts_power_up.proofs.Calls.{stays_in_job}
use borrow.Author.Rules.{rules}
use Rattle.counts_power_up.proofs.carry_out.Goals as goal

pub do_job-requires : goal.do_job-requires
do_job-requires c =
    let a = c.args in (
      c.requires.0,
      search rules,
      c.requires.2,
      stays_in_job a.f.now.geometry (bytes a.f.now) c.requires.0 _ a.budget a.row.now c.requires.3,
    )
