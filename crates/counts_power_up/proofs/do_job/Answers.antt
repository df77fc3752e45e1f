use mathlib.Core.Path.{refl}
use borrow.Author.Rules.{rules}
use Rattle.exchange_front.proofs.Follows.{current_within}
use Rattle.exchange_steps.proofs.Runs.{shaped_kept}
use Rattle.image.specs.Verdict.{check_of}
use Rattle.power_up.proofs.Calls.{job_answered}
use Rattle.counts_power_up.proofs.do_job.Goals as goal

pub outcome_at-requires : goal.outcome_at-requires
outcome_at-requires c =
    let g = c.args.f.now.geometry in
    let r = c.repeat_counted-end in
    let S = shaped_kept g c.args.f.now r.new.f c.requires.0 r.ensures.same in
    rw r.ensures.same.geometry (search (rules, S), search (rules, S), current_within g _ r.result r.ensures.steps.2)

pub returns-clause-answer : goal.returns-clause-answer
returns-clause-answer c =
    let a = c.args in
    let r = c.repeat_counted-end in
    let x = c.outcome_at in (
      job_answered check_of a.f.now.geometry c.requires.0.limits a.job a.reason x.result _ a.budget r.result _ _ r.ensures.steps.0 r.ensures.steps.2
          (rw r.ensures.same.geometry at x.ensures) refl,
      r.ensures.steps.1,
    )
