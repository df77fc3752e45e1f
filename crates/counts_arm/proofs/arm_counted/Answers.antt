use mathlib.Core.Path.{ap, ◌∙◌}
use native.Mathlib.Omega.{arith}
use borrow.Author.Rules.{rules}
use Rattle.numbers.specs.GivenBack.{refused_with}
use Rattle.flash.specs.Buffers.{Flash, flash}
use Rattle.flash.proofs.Checked.{shaped_of}
use Rattle.exchange.specs.Commands.{Command}
use Rattle.exchange_steps.proofs.Runs.{given_back}
use Rattle.counts.proofs.FirstChecks.{found}
use Rattle.counts_arm.specs.Delivered.{counted_command_of}
use Rattle.counts_arm.proofs.Calls.{not_counted, counted_inside}
use Rattle.counts_arm.proofs.arm_counted.Goals as goal

pub obey-answer-requires : goal.obey-answer-requires
obey-answer-requires c =
    let a = c.args in
    let f = flash a.boot.now a.update.now a.swap.now in
    let t = found a.sectors a.size f a.row.now a.total c.in-Ok.ensures in
    (shaped_of _ f t.fit, t.long, t.room)

pub sum_of-requires : goal.sum_of-requires
sum_of-requires c =
    let a = c.args in
    let f = flash a.boot.now a.update.now a.swap.now in
    let t = found a.sectors a.size f a.row.now a.total c.in-Ok.ensures in
    omega (arith, c.obey-answer.auto.row, t.long, (shaped_of _ f t.fit).limits.many)

pub returns-in-Ok : goal.returns-in-Ok
returns-in-Ok c =
    let a = c.args in
    let o = c.obey-answer in
    let k = o.ensures.same in
    let left = given_back o.new.f (search (rules, k)) (search (rules, k)) (search (rules, k)) in
    let did : Flash → Command = λ x. record { answer = counted_command_of o.result; flash = x } in
    counted_inside a.sectors a.size (flash a.boot.now a.update.now a.swap.now) a.row.now a.total c.in-Ok.ensures (did _) _ _ (ap did left ∙ o.ensures.answer.0)
    o.ensures.answer.1 c.sum_of.ensures

pub returns-in-Err : goal.returns-in-Err
returns-in-Err c =
    let a = c.args in
    not_counted a.sectors a.size (flash a.boot.now a.update.now a.swap.now) a.row.now a.total (ap refused_with c.into.ensures ∙ c.in-Err.ensures)
