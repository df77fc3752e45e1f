use mathlib.Core.Path.{ap, ◌∙◌}
use native.Mathlib.Omega.{arith}
use borrow.Author.Rules.{rules}
use Rattle.flash.specs.Buffers.{Flash, flash}
use Rattle.flash.proofs.Checked.{boot_partition, update_partition, shaped_of}
use Rattle.exchange_steps.proofs.Runs.{given_back}
use Rattle.image.specs.Verdict.{check_of}
use Rattle.power_up_decision.specs.Inner.{plan_of}
use Rattle.power_up.specs.Delivered.{answered}
use Rattle.counts.proofs.FirstChecks.{found}
use Rattle.counts_power_up.proofs.Calls.{not_counted, counted_inside}
use Rattle.counts_power_up.proofs.power_up_counted.Goals as goal

pub decide-plan-requires : goal.decide-plan-requires
decide-plan-requires c =
    let a = c.args in
    let f = flash a.boot.now a.update.now a.swap.now in
    let S = shaped_of _ f (found a.sectors a.size f a.row.now a.total c.in-Ok.ensures).fit in (boot_partition _ f S, update_partition _ f S)

pub carry_out-a-requires : goal.carry_out-a-requires
carry_out-a-requires c =
    let a = c.args in
    let f = flash a.boot.now a.update.now a.swap.now in
    let t = found a.sectors a.size f a.row.now a.total c.in-Ok.ensures in
    (shaped_of _ f t.fit, c.decide-plan.ensures, t.long, t.room)

pub sum_of-requires : goal.sum_of-requires
sum_of-requires c =
    let a = c.args in
    let f = flash a.boot.now a.update.now a.swap.now in
    let t = found a.sectors a.size f a.row.now a.total c.in-Ok.ensures in
    omega (arith, c.carry_out-a.auto.row, t.long, (shaped_of _ f t.fit).limits.many)

pub returns-in-Ok : goal.returns-in-Ok
returns-in-Ok c =
    let a = c.args in
    let f = flash a.boot.now a.update.now a.swap.now in
    let d = c.decide-plan in
    let o = c.carry_out-a in
    let k = o.ensures.same in
    let left = given_back o.new.f (search (rules, k)) (search (rules, k)) (search (rules, k)) in
    let t = c.with_total.ensures in
    rw (t.outcome, t.others.0, t.others.1, t.others.2)
    (counted_inside a.sectors a.size f check_of a.budget a.row.now a.total c.in-Ok.ensures (plan_of d.result) d.ensures
    (answered o.result _) _ _ (ap (λ (x : Flash). answered o.result x) left ∙ o.ensures.answer.0) o.ensures.answer.1 c.sum_of.ensures)

pub returns-in-Err : goal.returns-in-Err
returns-in-Err c =
    let a = c.args in
    rw c.into.ensures
    (not_counted a.sectors a.size (flash a.boot.now a.update.now a.swap.now) check_of a.budget a.row.now a.total c.in-Err.ensures)
