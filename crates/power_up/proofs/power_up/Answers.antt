use mathlib.Core.Path.{ap, ◌∙◌}
use borrow.Author.Rules.{rules}
use Rattle.flash.specs.Buffers.{Flash, flash}
use Rattle.flash.proofs.Checked.{boot_partition, update_partition}
use Rattle.flash.proofs.Answers.{flash_given_lem}
use Rattle.exchange_steps.proofs.Runs.{given_back}
use Rattle.image.specs.Verdict.{check_of}
use Rattle.power_up_decision.specs.Inner.{plan_of}
use Rattle.power_up.specs.Delivered.{answered}
use Rattle.power_up.proofs.Calls.{power_up_inside, power_up_outside}
use Rattle.power_up.proofs.power_up.Goals as goal

pub decide-plan-requires : goal.decide-plan-requires
decide-plan-requires c =
    let S = flash_given_lem _ _ _ _ c.in-Some.ensures in (boot_partition _ _ S, update_partition _ _ S)

pub carry_out-requires : goal.carry_out-requires
carry_out-requires c = (flash_given_lem _ _ _ _ c.in-Some.ensures, c.decide-plan.ensures)

pub returns : goal.returns
returns c =
    let a = c.args in
    let d = c.decide-plan in
    let o = c.carry_out in
    let k = o.ensures.same in
    ap (λ (f : Flash). answered o.result f) (given_back o.new.f (search (rules, k)) (search (rules, k)) (search (rules, k)))
    ∙ o.ensures.answer
    ∙ power_up_inside a.sectors a.size (flash a.boot.now a.update.now a.swap.now) _ c.in-Some.ensures check_of a.budget (plan_of d.result) d.ensures

pub returns-in_default : goal.returns-in_default
returns-in_default c =
    let a = c.args in
    rw c.idle.ensures
    (power_up_outside a.sectors a.size (flash a.boot.now a.update.now a.swap.now) c.in_default.ensures check_of a.budget)
