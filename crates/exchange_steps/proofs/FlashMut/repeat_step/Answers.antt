use mathlib.Core.Path.{ap, ◌∙◌}
use native.Mathlib.Omega.{arith}
use Rattle.flash.specs.Buffers.{Flash}
use Rattle.exchange_front.proofs.Follows.{current_within}
use Rattle.exchange_steps.specs.Lent.{bytes}
use Rattle.exchange_steps.proofs.Runs.{did, did_none, shaped_kept, same_again, current_same, run_on, left_on, current_on, run_over, run_spent}
use Rattle.exchange_steps.proofs.FlashMut.repeat_step.Goals as goal

pub do_next-step-requires : goal.do_next-step-requires
do_next-step-requires c =
    let l = c.loop-at in
    let e = l.invariant.4.geometry in
    rw e (l.invariant.1, current_within _ l.self.update.now l.at l.invariant.2, omega (arith, c.loop-at-test.true))

pub loop-at-preserved : goal.loop-at-preserved
loop-at-preserved c =
    let l = c.loop-at in
    let a = c.args in
    let g = a.self.now.geometry in
    let s = c.do_next-step in
    let f = bytes l.self in
    let n = (did s.result.done c.if-is_none.ensures).1 in
    let step = rw l.invariant.4.geometry at s.ensures.step in
    let ruled = step.ruled l.invariant.2 in
    let scanned = step.scanned l.invariant.2 in
    let e = left_on a.job g a.budget l.at f _ s.result ruled _ n scanned in (
      omega (arith, e, l.invariant.0),
      shaped_kept g l.self s.new.self l.invariant.1 s.ensures.same,
      current_on a.job g a.budget l.at f _ s.result ruled _ n scanned l.invariant.1 l.invariant.2,
      run_on a.job g a.budget l.at f _ s.result ruled _ n scanned (omega (arith, c.loop-at-test.true)) l.invariant.0 ∙ l.invariant.3,
      same_again _ l.self s.new.self l.invariant.4 s.ensures.same,
    )

pub returns-then-is_none-clause-steps : goal.returns-then-is_none-clause-steps
returns-then-is_none-clause-steps c =
    let l = c.loop-at in
    let a = c.args in
    let g = a.self.now.geometry in
    let s = c.do_next-step in
    let step = rw l.invariant.4.geometry at s.ensures.step in
    let o = run_over a.job g a.budget l.at (bytes l.self) _ s.result (step.ruled l.invariant.2) (did_none s.result.done c.if-is_none.ensures) (omega (arith, c.loop-at-test.true)) in
    (o.0 ∙ l.invariant.3, current_same g _ _ l.at (ap (λ (x : Flash). x.update) o.1) l.invariant.2, l.invariant.0)

pub returns-then-is_none-clause-same : goal.returns-then-is_none-clause-same
returns-then-is_none-clause-same c =
    let l = c.loop-at in
    same_again _ l.self c.do_next-step.new.self l.invariant.4 c.do_next-step.ensures.same

pub returns-clause-steps : goal.returns-clause-steps
returns-clause-steps c =
    let l = c.loop-at in
    let a = c.args in
    let g = a.self.now.geometry in
    (run_spent a.job g a.budget l.at (bytes l.self) (omega (arith, c.loop-at-test.false)) ∙ l.invariant.3, l.invariant.2, l.invariant.0)
