use mathlib.Core.Path.{◌≡◌, sym, ap, ◌∙◌, subst}
use native.Mathlib.Omega.{arith}
use Rattle.flash.specs.Buffers.{Flash}
use Rattle.exchange_front.proofs.Follows.{current_within}
use Rattle.exchange_steps.specs.Lent.{bytes}
use Rattle.exchange_steps.proofs.Runs.{did, did_none, shaped_kept, same_again, current_same, run_on, left_on, current_on, run_over, run_spent}
use Rattle.counts.specs.Claims.{Within32}
use Rattle.counts_steps.proofs.Counting.{row_on, row_over, row_spent, room_next}
use Rattle.counts_steps.proofs.repeat_counted.Goals as goal

pub do_next_counted-step-requires : goal.do_next_counted-step-requires
do_next_counted-step-requires c =
    let l = c.loop-at in
    let t = c.loop-at-test.true in
    rw l.invariant.4.geometry (
      l.invariant.1,
      current_within _ l.f.update.now l.at l.invariant.2,
      omega (arith, t),
      l.invariant.5 ∙ c.requires.2,
      room_next _ _ l.at (bytes l.f) l.row c.requires.0.limits l.invariant.2 (omega (arith, t)) (subst Within32 (sym l.invariant.6) c.requires.3),
    )

pub loop-at-preserved : goal.loop-at-preserved
loop-at-preserved c =
    let l = c.loop-at in
    let a = c.args in
    let g = a.f.now.geometry in
    let s = c.do_next_counted-step in
    let f = bytes l.f in
    let n = (did s.result.done c.if-is_none.ensures).1 in
    let step = rw l.invariant.4.geometry at s.ensures.step in
    let y = step.steps.ruled l.invariant.2 in
    let z = step.steps.scanned l.invariant.2 in
    let e = left_on a.job g a.budget l.at f _ s.result y _ n z in (
      omega (arith, e, l.invariant.0),
      shaped_kept g l.f s.new.f l.invariant.1 s.ensures.same,
      current_on a.job g a.budget l.at f _ s.result y _ n z l.invariant.1 l.invariant.2,
      run_on a.job g a.budget l.at f _ s.result y _ n z (omega (arith, c.loop-at-test.true)) l.invariant.0 ∙ l.invariant.3,
      same_again _ l.f s.new.f l.invariant.4 s.ensures.same,
      s.auto.row ∙ l.invariant.5,
      row_on a.job g a.budget l.at f _ s.result y l.row _ step.counts _ n z (omega (arith, c.loop-at-test.true)) ∙ l.invariant.6,
    )

pub returns-then-is_none-clause-same : goal.returns-then-is_none-clause-same
returns-then-is_none-clause-same c =
    let l = c.loop-at in
    same_again _ l.f c.do_next_counted-step.new.f l.invariant.4 c.do_next_counted-step.ensures.same

pub returns-then-is_none-clause-steps : goal.returns-then-is_none-clause-steps
returns-then-is_none-clause-steps c =
    let l = c.loop-at in
    let a = c.args in
    let g = a.f.now.geometry in
    let s = c.do_next_counted-step in
    let step = rw l.invariant.4.geometry at s.ensures.step in
    let y = step.steps.ruled l.invariant.2 in
    let n = did_none s.result.done c.if-is_none.ensures in
    let o = run_over a.job g a.budget l.at (bytes l.f) _ s.result y n (omega (arith, c.loop-at-test.true)) in (
      o.0 ∙ l.invariant.3,
      row_over a.job g a.budget l.at (bytes l.f) _ s.result y l.row _ step.counts n ∙ l.invariant.6,
      current_same g _ _ l.at (ap (λ (x : Flash). x.update) o.1) l.invariant.2,
      l.invariant.0,
    )

pub returns-clause-steps : goal.returns-clause-steps
returns-clause-steps c =
    let l = c.loop-at in
    let a = c.args in
    let g = a.f.now.geometry in
    let f = bytes l.f in
    let z : l.at.left ≡ 0 = omega (arith, c.loop-at-test.false) in (
      run_spent a.job g a.budget l.at f z ∙ l.invariant.3,
      row_spent a.job g l.at f l.row z ∙ l.invariant.6,
      l.invariant.2,
      l.invariant.0,
    )
