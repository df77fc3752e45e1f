use Rattle.std.proofs.Common.{length, eqb, refl, arith, rules, tests}
use Rattle.std.proofs.lemmas.Iterator.{YieldsList-from_slice}
use Rattle.std.proofs.lemmas.Iterator.Search.{position_from_yields_List}
use Rattle.std.proofs.lemmas.Result.{err_from_is_err_and}
use Rattle.std.proofs.lemmas.List.{length-set}
use Rattle.release_lines.proofs.Reading.{found_first}
use Rattle.release_places.proofs.Cutting.{zeros, within_set, missing_is}
use Rattle.release_places.proofs.Walking.{begun, passed, refused_line, repeated, value_in, taken, lacks, found, turned, accepted}
use Rattle.release_places.proofs.find_values.Goals as goal
use Rattle.release_places.proofs.find_values.Goals.{in-Some+else-places-value-ne0, in_default}

pub loop-at-init : goal.loop-at-init
loop-at-init c = (omega arith, omega arith, refl, λ i. rw (zeros 5 i) (omega arith), begun _)

pub returns-in_err-value : goal.returns-in_err-value
returns-in_err-value c =
    let p = err_from_is_err_and c.from_residual.result c.from_residual.ensures.1 in
    rw (p.1, p.2) (turned (refused_line c.loop-at.invariant.4 c.find-end.ensures.place c.read_line.ensures c.in_err-value.was) refl)

pub returns-then-places-value-ne0 : goal.returns-then-places-value-ne0
returns-then-places-value-ne0 c =
    turned (repeated c.loop-at.invariant.4 c.find-end.ensures.place c.read_line.ensures (rw c.in-Some.is at c.in_ok-value.was) c.if-places-value-ne0.true) refl

pub loop-at-preserved : goal.loop-at-preserved
loop-at-preserved c =
    let l = c.loop-at in
    let text = c.args.text.now in
    let end = c.find-end.ensures in
    let read = c.read_line.ensures in
    elim c.match-branch-2.branch [
      | in-Some+else-places-value-ne0 w ↦
          let is = rw w.in-Some.is at c.in_ok-value.was in
          let v = value_in l.invariant.4 end.place read is end.within in
          rw w.places-is (omega arith, omega arith, simp length-set l.invariant.2, within_set l.places _ _ (length text) l.invariant.3 (omega arith) (omega arith), taken l.invariant.4 end.place read is (omega arith) end.within)
      | in_default w ↦ rw w.places-is (omega arith, omega arith, l.invariant.2, l.invariant.3, passed l.invariant.4 end.place read (rw w.in_default.is at c.in_ok-value.was))
    ]

pub returns-in-Some-position : goal.returns-in-Some-position
returns-in-Some-position c =
    let l = c.loop-at in
    let e = position_from_yields_List (λ p. eqb p 0) _ _ c.position.result c.position.ensures.ran (YieldsList-from_slice _ c.iter.ensures.rest) (λ x k q t. search (rules, tests)) in
    let w = rw c.in-Some-position.is at (found_first _ _ (rw (missing_is c.args.text.now l.places) at e)) in
    turned (lacks l.invariant.4 (omega arith) w.1 (omega arith)) refl

pub returns-in-None : goal.returns-in-None
returns-in-None c =
    let l = c.loop-at in
    let e = position_from_yields_List (λ p. eqb p 0) _ _ c.position.result c.position.ensures.ran (YieldsList-from_slice _ c.iter.ensures.rest) (λ x k q t. search (rules, tests)) in
    let w = rw c.in-None.is at (found_first _ _ (rw (missing_is c.args.text.now l.places) at e)) in
    accepted (found l.invariant.4 (omega arith) (omega (arith, w))) l.invariant.3
