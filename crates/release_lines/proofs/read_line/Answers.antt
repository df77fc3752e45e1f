use Rattle.std.proofs.Common.{arith, sym, ◌∙◌}
use Rattle.std.proofs.lemmas.Result.{err_from_is_err_and}
use borrow.Author.Tests.{eqb-true, eqb-false}
use Rattle.release_lines.proofs.Reading.{handed, not_found, empty, comment, nothing_read, no_space, no_name, no_value, a_value}
use Rattle.release_lines.proofs.read_line.Goals as goal
use Rattle.release_lines.proofs.read_line.Goals.{then-is_empty-via-then-is_empty, then-is_empty-via-else-is_empty+then-l-eq-COMMENT}

pub returns-then-is_empty : goal.returns-then-is_empty
returns-then-is_empty c =
    let l = c.args.l.now in
    nothing_read c.args.number l (elim c.then-is_empty.branch [
      | then-is_empty-via-then-is_empty w ↦ empty l (eqb-true _ _ (sym c.is_empty.ensures ∙ w.if-is_empty.true))
      | then-is_empty-via-else-is_empty+then-l-eq-COMMENT w ↦ comment l (omega arith)
    ])

pub returns-in_err-space : goal.returns-in_err-space
returns-in_err-space c =
    let some = eqb-false _ _ (sym c.is_empty.ensures ∙ c.if-is_empty.false) in
    let space = not_found _ _ _ c.place_of.ensures (sym c.ok_or.ensures.value ∙ c.in_err-space.was) in
    let p = err_from_is_err_and c.from_residual.result c.from_residual.ensures.1 in
    rw (p.1, p.2, space.1) (no_space c.args.number c.args.l.now some c.if-l-eq-COMMENT.false space.0)

pub returns-in_err-row : goal.returns-in_err-row
returns-in_err-row c =
    let some = eqb-false _ _ (sym c.is_empty.ensures ∙ c.if-is_empty.false) in
    let space = handed _ _ c.place_of.ensures (sym c.ok_or.ensures.value ∙ c.in_ok-space.was) in
    let row = not_found _ _ _ c.row_of.ensures (sym c.ok_or-2.ensures.value ∙ c.in_err-row.was) in
    let p = err_from_is_err_and c.from_residual-in_err-row.result c.from_residual-in_err-row.ensures.1 in
    rw (p.1, p.2, row.1) (no_name c.args.number c.args.l.now some c.if-l-eq-COMMENT.false space row.0)

pub returns-then-not-is_value : goal.returns-then-not-is_value
returns-then-not-is_value c =
    let some = eqb-false _ _ (sym c.is_empty.ensures ∙ c.if-is_empty.false) in
    let space = handed _ _ c.place_of.ensures (sym c.ok_or.ensures.value ∙ c.in_ok-space.was) in
    let row = handed _ _ c.row_of.ensures (sym c.ok_or-2.ensures.value ∙ c.in_ok-row.was) in
    no_value c.args.number c.args.l.now some c.if-l-eq-COMMENT.false space row _ c.is_value.ensures c.if-not-is_value.true

pub returns : goal.returns
returns c =
    let some = eqb-false _ _ (sym c.is_empty.ensures ∙ c.if-is_empty.false) in
    let space = handed _ _ c.place_of.ensures (sym c.ok_or.ensures.value ∙ c.in_ok-space.was) in
    let row = handed _ _ c.row_of.ensures (sym c.ok_or-2.ensures.value ∙ c.in_ok-row.was) in
    a_value c.args.number c.args.l.now some c.if-l-eq-COMMENT.false space row _ c.is_value.ensures c.if-not-is_value.false
