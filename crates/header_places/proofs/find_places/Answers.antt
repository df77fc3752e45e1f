use mathlib.Core.Path.{◌≡◌, refl, sym, ◌∙◌}
use native.Mathlib.Omega.{arith}
use lib.ListN.{length, length-set, length-map}
use Rattle.header_places.specs.declared.Row.{Row}
use Rattle.header_places.specs.Table.{types_of, lengths_of, table}
use Rattle.header_places.proofs.Judged.{length_at, type_at, type_is, no_type, tag_in, skipped, not_understood_lem, wrong_length_lem, repeated, taken, lacks, whole, breaks, told, begun}
use Rattle.header_places.proofs.find_places.Goals.{in-Some-row_with+else-tag-rows+else-places-row-ne0, in-None+else-tag-ge-CRITICAL}
use Rattle.header_places.proofs.find_places.Goals as goal

pub loop-tag-init : goal.loop-tag-init
loop-tag-init c =
    let t = c.args.table in
    let six : length t.rows ≡ 6 = omega arith in
    (six, refl, begun (table (types_of t.rows) (lengths_of t.rows) t.required) c.args.h.now 6 (length-map t.rows (λ (r : Row). r.kind) ∙ six))

pub returns-in_err-tag : goal.returns-in_err-tag
returns-in_err-tag c = told _ _ c.from_residual.ensures.1 (breaks c.loop-tag.invariant.2 c.in_err-tag.ensures)

pub returns-then-tag-rows : goal.returns-then-tag-rows
returns-then-tag-rows c =
    wrong_length_lem c.loop-tag.invariant.2 (rw c.in-Some.is at c.in_ok-tag.ensures) (type_is _ _ c.in-Some-row_with.ensures) (λ e. c.if-tag-rows.true (e ∙ length_at c.args.table.rows c.in-Some-row_with.row))

pub returns-then-places-row-ne0 : goal.returns-then-places-row-ne0
returns-then-places-row-ne0 c =
    repeated c.loop-tag.invariant.2 (rw c.in-Some.is at c.in_ok-tag.ensures) (type_is _ _ c.in-Some-row_with.ensures) (c.if-tag-rows.false ∙ sym (length_at c.args.table.rows c.in-Some-row_with.row)) c.if-places-row-ne0.true

pub returns-then-tag-ge-CRITICAL : goal.returns-then-tag-ge-CRITICAL
returns-then-tag-ge-CRITICAL c =
    not_understood_lem c.loop-tag.invariant.2 (rw c.in-Some.is at c.in_ok-tag.ensures) (no_type _ _ c.in-None.ensures) (omega arith)

pub loop-tag-smaller : goal.loop-tag-smaller
loop-tag-smaller c =
    let w = tag_in c.loop-tag.invariant.2 (rw c.in-Some.is at c.in_ok-tag.ensures) in
    omega arith

pub loop-tag-preserved : goal.loop-tag-preserved
loop-tag-preserved c =
    let inv = c.loop-tag.invariant in
    let g = rw c.in-Some.is at c.in_ok-tag.ensures in
    elim c.match-row_with.branch [
      | in-Some-row_with+else-tag-rows+else-places-row-ne0 w ↦
          rw w.places-is (inv.0, simp length-set inv.1, taken inv.2 g (type_is _ _ w.in-Some-row_with.ensures) (w.if-tag-rows.false ∙ sym (length_at c.args.table.rows w.in-Some-row_with.row)) w.if-places-row-ne0.false)
      | in-None+else-tag-ge-CRITICAL w ↦ rw w.places-is (inv.0, inv.1, skipped inv.2 g (no_type _ _ w.in-None.ensures) (omega arith))
    ]

pub returns-in-Some-row_of : goal.returns-in-Some-row_of
returns-in-Some-row_of c =
    rw (type_at c.args.table.rows c.in-Some-row_of.first) at
    (lacks c.loop-tag.invariant.2 (rw c.in_default.is at c.in_ok-tag.ensures) (omega arith) c.in-Some-row_of.ensures)

pub returns-in-None-row_of : goal.returns-in-None-row_of
returns-in-None-row_of c =
    whole c.loop-tag.invariant.2 (rw c.in_default.is at c.in_ok-tag.ensures) (omega arith) c.in-None-row_of.ensures

pub overflow_add-at : goal.overflow_add-at
overflow_add-at c =
    let w = tag_in c.loop-tag.invariant.2 (rw c.in-Some.is at c.in_ok-tag.ensures) in
    omega arith

pub overflow_add-at-in-Some : goal.overflow_add-at-in-Some
overflow_add-at-in-Some c =
    let w = tag_in c.loop-tag.invariant.2 (rw c.in-Some.is at c.in_ok-tag.ensures) in
    omega arith
