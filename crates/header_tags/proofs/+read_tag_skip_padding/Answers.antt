use mathlib.Core.Path.{sym, ◌∙◌}
use native.Mathlib.Omega.{arith}
use Rattle.header_tags.proofs.Laws.{next_none, next_padding, next_item_lem}
use Rattle.header_tags.proofs.+read_tag_skip_padding.Goals as goal

pub read_tag-returns-then-h-at : goal.read_tag-returns-then-h-at
read_tag-returns-then-h-at t c = next_none _ _ (omega arith)

pub read_tag-returns-then-h-at-2 : goal.read_tag-returns-then-h-at-2
read_tag-returns-then-h-at-2 t c = c.skip_padding.ensures ∙ next_padding _ _ (omega arith) (omega arith)

pub read_tag-returns : goal.read_tag-returns
read_tag-returns t c = c.tag_at.ensures ∙ next_item_lem _ _ (omega arith) (omega arith)

pub skip_padding-loop-place-preserved : goal.skip_padding-loop-place-preserved
skip_padding-loop-place-preserved t c = next_padding _ _ (omega arith) (omega arith) ∙ c.loop-place.invariant

pub skip_padding-returns : goal.skip_padding-returns
skip_padding-returns t c =
    c.read_tag-2.ensures
    ∙ sym (next_none c.args.h.now _ (omega arith)) ∙ next_none c.args.h.now c.loop-place.place (omega arith)
    ∙ c.loop-place.invariant
