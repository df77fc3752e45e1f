use mathlib.Core.Path.{sym}
use native.Mathlib.Omega.{arith}
use Rattle.header_tags.proofs.Laws.{walk_within}
use Rattle.header_tags.proofs.walk_on.Goals as goal

-- the tag found lies within the lent buffer
pub overflow_add-result : goal.overflow_add-result
overflow_add-result c =
    let w = walk_within c.args.s.now c.args.at (sym (rw c.in-Ok-Some.field-0-is at c.in-Ok-Some.ensures)) in omega arith

pub overflow_add-result-in-Ok-Some : goal.overflow_add-result-in-Ok-Some
overflow_add-result-in-Ok-Some c =
    let w = walk_within c.args.s.now c.args.at (sym (rw c.in-Ok-Some.field-0-is at c.in-Ok-Some.ensures)) in omega arith
