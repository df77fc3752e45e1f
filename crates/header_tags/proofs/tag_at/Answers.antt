use native.Mathlib.Omega.{arith}
use Rattle.header_tags.proofs.Laws.{one_left, the_end, no_length, no_value, found}
use Rattle.header_tags.proofs.tag_at.Goals as goal

pub returns-then-left-lt2 : goal.returns-then-left-lt2
returns-then-left-lt2 c = one_left _ _ (omega arith)

pub returns-then-kind-eq-END : goal.returns-then-kind-eq-END
returns-then-kind-eq-END c = the_end _ _ (omega arith) (omega arith)

pub returns-then-left-lt4 : goal.returns-then-left-lt4
returns-then-left-lt4 c = no_length _ _ (omega arith) (omega arith) (omega arith)

pub returns-then-left-length : goal.returns-then-left-length
returns-then-left-length c = no_value _ _ (omega arith) (omega arith) (omega arith)

pub returns : goal.returns
returns c = found _ _ (omega arith) (omega arith) (omega arith) (omega arith) (omega arith)
