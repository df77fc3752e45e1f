-- Refusals by their numbers. Assumes nothing.
use mathlib.Core.Path.{◌≡◌, sym, ap, ◌∙◌}
use Rattle.numbers.specs.Answer.{Answer, gives}
use Rattle.numbers.specs.GivenBack.{refusal_of}

-- an answer gives one thing only
pub given_same : {A : Type 0} {x y : A} → ◌≡◌ {A = Answer A} (gives x) (gives y) → x ≡ y
given_same e = cc

-- two answers that differ in their number are two; 0 stands for the number of one that gives
pub apart : {A X : Type 0} {a b c : Answer A} → c ≡ a → c ≡ b → ((refusal_of a).number ≡ (refusal_of b).number → ⊥) → X
apart {A = A} x y d = absurd (d (ap (λ (z : Answer A). (refusal_of z).number) (sym x ∙ y)))
