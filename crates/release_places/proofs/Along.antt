-- What holds from line to line of a sheet that is not refused. Assumes nothing.
use mathlib.Core.Path.{◌≡◌, refl}
use Prim.Native.Nat.{ℕ, suc, ◌≤◌}
use mathlib.Core.List.{List, [], ◌∷◌}
use mathlib.Core.Bool.{Bool, true, false, cond}
use native.Mathlib.Omega.{arith}
use lib.Dec.{ltb}
use borrow.Author.Tests.{ltb-false}
use Rattle.numbers.specs.Answer.{Answer, gives, refused, then}
use Rattle.numbers.proofs.Refusals.{given_same}
use Rattle.release_lines.specs.Lines.{Entry, line_of}
use Rattle.release_places.specs.Judging.{Seen, put, missing_row, judge}

pub not_given : {A : Type 0} {n p : ℕ} {a : A} {B : Type 0} → refused n p ≡ gives a → B
not_given {A} {n} {p} {a} e = let z : ◌≡◌ {A = ℕ} 0 1 = cc in absurd (omega arith)

-- P of what is seen and of the lines still to come; each line that is taken hands it on.
module _ (P : Seen → List (List ℕ) → Type 0)
    (step : (s t : Seen) (n : ℕ) (e : Entry) (l : List ℕ) (ls : List (List ℕ)) → line_of n l ≡ gives e → put s n e ≡ gives t → P s (l ∷ ls) → P t ls)
  where
    -- one line
    one : (s u : Seen) (n : ℕ) (l : List ℕ) (ls : List (List ℕ)) (Q : Type 0) → ((t : Seen) → judge t (suc n) ls ≡ gives u → P t ls → Q)
        → then (then (line_of n l) (λ e. put s n e)) (λ t. judge t (suc n) ls) ≡ gives u → P s (l ∷ ls) → Q
    one s u n l ls Q rest is p = by_line (line_of n l) refl is
      where
        by_put : (e : Entry) → line_of n l ≡ gives e → (b : Answer Seen) → put s n e ≡ b → then b (λ t. judge t (suc n) ls) ≡ gives u → Q
        by_put e x (gives t) y z = rest t z (step s t n e l ls x y p)
        by_put e x (refused m q) y z = not_given z

        by_line : (a : Answer Entry) → line_of n l ≡ a → then (then a (λ e. put s n e)) (λ t. judge t (suc n) ls) ≡ gives u → Q
        by_line (gives e) x z = by_put e x (put s n e) refl z
        by_line (refused m q) x z = not_given z

    pub along : (ls : List (List ℕ)) (s u : Seen) (n : ℕ) → judge s n ls ≡ gives u → P s ls → P u [] × (5 ≤ missing_row u)
    unfolding judge
    along [] s u n is p = go (ltb (missing_row s) 5) _ refl is
      where
        go : (b : Bool) (t : ℕ) → ltb (missing_row s) 5 ≡ b → cond b (refused 105 t) (gives s) ≡ gives u → P u [] × (5 ≤ missing_row u)
        go true t x z = not_given z
        go false t x z = rw (← given_same z) (p, ltb-false _ _ x)
    along (l ∷ ls) s u n is p = one s u n l ls (P u [] × (5 ≤ missing_row u)) (λ t z q. along ls t u (suc n) z q) is p
