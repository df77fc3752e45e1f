-- Two strings of bytes that are the same. Assumes nothing.
use mathlib.Core.Path.{◌≡◌, refl, sym, ap₂, ◌∙◌}
use Prim.Native.Nat.{ℕ}
use mathlib.Core.Bool.{Bool, true, false, true≢false}
use mathlib.Core.List.{List, [], ◌∷◌}
use lib.Dec.{eqb}
use borrow.Author.Tests.{eq-eqb, eqb-true}
use Rattle.numbers.proofs.Tests.{both}
use Rattle.header_tags.specs.Bytes.{same}

pub same_refl : (a : List ℕ) → same a a ≡ true
unfolding same
same_refl [] = refl
same_refl (x ∷ xs) = rw (eq-eqb x x refl) (same_refl xs)

pub same_true : (a b : List ℕ) → same a b ≡ true → a ≡ b
unfolding same
same_true [] [] e = refl
same_true [] (y ∷ ys) e = absurd (true≢false (sym e))
same_true (x ∷ xs) [] e = absurd (true≢false (sym e))
same_true (x ∷ xs) (y ∷ ys) e =
    let w = both (eqb x y) (same xs ys) e in
    ap₂ ◌∷◌ (eqb-true x y w.0) (same_true xs ys w.1)

-- a test that holds exactly if the bytes are the same
pub same_is : (a b : List ℕ) (r : Bool) → (r ≡ true → a ≡ b) → (a ≡ b → r ≡ true) → r ≡ same a b
same_is a b true f g = sym (rw (f refl) (same_refl b))
same_is a b false f g = go (same a b) refl
  where
    go : (s : Bool) → same a b ≡ s → false ≡ s
    go true e = g (same_true a b e)
    go false e = refl

-- and what the test says
pub test : {a b : List ℕ} {r v : Bool} → (r ≡ true → a ≡ b) × (a ≡ b → r ≡ true) → r ≡ v → same a b ≡ v
test {a} {b} {r} w e = sym (same_is a b r w.0 w.1) ∙ e
