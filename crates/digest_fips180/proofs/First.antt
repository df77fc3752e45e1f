-- A list of f 0, f 1, .., as `array::from_fn` makes it.
use Rattle.std.proofs.Common.{◌≡◌, ℕ, zero, suc, ◌+◌, ◌<◌, ◌≤◌, List, [], ◌∷◌, ◌++◌, length, take, sym, refl, ap₂, subst, ◌∙◌, arith, add-zero, zero-add}
use Rattle.std.proofs.lemmas.List.{take_all}
use Rattle.std.proofs.Math.Seq.{take-suc}
use Rattle.std.specs.Iterator.{ActsAs}
use Rattle.std.specs.Array.{IsFromFnResult, IsFromFnResultFrom}
use denote.Param.Members.{Mut}
use Rattle.digest_fips180.specs.Sha256.{◌!◌, first}

-- entry by entry
from_entries : (f : ℕ → ℕ) (l : List ℕ) (n : ℕ) → n ≤ length l → ((k : ℕ) → k < n → l ! k ≡ f k) → take n l ≡ first n f
unfolding first
from_entries f l zero h e = refl
from_entries f l (suc n) h e =
    take-suc l n 0 (omega arith) ∙ ap₂ (λ a x. a ++ x ∷ []) (from_entries f l n (omega arith) (λ k lt. e k (omega arith))) (e n (omega arith))

-- g is a closure that answers with f, and stays the same
module _ {C : Type 0} {g : Mut C (ℕ × Unit {0}) ℕ} {c : C} (f : ℕ → ℕ) (acts : ActsAs g c f) where
  entry : (l : List ℕ) (i n k : ℕ) → IsFromFnResultFrom g c l i n → k < n → l ! (i + k) ≡ f (i + k)
  entry l i (suc n) zero (d, y, at, called, others) lt = rw add-zero (at.1 0 ∙ (acts i y d called).1)
  entry l i (suc n) (suc k) (d, y, at, called, others) lt =
      let e : i + 1 + k ≡ i + suc k = omega arith in
      let same = subst (λ x. IsFromFnResultFrom g x l (i + 1) n) (acts i y d called).0 others in
      subst (λ j. l ! j ≡ f j) e (entry l (i + 1) n k same (omega arith))
  entry l i zero k w lt = absurd (omega arith)

  pub from_fn_made : {l : List ℕ} {n : ℕ} → IsFromFnResult g c l n → l ≡ first n f
  from_fn_made {l} {n} made =
      sym (take_all n l (omega arith)) ∙ from_entries f l n (omega arith) (λ k lt. subst (λ j. l ! j ≡ f j) (zero-add k) (entry l 0 n k made.each lt))
