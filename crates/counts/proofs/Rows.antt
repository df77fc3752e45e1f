-- A row that is raised by some operations, and the sum of it.
use mathlib.Core.Path.{◌≡◌, refl, sym, ◌∙◌}
use mathlib.Core.Logic.{◌≢◌}
use mathlib.Core.Bool.{true, false}
use mathlib.Core.List.{List, [], ◌∷◌}
use Prim.Native.Nat.{ℕ, suc, ◌+◌, ◌≤◌, ◌<◌}
use native.Mathlib.Decide.{ℕ_discrete}
use native.Mathlib.Omega.{arith}
use lib.ListN.{length, get_or, set, length-set}
use lib.Seq.{get_or-set_same, get_or-set_other}
use lib.Dec.{ltb}
use borrow.Author.Tests.{lt-ltb, le-ltb, eq-eqb, ne_eqb}
use Rattle.std.specs.Prelude.{Option, Some, None, sum}
use Rattle.std.specs.List.{list_any}
use Rattle.std.proofs.lemmas.List.Elements.{All-from_get_or}
use Rattle.std.proofs.lemmas.List.Sums.{sum_by-set}
use Rattle.std.proofs.lemmas.List.Folds.{list_any_at, list_any_none}
use Rattle.numbers.specs.Every.{Every}
use Rattle.flash.specs.declared.Geometry.{Geometry}
use Rattle.exchange.specs.declared.Operation.{Operation}
use Rattle.counts.specs.Row.{slot, raise, raised}
use Rattle.counts.specs.Claims.{raises_at, erases_at, raises_some, erases_in}

-- ---- one place

pub raises_here : (j k : ℕ) → j ≡ k → raises_at k (Some j) ≡ 1
raises_here j k e = rw (eq-eqb j k e) refl

pub raises_elsewhere : (j k : ℕ) → j ≢ k → raises_at k (Some j) ≡ 0
raises_elsewhere j k h = rw (ne_eqb j k h) refl

pub length_raise : (s : Option ℕ) (row : List ℕ) → length (raise s row) ≡ length row
length_raise None row = refl
length_raise (Some j) row = length-set row j (suc (get_or row j 0))

raise_place : (s : Option ℕ) (row : List ℕ) (k : ℕ) → k < length row → get_or (raise s row) k 0 ≡ get_or row k 0 + raises_at k s
raise_place None row k h = omega arith
raise_place (Some j) row k h = by (ℕ_discrete k j)
  where
    by : Dec (k ≡ j) → get_or (set row j (suc (get_or row j 0))) k 0 ≡ get_or row k 0 + raises_at k (Some j)
    by (yes e) =
        rw (sym e) (get_or-set_same row k (suc (get_or row k 0)) 0 h ∙ omega (arith, raises_here k k refl))
    by (no n) = get_or-set_other row j k (suc (get_or row j 0)) 0 n ∙ omega (arith, raises_elsewhere j k (λ e. n (sym e)))

-- ---- some operations

module _ (g : Geometry) where
  pub length_raised : (os : List Operation) (row : List ℕ) → length (raised g os row) ≡ length row
  length_raised [] row = refl
  length_raised (o ∷ os) row = length_raised os (raise (slot g o) row) ∙ length_raise (slot g o) row

  pub raised_place : (os : List Operation) (row : List ℕ) (k : ℕ) → k < length row → get_or (raised g os row) k 0 ≡ get_or row k 0 + erases_at g k os
  raised_place [] row k h = omega arith
  raised_place (o ∷ os) row k h =
      let l = length_raise (slot g o) row in
      omega (arith, raised_place os (raise (slot g o) row) k (omega (arith, l)), raise_place (slot g o) row k h)

-- ---- the sum

-- the place of an operation is one of n
abbrev pub SlotBelow : ℕ → Option ℕ → Type 0
SlotBelow n None = Unit {0}
SlotBelow n (Some j) = j < n

pub sum_raise : (s : Option ℕ) (row : List ℕ) → SlotBelow (length row) s → sum (raise s row) ≡ sum row + raises_some s
sum_raise None row h = omega arith
sum_raise (Some j) row h = omega (arith, sum_by-set (λ x. x) row j (suc (get_or row j 0)) 0 h)

pub sum_raised : (g : Geometry) (n : ℕ) (os : List Operation) (row : List ℕ) → length row ≡ n → Every (λ o. SlotBelow n (slot g o)) os
    → sum (raised g os row) ≡ sum row + erases_in g os
sum_raised g n [] row l h = omega arith
sum_raised g n (o ∷ os) row l h =
    omega (
      arith,
      sum_raised g n os (raise (slot g o) row) (length_raise (slot g o) row ∙ l) h.1,
      sum_raise (slot g o) row (rw l h.0),
    )

-- ---- a count that is too high

pub none_above : (limit : ℕ) (row : List ℕ) → ((k : ℕ) → k < length row → get_or row k 0 ≤ limit) → list_any (ltb limit) row ≡ false
none_above limit row h = list_any_none (ltb limit) row (All-from_get_or (λ c. ltb limit c ≡ false) row 0 (λ k b. le-ltb limit (get_or row k 0) (h k b)))

pub one_above : (limit : ℕ) (row : List ℕ) (k : ℕ) → k < length row → limit < get_or row k 0 → list_any (ltb limit) row ≡ true
one_above limit row k l h = list_any_at (ltb limit) row k 0 l (lt-ltb limit (get_or row k 0) h)
