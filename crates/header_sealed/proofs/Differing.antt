-- The first difference of two strings of bytes of one length, by what stands in them. Assumes nothing.
use mathlib.Core.Path.{◌≡◌, refl, ap, subst}
use mathlib.Core.Logic.{◌≢◌}
use Rattle.std.specs.Prelude.{Option, None, Some, MatchOption, unwrap_or}
use Rattle.std.specs.List.{AllWithin, HoldsAt, zip}
use Rattle.std.proofs.lemmas.Slice.Zip.{length-zip, get_or-zip}
use Prim.Native.Nat.{ℕ, zero, suc, ◌≤◌, ◌<◌}
use mathlib.Core.List.{List, [], ◌∷◌}
use mathlib.Core.Bool.{Bool, true, false}
use native.Mathlib.Omega.{arith}
use lib.ListN.{length, get_or}
use lib.Seq.{ext_get_or}
use lib.Dec.{eqb}
use borrow.Author.Tests.{eq-eqb, ne_eqb, eqb-true, eqb-false}
use Rattle.header_sealed.specs.Profile.{first_difference}

-- a place before which they are the same, and at which they differ
pub first_is : (a b : List ℕ) (d : ℕ) → length a ≡ length b → d < length a → ((i : ℕ) → i < d → get_or a i 0 ≡ get_or b i 0)
    → get_or a d 0 ≢ get_or b d 0 → d ≡ first_difference a b
unfolding first_difference
first_is [] b d e lt h x = absurd (omega arith)
first_is (y ∷ a) [] d e lt h x = absurd (omega arith)
first_is (y ∷ a) (z ∷ b) zero e lt h x = rw (first_difference, ne_eqb y z x) refl
first_is (y ∷ a) (z ∷ b) (suc d) e lt h x =
    rw (first_difference, eq-eqb y z (h 0 (omega arith))) (ap suc (first_is a b d (omega arith) (omega arith) (λ i l. h (suc i) (omega arith)) x))

-- no such place
pub none_is : (a b : List ℕ) → length a ≡ length b → ((i : ℕ) → i < length a → get_or a i 0 ≡ get_or b i 0) → length a ≡ first_difference a b
unfolding first_difference
none_is [] b e h = refl
none_is (y ∷ a) [] e h = absurd (omega arith)
none_is (y ∷ a) (z ∷ b) e h = rw (first_difference, eq-eqb y z (h 0 (omega arith))) (ap suc (none_is a b (omega arith) (λ i l. h (suc i) (omega arith))))

-- what a search along both, pair by pair, finds
abbrev pub Same : ℕ × ℕ → Type 0
Same p = p.0 ≡ p.1

abbrev pub Differ : ℕ × ℕ → Type 0
Differ p = p.0 ≢ p.1

pub found : (a b : List ℕ) (r : Option ℕ) → length a ≡ length b
    → MatchOption r (AllWithin Same (zip a b) 0 (length (zip a b))) (λ i. (i < length (zip a b)) × HoldsAt Differ (zip a b) i × AllWithin Same (zip a b) 0 i)
    → unwrap_or r (length a) ≡ first_difference a b
found a b None e h =
    none_is a b e (λ i lt. subst Same (get_or-zip a b i (0, 0) lt (omega arith)) (h i (0, 0) (omega arith) (omega (arith, length-zip a b))))
found a b (Some i) e h =
    let n = length-zip a b in
    let lt : i < length a = omega (arith, h.0) in
    first_is a b i e lt
    (λ j l. subst Same (get_or-zip a b j (0, 0) (omega arith) (omega arith)) (h.2 j (0, 0) (omega arith) l))
    (subst Differ (get_or-zip a b i (0, 0) lt (omega arith)) (h.1 (0, 0)))

-- and back: what the place tells of the bytes
pub record First (a b : List ℕ) (d : ℕ) : Type 0 where
  pub within : d ≤ length a
  pub same : (i : ℕ) → i < d → get_or a i 0 ≡ get_or b i 0
  pub differs : d < length a → get_or a d 0 ≢ get_or b d 0

pub first : (a b : List ℕ) → length a ≡ length b → First a b (first_difference a b)
unfolding first_difference
first [] b e = record { within = omega arith; same = λ i lt. absurd (omega arith); differs = λ lt. absurd (omega arith) }
first (y ∷ a) [] e = absurd (omega arith)
first (y ∷ a) (z ∷ b) e = go (first a b (omega arith)) (eqb y z) refl
  where
    go : First a b (first_difference a b) → (t : Bool) → eqb y z ≡ t
        → First (y ∷ a) (z ∷ b) (elim t as (λ (_ : Bool). ℕ) [ true ↦ suc (first_difference a b) | false ↦ 0 ])
    go f true x =
        record {
          within = omega (arith, f.within);
          same = λ i lt. before i lt;
          differs = λ lt. f.differs (omega arith);
        }
      where
        before : (i : ℕ) → i < suc (first_difference a b) → get_or (y ∷ a) i 0 ≡ get_or (z ∷ b) i 0
        before zero lt = eqb-true y z x
        before (suc i) lt = f.same i (omega arith)
    go f false x = record { within = omega arith; same = λ i lt. absurd (omega arith); differs = λ lt. eqb-false y z x }

-- strings that do not differ are the same
pub same_whole : (a b : List ℕ) → length a ≡ length b → length a ≤ first_difference a b → a ≡ b
same_whole a b e le = ext_get_or 0 a b e (λ i lt. (first a b e).same i (omega arith))

pub whole_same : (a b : List ℕ) → a ≡ b → length a ≡ first_difference a b
whole_same a b e = none_is a b (ap length e) (λ i lt. ap (λ (l : List ℕ). get_or l i 0) e)
