-- The two halves of a flag byte.
use mathlib.Core.Path.{◌≡◌}
use Prim.Native.Nat.{ℕ, ◌+◌, ◌*◌, ◌/◌, ◌%◌, ◌<◌}
use native.Mathlib.Decide.{ℕ_discrete}
use native.Mathlib.Omega.{arith}
use borrow.Author.Tests.{eq-eqb, ne_eqb}
use Rattle.flash_flags.specs.declared.Flag.{Flag}
use Rattle.flash_flags.specs.declared.Flag.TheVariants.{Untouched, Saved, Moved, Exchanged}
use Rattle.flash_flags.specs.SectorFlags.{flag_value, half, with_half}

pub value_small : (v : Flag) → flag_value v < 16
value_small Untouched = omega arith
value_small Saved = omega arith
value_small Moved = omega arith
value_small Exchanged = omega arith

pub half_even : (i b : ℕ) → i % 2 ≡ 0 → half i b ≡ b % 16
unfolding half
half_even i b e = simp (eq-eqb _ _ e)

pub half_odd : (i b : ℕ) → (i % 2 ≡ 0 → ⊥) → half i b ≡ b / 16
unfolding half
half_odd i b e = simp (ne_eqb _ _ e)

pub with_even : (i b v : ℕ) → i % 2 ≡ 0 → with_half i b v ≡ b / 16 * 16 + v
unfolding with_half
with_even i b v e = simp (eq-eqb _ _ e)

pub with_odd : (i b v : ℕ) → (i % 2 ≡ 0 → ⊥) → with_half i b v ≡ v * 16 + b % 16
unfolding with_half
with_odd i b v e = simp (ne_eqb _ _ e)

-- the half that is set, and the other half
pub half_same : (i b v : ℕ) → v < 16 → half i (with_half i b v) ≡ v
half_same i b v h = by (ℕ_discrete (i % 2) 0)
  where
    by : Dec (i % 2 ≡ 0) → half i (with_half i b v) ≡ v
    by (yes e) = rw (with_even i b v e, half_even i (b / 16 * 16 + v) e) (omega arith)
    by (no e) = rw (with_odd i b v e, half_odd i (v * 16 + b % 16) e) (omega arith)

pub half_other : (i j b v : ℕ) → v < 16 → (i % 2 ≡ j % 2 → ⊥) → half j (with_half i b v) ≡ half j b
half_other i j b v h k = by (ℕ_discrete (i % 2) 0)
  where
    by : Dec (i % 2 ≡ 0) → half j (with_half i b v) ≡ half j b
    by (yes e) =
        let o : j % 2 ≡ 0 → ⊥ = λ z. k (omega arith) in
        rw (with_even i b v e, half_odd j (b / 16 * 16 + v) o, half_odd j b o) (omega arith)
    by (no e) =
        let z : j % 2 ≡ 0 = omega arith in
        rw (with_odd i b v e, half_even j (v * 16 + b % 16) z, half_even j b z) (omega arith)

-- an erased byte holds F in both halves
pub half_full : (i : ℕ) → half i 0xFF ≡ flag_value Untouched
half_full i = by (ℕ_discrete (i % 2) 0)
  where
    by : Dec (i % 2 ≡ 0) → half i 0xFF ≡ flag_value Untouched
    by (yes e) = half_even i 0xFF e
    by (no e) = half_odd i 0xFF e
