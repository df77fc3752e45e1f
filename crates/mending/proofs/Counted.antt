-- The flag bytes that differ are all bytes that differ.
use mathlib.Core.Path.{◌≡◌, refl, sym, ap, ◌∙◌}
use mathlib.Core.Logic.{◌≢◌}
use mathlib.Core.List.{List}
use Prim.Native.Nat.{ℕ, zero, suc, ◌+◌, ◌-◌, ◌*◌, ◌/◌, ◌≤◌, ◌<◌}
use native.Mathlib.Omega.{arith}
use lib.ListN.{get_or}
use borrow.Author.Tests.{eq-eqb, ne_eqb}
use Rattle.flash.specs.declared.Geometry.{Geometry}
use Rattle.flash.specs.Sizes.{firmware, partition_size, Limits}
use Rattle.flash.proofs.Checked.{size_split}
use Rattle.flash_flags.specs.SectorFlags.{flag_byte}
use Rattle.flash_flags.proofs.Laws.{flag_place}
use Rattle.mending.specs.Mending.{differs, differing, changed}
use Rattle.mending.specs.Mended.{bytes_differing, DiffersTells}

same_byte : (a b : ℕ) → a ≡ b → differs a b ≡ 0
same_byte a b e = rw (eq-eqb a b e)

pub differs_tells : DiffersTells
differs_tells = record { same = λ a. same_byte a a refl; other = λ a b h. rw (ne_eqb a b h) }

module _ (g : Geometry) (G : Limits g) (u v : List ℕ) (E : (p : ℕ) → ((i : ℕ) → i < firmware g → p ≢ flag_byte g i) → get_or v p 0 ≡ get_or u p 0) where
  other_byte : (p : ℕ) → ((i : ℕ) → i < firmware g → p ≢ flag_byte g i) → differs (get_or u p 0) (get_or v p 0) ≡ 0
  other_byte p h = same_byte (get_or u p 0) (get_or v p 0) (sym (E p h))

  -- before the flag bytes
  before : (n : ℕ) → n + 1 + (firmware g + 1) / 2 ≤ partition_size g → bytes_differing u v n ≡ 0
  unfolding bytes_differing flag_byte
  before zero h = refl
  before (suc n) h = omega (arith, before n (omega arith), other_byte n (λ i l e. absurd (omega arith)))

  place : (b j q : ℕ) → b + 1 + (firmware g + 1) / 2 ≡ partition_size g → suc j + q ≡ (firmware g + 1) / 2 → flag_byte g (2 * q) ≡ b + j
  unfolding flag_byte
  place b j q h e = omega arith

  -- through them: j are behind, q are left
  through : (b j q : ℕ) → b + 1 + (firmware g + 1) / 2 ≡ partition_size g → j + q ≡ (firmware g + 1) / 2
      → bytes_differing u v (b + j) + differing g u v q ≡ differing g u v ((firmware g + 1) / 2)
  unfolding bytes_differing differing
  through b zero q h e =
      let z : b + 0 ≡ b = omega arith in
      let y : q ≡ (firmware g + 1) / 2 = omega arith in
      ap (λ (n : ℕ). bytes_differing u v n + differing g u v q) z ∙ ap (λ (n : ℕ). n + differing g u v q) (before b (omega arith))
      ∙ omega (arith, ap (differing g u v) y)
  through b (suc j) q h e =
      let z : b + suc j ≡ suc (b + j) = omega arith in
      omega (arith, ap (bytes_differing u v) z, through b j (suc q) h (omega arith), ap (λ (p : ℕ). differs (get_or u p 0) (get_or v p 0)) (place b j q h e))

  pub all_counted_lem : changed g u v ≡ bytes_differing u v (partition_size g)
  unfolding bytes_differing differing flag_byte
  all_counted_lem =
      let c : ℕ = (firmware g + 1) / 2 in
      let b : ℕ = partition_size g - 1 - c in
      let r : c + 1 ≤ partition_size g = omega (arith, size_split g G, G.trailer) in
      let e : partition_size g ≡ suc (b + c) = omega arith in
      omega (arith, ap (bytes_differing u v) e, through b c 0 (omega arith) (omega arith), other_byte (b + c) (λ i l q. absurd (omega (arith, (flag_place g G i l).1))))
