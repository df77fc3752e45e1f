-- The trailer sector has room for the flags.
use mathlib.Core.Path.{◌≡◌, refl, ap, ◌∙◌}
use Prim.Native.Nat.{ℕ, suc, ◌+◌, ◌-◌, ◌*◌, ◌/◌, ◌%◌, ◌≤◌, ◌<◌}
use native.Mathlib.Nat.{mul-le-mul, mul-le-mul_right, suc-mul}
use native.Mathlib.Omega.{arith}
use lib.ListN.{get_or}
use borrow.Author.Tests.{eq-eqb, ne_eqb}
use Rattle.flash.specs.declared.Geometry.{Geometry}
use Rattle.flash.specs.Sizes.{firmware, partition_size, Limits}
use Rattle.flash.proofs.Checked.{some_firmware, size_split}
use Rattle.flash_status.specs.StatusBytes.{status_byte}
use Rattle.flash_flags.specs.SectorFlags.{flag_of, flag_byte, half, flag_at}
use Rattle.flash_flags.specs.InTrailer.{FlagsInTrailer, ReadsAsBefore}

-- the byte of sector i's flag lies in the partition
pub flag_room : (g : Geometry) → Limits g → (i : ℕ) → i < firmware g → 3 + i / 2 ≤ partition_size g
flag_room g G i h = omega (arith, size_split g G, G.trailer, G.small, mul-le-mul_right g.size (some_firmware g G))

pub flag_inside : (g : Geometry) → Limits g → (i : ℕ) → i < firmware g → flag_byte g i < partition_size g
unfolding flag_byte
flag_inside g G i h = omega (arith, flag_room g G i h)

-- the last flag has the lowest place, and where it is right the trailer fits
pub flags_in_trailer : FlagsInTrailer
unfolding flag_byte firmware
flags_in_trailer g n s =
    let m = g.sectors - 1 in
    let k : g.sectors ≡ suc m = omega arith in
    let e : partition_size g ≡ m * g.size + g.size = ap (λ (x : ℕ). x * g.size) k ∙ suc-mul m g.size in
    let one : 1 ≤ m = omega arith in
    let some : 1 * 1 ≤ m * g.size = mul-le-mul one s in
    (λ t i h. (omega (arith, e, t, h), omega (arith, e, t, h)), λ f. omega (arith, e, some, (f (m - 1) (omega arith)).0))

pub reads_as_before : ReadsAsBefore
unfolding status_byte flag_at flag_byte half
reads_as_before n s l = record {
  status = refl;
  even = λ k.
      rw (eq-eqb ((2 * k) % 2) 0 (omega arith))
      (ap (λ (p : ℕ). flag_of (get_or l (n * s - 2 - p) 0 % 16)) (omega arith));
  odd = λ k.
      rw (ne_eqb ((2 * k + 1) % 2) 0 (λ e. omega arith))
      (ap (λ (p : ℕ). flag_of (get_or l (n * s - 2 - p) 0 / 16)) (omega arith));
}
