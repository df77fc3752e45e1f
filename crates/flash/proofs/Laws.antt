-- What a write of a sector does to its own bytes and to every other sector: once, over n and S.
use mathlib.Core.Path.{◌≡◌, ap, ◌∙◌}
use mathlib.Core.Logic.{◌≢◌}
use mathlib.Core.List.{List}
use Prim.Native.Nat.{ℕ, ◌+◌, ◌-◌, ◌*◌, ◌≤◌, ◌<◌}
use native.Mathlib.Nat.{mul-le-mul_right}
use native.Mathlib.Decide.{dec_lt}
use native.Mathlib.Omega.{arith}
use lib.ListN.{length, get_or, length-replicate, get_or-replicate}
use Rattle.flash.specs.declared.Geometry.{Geometry}
use Rattle.flash.specs.Sizes.{firmware, partition_size, Limits}
use Rattle.flash.specs.Sectors.{sector_of, write_sector, firmware_of, erased}
use Rattle.flash.proofs.Checked.{size_split, sector_end}
use Rattle.flash.proofs.Bytes.{length_patch, part_patch, part_patch_above, part_patch_below, get_d_patch_above, get_d_patch_below, get_d_patch, take_patch}

pub length_erased : (s : ℕ) → length (erased s) ≡ s
unfolding erased
length_erased s = length-replicate s 0xFF

module _ (g : Geometry) (G : Limits g) where
  -- sector i, the trailer sector at most, ends within the partition
  pub sector_in : (i : ℕ) (x l : List ℕ) → i ≤ firmware g → length l ≡ partition_size g → length x ≡ g.size → i * g.size + length x ≤ length l
  sector_in i x l h e k = omega (arith, size_split g G, mul-le-mul_right g.size h)

  -- ---- a sector is written: erased, copied to, or torn
  module _ (l x : List ℕ) (L : length l ≡ partition_size g) (X : length x ≡ g.size) (i : ℕ) (hi : i ≤ firmware g) where
    pub length_sector : length (write_sector g i x l) ≡ length l
    length_sector = length_patch (i * g.size) x l (sector_in i x l hi L X)

    pub sector_same : sector_of g i (write_sector g i x l) ≡ x
    sector_same = rw X at (part_patch (i * g.size) x l (sector_in i x l hi L X))

    pub sector_other : (j : ℕ) → j ≢ i → sector_of g j (write_sector g i x l) ≡ sector_of g j l
    sector_other j h = by_order (dec_lt j i)
      where
        by_order : Dec (j < i) → sector_of g j (write_sector g i x l) ≡ sector_of g j l
        by_order (yes a) = part_patch_below (i * g.size) x l (sector_in i x l hi L X) (j * g.size) g.size (sector_end g.size j i a)
        by_order (no a) = part_patch_above (i * g.size) x l (sector_in i x l hi L X) (j * g.size) g.size (omega (arith, X, sector_end g.size i j (omega arith)))

    -- every byte outside the sector stays
    pub byte_below : (p d : ℕ) → p < i * g.size → get_or (write_sector g i x l) p d ≡ get_or l p d
    byte_below p d h = get_d_patch_below (i * g.size) x l (sector_in i x l hi L X) p d h

    pub byte_above : (p d : ℕ) → i * g.size + g.size ≤ p → get_or (write_sector g i x l) p d ≡ get_or l p d
    byte_above p d h = get_d_patch_above (i * g.size) x l (sector_in i x l hi L X) p d (omega (arith, X))

  -- ---- a trailer sector is written, and erased
  pub firmware_trailer : (l x : List ℕ) → length l ≡ partition_size g → length x ≡ g.size → firmware_of g (write_sector g (firmware g) x l) ≡ firmware_of g l
  firmware_trailer l x L X = take_patch (firmware g * g.size) x l (sector_in (firmware g) x l (omega arith) L X)

  module _ (l : List ℕ) (L : length l ≡ partition_size g) where
    -- an erased one holds FF only
    pub trailer_byte : (p : ℕ) → firmware g * g.size ≤ p → p < partition_size g → get_or (write_sector g (firmware g) (erased g.size) l) p 0 ≡ 0xFF
    unfolding erased
    trailer_byte p h k =
        let q : p - firmware g * g.size < g.size = omega (arith, size_split g G) in
        let e : p ≡ firmware g * g.size + (p - firmware g * g.size) = omega arith in
        ap (λ (n : ℕ). get_or (write_sector g (firmware g) (erased g.size) l) n 0) e
        ∙ get_d_patch (firmware g * g.size) (erased g.size) l (sector_in (firmware g) (erased g.size) l (omega arith) L (length_erased g.size)) (p - firmware g * g.size) 0
        (omega (arith, length_erased g.size))
        ∙ get_or-replicate g.size (p - firmware g * g.size) 0xFF 0 q
