-- What a write of a sector, of a flag or of a status byte does to every other flag and status byte, and the last two to every sector:
-- once, over n and S.
use mathlib.Core.Path.{◌≡◌, refl, sym, ap, ◌∙◌}
use mathlib.Core.Logic.{◌≢◌}
use mathlib.Core.List.{List}
use Prim.Native.Nat.{ℕ, ◌+◌, ◌*◌, ◌/◌, ◌≤◌, ◌<◌}
use native.Mathlib.Nat.{mul-le-mul_right}
use native.Mathlib.Decide.{ℕ_discrete}
use native.Mathlib.Omega.{arith}
use lib.ListN.{length, get_or, length-set}
use lib.Seq.{get_or-set_same, get_or-set_other}
use Rattle.std.specs.Prelude.{Some}
use Rattle.numbers.specs.Answer.{gives}
use Rattle.flash.specs.declared.Geometry.{Geometry}
use Rattle.flash.specs.Sizes.{firmware, partition_size, Limits}
use Rattle.flash.specs.Sectors.{sector_of, write_sector, erased}
use Rattle.flash.proofs.Checked.{some_firmware, size_split, sector_end}
use Rattle.flash.proofs.Bytes.{part_set}
use Rattle.flash.proofs.Laws.{byte_above, trailer_byte}
use Rattle.flash_status.specs.declared.BootStatus.{BootStatus}
use Rattle.flash_status.specs.declared.BootStatus.TheVariants.{New as BootNew, Testing, Success}
use Rattle.flash_status.specs.declared.UpdateStatus.{UpdateStatus}
use Rattle.flash_status.specs.declared.UpdateStatus.TheVariants.{New as UpdateNew, Updating}
use Rattle.flash_flags.specs.declared.Flag.{Flag}
use Rattle.flash_flags.specs.declared.Flag.TheVariants.{Untouched, Saved, Moved, Exchanged}
use Rattle.flash_flags.specs.declared.Flags.TheVariants.{AllF}
use Rattle.flash_status.specs.StatusBytes.{status_place, status_byte, set_status_byte, boot_byte, boot_status_of, boot_status_at, set_boot_status, update_byte, update_status_of, update_status_at, set_update_status}
use Rattle.flash_flags.specs.SectorFlags.{flag_value, flag_of, flag_byte, half, flag_at, set_flag, flags_at}
use Rattle.flash_flags.proofs.Room.{flags_in_trailer}
use Rattle.flash_flags.proofs.Halves.{value_small, half_same, half_other, half_full}
use Rattle.flash_flags.proofs.Shown.{flags_same, shown_all_F}

-- ---- a value that is written reads as itself

pub reads_boot : (v : BootStatus) → boot_status_of (boot_byte v) ≡ gives v
unfolding boot_status_of
reads_boot BootNew = refl
reads_boot Testing = refl
reads_boot Success = refl

pub reads_update : (v : UpdateStatus) → update_status_of (update_byte v) ≡ gives v
unfolding update_status_of
reads_update UpdateNew = refl
reads_update Updating = refl

pub reads_flag : (v : Flag) → flag_of (flag_value v) ≡ Some v
unfolding flag_of
reads_flag Untouched = refl
reads_flag Saved = refl
reads_flag Moved = refl
reads_flag Exchanged = refl

module _ (g : Geometry) (G : Limits g) where
  -- the byte of a flag lies in the trailer sector, before the status byte
  pub flag_place : (i : ℕ) → i < firmware g → (firmware g * g.size ≤ flag_byte g i) × (flag_byte g i + 1 < partition_size g)
  flag_place i h = (flags_in_trailer g G.few (omega (arith, G.small))).0 G.trailer i h

  pub same_flag_byte : (i j : ℕ) → i ≤ firmware g → j ≤ firmware g → flag_byte g i ≡ flag_byte g j → i / 2 ≡ j / 2
  unfolding flag_byte
  same_flag_byte i j hi hj e = omega (arith, size_split g G, G.trailer, G.small, mul-le-mul_right g.size (some_firmware g G))

  -- ---- a firmware sector is written
  module _ (l x : List ℕ) (L : length l ≡ partition_size g) (X : length x ≡ g.size) (i : ℕ) (hi : i < firmware g) where
    before_trailer : i * g.size + g.size ≤ firmware g * g.size
    before_trailer = sector_end g.size i (firmware g) hi

    pub status_sector : status_byte g (write_sector g i x l) ≡ status_byte g l
    unfolding status_byte
    status_sector = byte_above g G l x L X i (omega arith) (status_place g) 0 (omega (arith, before_trailer, size_split g G, G.small))

    pub flag_byte_sector : (j : ℕ) → j < firmware g → get_or (write_sector g i x l) (flag_byte g j) 0 ≡ get_or l (flag_byte g j) 0
    flag_byte_sector j hj = byte_above g G l x L X i (omega arith) (flag_byte g j) 0 (omega (arith, before_trailer, (flag_place j hj).0))

    pub flag_sector : (j : ℕ) → j < firmware g → flag_at g (write_sector g i x l) j ≡ flag_at g l j
    unfolding flag_at
    flag_sector j hj = ap (λ (b : ℕ). flag_of (half j b)) (flag_byte_sector j hj)

    pub flags_sector : flags_at g (write_sector g i x l) ≡ flags_at g l
    flags_sector = flags_same g (write_sector g i x l) l flag_sector

  -- ---- a trailer sector is erased
  module _ (l : List ℕ) (L : length l ≡ partition_size g) where
    pub status_erased : status_byte g (write_sector g (firmware g) (erased g.size) l) ≡ 0xFF
    unfolding status_byte
    status_erased = trailer_byte g G l L (status_place g) (omega (arith, size_split g G, G.small)) (omega (arith, size_split g G, G.small))

    pub boot_erased : boot_status_at g (write_sector g (firmware g) (erased g.size) l) ≡ gives BootNew
    boot_erased = ap boot_status_of status_erased ∙ reads_boot BootNew

    pub update_erased : update_status_at g (write_sector g (firmware g) (erased g.size) l) ≡ gives UpdateNew
    update_erased = ap update_status_of status_erased ∙ reads_update UpdateNew

    pub flag_erased : (j : ℕ) → j < firmware g → flag_at g (write_sector g (firmware g) (erased g.size) l) j ≡ Some Untouched
    unfolding flag_at
    flag_erased j hj =
        ap (λ (b : ℕ). flag_of (half j b)) (trailer_byte g G l L (flag_byte g j) (flag_place j hj).0 (omega (arith, (flag_place j hj).1)))
        ∙ ap flag_of (half_full j) ∙ reads_flag Untouched

    pub flags_erased : flags_at g (write_sector g (firmware g) (erased g.size) l) ≡ AllF
    flags_erased = shown_all_F g (write_sector g (firmware g) (erased g.size) l) flag_erased

  -- ---- a flag is written
  module _ (l : List ℕ) (L : length l ≡ partition_size g) (i : ℕ) (v : Flag) (hi : i < firmware g) where
    pub length_flag : length (set_flag g i v l) ≡ length l
    unfolding set_flag
    length_flag = simp length-set

    -- every byte but the flag's stays
    pub byte_flag : (p d : ℕ) → p ≢ flag_byte g i → get_or (set_flag g i v l) p d ≡ get_or l p d
    unfolding set_flag
    byte_flag p d h = get_or-set_other l (flag_byte g i) p _ d h

    -- every other half byte stays, for odd m the unused one too, which is half m
    pub half_flag : (j : ℕ) → j ≤ firmware g → j ≢ i → half j (get_or (set_flag g i v l) (flag_byte g j) 0) ≡ half j (get_or l (flag_byte g j) 0)
    unfolding set_flag
    half_flag j hj h = by_byte (ℕ_discrete (flag_byte g j) (flag_byte g i))
      where
        by_byte : Dec (flag_byte g j ≡ flag_byte g i) → half j (get_or (set_flag g i v l) (flag_byte g j) 0) ≡ half j (get_or l (flag_byte g j) 0)
        by_byte (no k) = ap (half j) (get_or-set_other l (flag_byte g i) (flag_byte g j) _ 0 k)
        by_byte (yes e) =
            let q : j / 2 ≡ i / 2 = same_flag_byte j i hj (omega arith) e in
            ap (λ (p : ℕ). half j (get_or (set_flag g i v l) p 0)) e
            ∙ ap (half j) (get_or-set_same l (flag_byte g i) _ 0 (omega (arith, (flag_place i hi).1)))
            ∙ half_other i j (get_or l (flag_byte g i) 0) (flag_value v) (value_small v) (λ k. h (omega arith))
            ∙ ap (λ (p : ℕ). half j (get_or l p 0)) (sym e)

    pub flag_same : flag_at g (set_flag g i v l) i ≡ Some v
    unfolding set_flag flag_at
    flag_same =
        ap (λ (b : ℕ). flag_of (half i b)) (get_or-set_same l (flag_byte g i) _ 0 (omega (arith, (flag_place i hi).1)))
        ∙ ap flag_of (half_same i (get_or l (flag_byte g i) 0) (flag_value v) (value_small v)) ∙ reads_flag v

    pub flag_other : (j : ℕ) → j < firmware g → j ≢ i → flag_at g (set_flag g i v l) j ≡ flag_at g l j
    unfolding flag_at
    flag_other j hj h = ap flag_of (half_flag j (omega arith) h)

    pub sector_flag : (j : ℕ) → j < firmware g → sector_of g j (set_flag g i v l) ≡ sector_of g j l
    unfolding set_flag
    sector_flag j hj = part_set (j * g.size) g.size (flag_byte g i) _ l (omega (arith, (flag_place i hi).0, sector_end g.size j (firmware g) hj))

    pub status_flag : status_byte g (set_flag g i v l) ≡ status_byte g l
    unfolding status_byte
    status_flag = byte_flag (status_place g) 0 (omega (arith, (flag_place i hi).1))

  -- ---- a status byte is written
  module _ (l : List ℕ) (L : length l ≡ partition_size g) (b : ℕ) where
    pub length_status : length (set_status_byte g b l) ≡ length l
    unfolding set_status_byte
    length_status = simp length-set

    -- every other byte stays
    pub byte_status : (p d : ℕ) → p ≢ status_place g → get_or (set_status_byte g b l) p d ≡ get_or l p d
    unfolding set_status_byte
    byte_status p d h = get_or-set_other l (status_place g) p b d h

    pub status_same : status_byte g (set_status_byte g b l) ≡ b
    unfolding set_status_byte status_byte
    status_same = get_or-set_same l (status_place g) b 0 (omega (arith, size_split g G, G.small))

    pub sector_status : (j : ℕ) → j < firmware g → sector_of g j (set_status_byte g b l) ≡ sector_of g j l
    unfolding set_status_byte
    sector_status j hj =
        part_set (j * g.size) g.size (status_place g) b l (omega (arith, size_split g G, G.small, sector_end g.size j (firmware g) hj))

    pub flag_status : (j : ℕ) → j < firmware g → flag_at g (set_status_byte g b l) j ≡ flag_at g l j
    unfolding flag_at
    flag_status j hj = ap (λ (x : ℕ). flag_of (half j x)) (byte_status (flag_byte g j) 0 (λ e. omega (arith, (flag_place j hj).1, e)))

    pub flags_status : flags_at g (set_status_byte g b l) ≡ flags_at g l
    flags_status = flags_same g (set_status_byte g b l) l flag_status

  pub boot_written : (l : List ℕ) → length l ≡ partition_size g → (v : BootStatus) → boot_status_at g (set_boot_status g v l) ≡ gives v
  boot_written l L v = ap boot_status_of (status_same l L (boot_byte v)) ∙ reads_boot v

  pub update_written : (l : List ℕ) → length l ≡ partition_size g → (v : UpdateStatus) → update_status_at g (set_update_status g v l) ≡ gives v
  update_written l L v = ap update_status_of (status_same l L (update_byte v)) ∙ reads_update v
