-- Document 02, "Keep the front": the first sector whose flag is not 0, over any bytes of UPDATE.
use Rattle.std.specs.Prelude.{◌≡◌, ◌≢◌, ◌⊎◌, ◌↔◌, Bool, true, false, cond, List, [], ◌∷◌, ℕ, suc, ◌+◌, ◌-◌, ◌≤◌, ◌<◌, length, get_or, eqb, Option, Some, None}
use Rattle.flash.specs.declared.Geometry.{Geometry}
use Rattle.flash.specs.declared.SectorNumber.{SectorNumber}
use Rattle.flash.specs.Sizes.{geometry, firmware, Limits}
use Rattle.flash.specs.Sectors.{sector_number, Partition, write_sector, erased}
use Rattle.flash_status.specs.StatusBytes.{set_status_byte}
use Rattle.flash_flags.specs.declared.Flag.{Flag}
use Rattle.flash_flags.specs.declared.Flag.TheVariants.{Untouched, Saved, Moved, Exchanged}
use Rattle.flash_flags.specs.declared.Leg.{Leg}
use Rattle.flash_flags.specs.declared.Leg.TheVariants.{UpdateToSwap, BootToUpdate, SwapToBoot}
use Rattle.flash_flags.specs.declared.Flags.{Flags}
use Rattle.flash_flags.specs.declared.Flags.TheVariants.{Malformed, AllF, At, All0}
use Rattle.flash_flags.specs.SectorFlags.{flag_at, set_flag, flags_from, flags, all_f, flags_at}

-- a flag is 0; a half byte that is no flag is not
abbrev pub is0 : Option Flag → Bool
is0 (Some Untouched) = false
is0 (Some Saved) = false
is0 (Some Moved) = false
is0 (Some Exchanged) = true
is0 None = false

-- the first sector whose flag is not 0, of some sectors in a row, the first of them sector i; where all are 0, the number after the last
unfoldable pub first_not0 : ℕ → List (Option Flag) → ℕ
first_not0 i [] = i
first_not0 i (v ∷ vs) = cond (is0 v) (first_not0 (suc i) vs) i

-- The front: "that sector number", by a scan of the firmware sectors' flags from sector 0 up. It is m where all are 0.
unfoldable pub front : Geometry → List ℕ → ℕ
front g u = first_not0 0 (flags g u)

-- What the flags show by a front i that is a firmware sector and its own flag v, if those after it are F only: all F, or the leg of sector
-- i. No front has flag 0.
abbrev pub by_own_flag : ℕ → Option Flag → Flags
by_own_flag i (Some Untouched) = cond (eqb i 0) AllF (At (sector_number i) UpdateToSwap)
by_own_flag i (Some Saved) = At (sector_number i) BootToUpdate
by_own_flag i (Some Moved) = At (sector_number i) SwapToBoot
by_own_flag i (Some Exchanged) = Malformed
by_own_flag i None = Malformed

-- The same by any front of m firmware sectors: where it is m, all flags are 0.
abbrev pub by_front : ℕ → ℕ → Option Flag → Flags
by_front m i v = cond (eqb i m) All0 (by_own_flag i v)

-- the flags of the firmware sectors after sector i are F only
unfoldable pub untouched_after : Geometry → List ℕ → ℕ → Bool
untouched_after g u i = all_f (flags_from g u (firmware g - (i + 1)) (i + 1))

-- 01's "well formed"
abbrev pub WellFormed : Geometry → List ℕ → Type 0
WellFormed g u = flags_at g u ≢ Malformed

-- ---- What is claimed of the front. Each statement is proved in proofs/.

-- Sector i is the first whose flag is not 0; or i is m, and every flag is 0.
pub record IsFront (g : Geometry) (u : List ℕ) (i : ℕ) : Type 0 where
  pub within : i ≤ firmware g
  pub before : (j : ℕ) → j < i → flag_at g u j ≡ Some Exchanged
  pub here : i < firmware g → flag_at g u i ≢ Some Exchanged

-- The scan gives that number and no other, whatever the bytes are.
abbrev pub FrontExactly : Type 0
FrontExactly = (g : Geometry) (u : List ℕ) (i : ℕ) → (front g u ≡ i) ↔ (IsFront g u i)

-- It is the sector that the flags show: 0 where all are F, and m exactly where all are 0.
pub record FrontShown (g : Geometry) (u : List ℕ) : Type 0 where
  pub untouched : flags_at g u ≡ AllF → front g u ≡ 0
  pub in_leg : (i : SectorNumber) (leg : Leg) → flags_at g u ≡ At i leg → front g u ≡ i.0
  pub exchanged : (flags_at g u ≡ All0) ↔ (front g u ≡ firmware g)

abbrev pub ShowsFront : Type 0
ShowsFront = (g : Geometry) (u : List ℕ) → Limits g → FrontShown g u

-- The front and its own flag tell all that the flags show, if those after it are F only; else they are not well formed. So of well-formed
-- flags no other has to be read.
pub record ToldByFront (g : Geometry) (u : List ℕ) : Type 0 where
  pub told : flags_at g u ≡ cond (untouched_after g u (front g u)) (by_front (firmware g) (front g u) (flag_at g u (front g u))) Malformed
  pub alone : WellFormed g u → flags_at g u ≡ by_front (firmware g) (front g u) (flag_at g u (front g u))

abbrev pub FrontTells : Type 0
FrontTells = (g : Geometry) (u : List ℕ) → Limits g → ToldByFront g u

-- What the writes that are done in UPDATE do to it: the erase of the trailer sector makes it 0; a write to a firmware sector or to the
-- status byte, or of a flag other than 0 at the front, leaves it; flag 0 at the front takes it to the next sector, if that is m or has a
-- flag that is not 0.
pub record FrontWritten (g : Geometry) (u : List ℕ) : Type 0 where
  pub trailer : front g (write_sector g (firmware g) (erased g.size) u) ≡ 0
  pub sector : (i : ℕ) (x : List ℕ) → i < firmware g → length x ≡ g.size → front g (write_sector g i x u) ≡ front g u
  pub status : (b : ℕ) → front g (set_status_byte g b u) ≡ front g u
  pub flag : (v : Flag) → v ≢ Exchanged → front g u < firmware g → front g (set_flag g (front g u) v u) ≡ front g u
  pub flag0 : front g u < firmware g → (suc (front g u) ≡ firmware g) ⊎ (flag_at g u (suc (front g u)) ≢ Some Exchanged)
      → front g (set_flag g (front g u) Exchanged u) ≡ suc (front g u)

abbrev pub WritesFront : Type 0
WritesFront = (g : Geometry) (u : List ℕ) → Partition g u → FrontWritten g u

-- Of three sectors of 256 bytes, whose flag byte is at 766: after 3, 6, 9, 12, 15 and 18 operations of document 01's marked case 1, with
-- all flags F, and with a half byte that is no flag before or after a 0.
abbrev pub FrontOfByte : ℕ → ℕ → Type 0
FrontOfByte b k = (u : List ℕ) → get_or u 766 0 ≡ b → front (geometry 3 256) u ≡ k

abbrev pub FrontCases : Type 0
FrontCases =
    (FrontOfByte 0xFF 0) × (FrontOfByte 0xF7 0) × (FrontOfByte 0xF3 0) × (FrontOfByte 0xF0 1) × (FrontOfByte 0x70 1) × (FrontOfByte 0x30 1) × (FrontOfByte 0x00 2)
    × (FrontOfByte 0x05 0) × (FrontOfByte 0x50 1)
