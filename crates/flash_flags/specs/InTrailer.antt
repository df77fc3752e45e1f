-- Document 02, "More sectors": where the trailer's bytes stand, and its length. Each statement is proved in proofs/.
use Rattle.std.specs.Prelude.{◌≡◌, ◌↔◌, List, ℕ, ◌+◌, ◌-◌, ◌*◌, ◌/◌, ◌%◌, ◌≤◌, ◌<◌, get_or}
use Rattle.flash.specs.declared.Geometry.{Geometry}
use Rattle.flash.specs.Sizes.{geometry, firmware, partition_size, trailer_length}
use Rattle.flash_status.specs.StatusBytes.{status_byte}
use Rattle.flash_flags.specs.SectorFlags.{flag_of, flag_byte, flag_at}

-- Stored trailers read as before: of n sectors of s bytes, whatever their number, the status is the last byte of l, and the flags stand
-- before it, those of the sectors 2k and 2k + 1 in the low and the high half of one byte.
pub record TrailerReads (n s : ℕ) (l : List ℕ) : Type 0 where
  pub status : status_byte (geometry n s) l ≡ get_or l (n * s - 1) 0
  pub even : (k : ℕ) → flag_at (geometry n s) l (2 * k) ≡ flag_of (get_or l (n * s - 2 - k) 0 % 16)
  pub odd : (k : ℕ) → flag_at (geometry n s) l (2 * k + 1) ≡ flag_of (get_or l (n * s - 2 - k) 0 / 16)

abbrev pub ReadsAsBefore : Type 0
ReadsAsBefore = (n s : ℕ) (l : List ℕ) → TrailerReads n s l

-- The trailer fits one sector exactly if each flag stands in the trailer sector, before the status byte. Else some flag would stand in
-- the firmware: the rule asks for no byte too few, and for none too many.
abbrev pub FlagsInTrailer : Type 0
FlagsInTrailer =
    (g : Geometry) → 2 ≤ g.sectors → 1 ≤ g.size
    → (trailer_length g ≤ g.size)
    ↔ ((i : ℕ) → i < firmware g → (firmware g * g.size ≤ flag_byte g i) × (flag_byte g i + 1 < partition_size g))
