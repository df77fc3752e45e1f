-- The claims speak of something: the marks of two sectors, an update under way with a lost flag byte, its mending computed, and a refusal 17.
use Rattle.std.specs.Prelude.{◌≡◌, cond, eqb, List, [], ◌∷◌, ◌++◌, ℕ, get_or, replicate}
use Rattle.numbers.specs.Answer.{Answer, gives, refused}
use Rattle.flash.specs.declared.Geometry.{Geometry}
use Rattle.flash.specs.Sizes.{geometry}
use Rattle.flash.specs.Sectors.{sector_number}
use Rattle.flash.specs.Buffers.{Flash, flash}
use Rattle.flash_flags.specs.declared.Leg.TheVariants.{UpdateToSwap, BootToUpdate, SwapToBoot}
use Rattle.exchange.specs.declared.Area.TheVariants.{Update}
use Rattle.exchange.specs.Cases.{three}
use Rattle.exchange.specs.Operations.{get}
use Rattle.exchange.specs.Decision.{Check}
use Rattle.exchange.specs.PowerUp.{power_up}
use Rattle.exchange.specs.Demand.{update, Starts, ReadsFirmware}
use Rattle.mending.specs.declared.Mark.TheVariants.{At, All0}
use Rattle.mending.specs.Marks.{marks}
use Rattle.mending.specs.OldImages.{old_flash}
use Rattle.mending.specs.Mending.{given, mending}

-- A check that takes the first byte for a version; 0 is a bad image.
abbrev pub by_version : ℕ → Answer ℕ
by_version v = cond (eqb v 0) (refused 2 0) (gives v)

abbrev pub first_byte : Check
first_byte g l = by_version (get_or l 0 0)

-- Two firmware sectors of 256 bytes a and b, and a trailer sector with a flag byte and a status byte.
unfoldable pub filled : ℕ → ℕ → ℕ → ℕ → List ℕ
filled a b flags status = replicate 256 a ++ replicate 256 b ++ (replicate 254 0xFF ++ flags ∷ status ∷ [])

-- Version 8 armed over version 7.
unfoldable pub armed : Flash
armed = flash (filled 7 7 0xFF 0x00) (filled 8 8 0xFF 0x70) (replicate 256 0)

-- Six operations later, with the flag byte `flags` (F3 before it was lost): in sector 0's last leg. Its old UPDATE sector is in SWAP, its old
-- BOOT sector in BOOT and in UPDATE.
unfoldable pub early : ℕ → Flash
early flags = flash (filled 7 7 0xFF 0x00) (filled 7 8 flags 0x70) (replicate 256 8)

-- Fifteen operations later (30 before it was lost): sector 0 is exchanged, sector 1 in its last leg.
unfoldable pub late : ℕ → Flash
late flags = flash (filled 8 7 0xFF 0x00) (filled 7 7 flags 0x70) (replicate 256 8)

-- Version 8 over a bad BOOT: UPDATE in its place, and once more in SWAP.
unfoldable pub over_bad : Flash
over_bad = flash (filled 0 0 0xFF 0x00) (filled 8 8 0x5A 0x70) (replicate 256 8)

-- Version 7 over version 7.
unfoldable pub not_newer : Flash
not_newer = flash (filled 7 7 0xFF 0x00) (filled 7 7 0x5A 0x70) (replicate 256 7)

-- Two sectors of 256, exchanged; SWAP holds neither.
abbrev pub two : Geometry
two = geometry 2 256

unfoldable pub closing : ℕ → Flash
closing flags = flash (replicate 256 8 ++ replicate 256 0xFF) (replicate 256 7 ++ (replicate 254 0xFF ++ flags ∷ 0x70 ∷ [])) (replicate 256 0)

pub record Witness : Type 0 where
  pub reads : ReadsFirmware first_byte three
  pub starts : Starts first_byte update three armed
  -- the marks of two firmware sectors, in their order
  pub order : marks 2
      ≡ At (sector_number 0) UpdateToSwap ∷ At (sector_number 0) BootToUpdate ∷ At (sector_number 0) SwapToBoot ∷ At (sector_number 1) UpdateToSwap
      ∷ At (sector_number 1) BootToUpdate ∷ At (sector_number 1) SwapToBoot ∷ All0 ∷ []
  -- equal versions fit no mark
  pub none : (mending first_byte three not_newer).answer ≡ refused 17 0
  -- nor does a bad BOOT, at F or at 7
  pub bad : (mending first_byte three over_bad).answer ≡ refused 17 0
  -- where the update stands after six and after fifteen operations
  pub six : (power_up first_byte three armed 6).flash ≡ early 0xF3
  pub fifteen : (power_up first_byte three armed 15).flash ≡ late 0x30
  -- the flag byte holds 5A: the first mark that fits is sector 0 at 7, one move before the leg that was lost; one byte differs
  pub mends : (mending first_byte three (early 0x5A)).answer ≡ gives (given (At (sector_number 0) BootToUpdate) 1)
  pub leaves : (mending first_byte three (early 0x5A)).flash ≡ early 0xF7
  -- one firmware sector: the first mark that fits is all 0, the byte's low half is written, its unused high half stays
  pub last_mark : (mending first_byte two (closing 0x5A)).answer ≡ gives (given All0 1)
  pub last_leaves : (mending first_byte two (closing 0x5A)).flash ≡ closing 0x50
  -- what no claim says: that the mark shows the sectors with which the update began. This check reads sector 0 only; the mark that it finds
  -- has 7 for the old UPDATE sector 1, which was 8
  pub earlier : (mending first_byte three (late 0x5A)).answer ≡ gives (given (At (sector_number 0) SwapToBoot) 1)
  pub other : get three Update 1 (old_flash three (At (sector_number 0) SwapToBoot) (late 0x5A)) ≡ replicate 256 7
  pub began : get three Update 1 armed ≡ replicate 256 8
