-- A printer whose flags are mended, three sectors of 256 with real headers and digests: an update is stopped, its flag byte is spoiled, a call of
-- `mend` finds a mark, and calls of `power_up` bring the update to its finish.
use Rattle.std.specs.Prelude.{◌≡◌, List, [], ◌∷◌, ◌++◌, ℕ, ◌≤◌, ◌<◌, length, replicate, Ok, Err, Some, None}
use Rattle.header_writer.specs.Writing.{header_bytes}
use Rattle.flash.specs.Sectors.{sector_number}
use Rattle.flash.specs.Buffers.{Flash, flash}
use Rattle.flash_flags.specs.declared.Leg.TheVariants.{BootToUpdate}
use Rattle.exchange.specs.declared.Area.TheVariants.{Update}
use Rattle.exchange.specs.declared.Operation.TheVariants.{Erase, Copy}
use Rattle.exchange.specs.PowerUp.{next_after}
use Rattle.exchange.specs.LostPower.{Torn}
use Rattle.exchange.specs.Demand.{update, Starts, flash_after, SectorExchanged}
use Rattle.exchange.specs.Cases.{three}
use Rattle.image.specs.Verdict.{check_of}
use Rattle.numbers.specs.declared.MendRefusal.TheVariants.{WrongTime, NoMarkFits}
use Rattle.mending.specs.declared.Mark.TheVariants.{At}
use Rattle.mending.specs.Mended.{ButFlags}
use Rattle.mend.specs.Delivered.{mended_with, MendDelivers}
use Rattle.power_up.specs.declared.Outcome.TheVariants.{Cut}
use Rattle.power_up.specs.declared.PowerUpAnswer.{PowerUpAnswer}
use Rattle.power_up.specs.Delivered.{Delivers}
use Rattle.delivered.specs.Demand.{CallEvent, kept_power, seen, AllowedCalls}
use Rattle.delivered.specs.Witness.{header_of, image_partition, armed}
use Rattle.delivered_mending.specs.Called.{broken_off, FinishCalled}

-- UPDATE with two firmware sectors, the second with the firmware of version 8, and a trailer sector with a flag byte, UPDATING.
unfoldable pub update_with : List ℕ → ℕ → List ℕ
update_with sector flags = sector ++ (8 ∷ replicate 255 0) ++ (replicate 254 0xFF ++ flags ∷ 0x70 ∷ [])

-- Version 8 over version 7 six operations after it was accepted, before sector 0's last leg: its old BOOT sector, with the header of 7, stands in BOOT
-- and in UPDATE, its old UPDATE sector in SWAP. `flags` is the flag byte, `status` BOOT's status.
unfoldable pub stopped : ℕ → ℕ → Flash
stopped flags status = flash (image_partition 7 status) (update_with (header_bytes (header_of 7)) flags) (header_bytes (header_of 8))

-- The power-up that came so far: with a budget of 6 it is cut.
abbrev pub six_done : PowerUpAnswer
six_done = record { outcome = Ok Cut; reason = None; count = 6 }

abbrev pub cut_at_six : List CallEvent
cut_at_six = kept_power 3 256 6 (record { answer = six_done; flash = stopped 0xF3 0x00 }) ∷ []

-- The same with UPDATE's sector 0 and SWAP erased: the header of version 8 stands nowhere.
unfoldable pub header_gone : Flash
header_gone = flash (image_partition 7 0x00) (update_with (replicate 256 0xFF) 0x5A) (replicate 256 0xFF)

-- What the calls give, computed down to the digests.
pub record CallsGive : Type 0 where
  -- the flag byte holds 5A: the first mark that fits is sector 0 at 7, one move before the leg that was lost; one byte differs
  pub mends : MendDelivers 3 256 (stopped 0x5A 0x00) (mended_with (At (sector_number 0) BootToUpdate) 1) (stopped 0xF7 0x00).update
  -- 14: BOOT is TESTING; 17: no mark fits. Both leave UPDATE as it was
  pub testing : MendDelivers 3 256 (stopped 0x5A 0x10) (Err WrongTime) (stopped 0x5A 0x10).update
  pub none : MendDelivers 3 256 header_gone (Err NoMarkFits) header_gone.update
  -- the power-up before the flag byte was lost
  pub stops : Delivers 3 256 armed 6 six_done (stopped 0xF3 0x00)
  -- the mended update goes on with an erase and a copy
  pub erases : next_after check_of three (stopped 0xF7 0x00) 0 ≡ Some (Erase Update (sector_number 0))
  pub copies : next_after check_of three (stopped 0xF7 0x00) 1 ≡ Some (Copy BootToUpdate (sector_number 0))

-- Calls from the mended flash that come to the finish; then the firmware sectors with which the update began have changed sides.
pub record Recovered (j : ℕ) (t : Torn) (budget : ℕ) : Type 0 where
  pub ends : FinishCalled three (stopped 0xF7 0x00) (broken_off three j t budget)
  pub exchanged : (i : ℕ) → i < 2 → SectorExchanged three armed (flash_after seen (stopped 0xF7 0x00) ends.called.calls) i

-- So the premises can be met, and the printer recovers.
pub record Witness : Type 0 where
  pub calls : CallsGive
  -- an accepted update, a list that 01 allows from there, and the flag byte F3 that it left, lost
  pub starts : Starts check_of update three armed
  pub allowed : AllowedCalls update three armed cut_at_six
  pub lost : ButFlags three (flash_after seen armed cut_at_six) (stopped 0x5A 0x00)
  -- a refused power-up, one that loses power after any of the first 15 operations, as in that erase or that copy, and one that nothing disturbs
  pub recovers : (j : ℕ) → j ≤ 15 → (t : Torn) → length t.bytes ≡ 256 → (budget : ℕ) → 23 ≤ budget → Recovered j t budget
