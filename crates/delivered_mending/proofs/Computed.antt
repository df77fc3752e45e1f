-- The printer of specs/Witness.antt, computed. Assumes nothing.
use mathlib.Core.Path.{◌≡◌, refl, sym, ap, ap₂, ◌∙◌}
use Prim.Native.Nat.{ℕ, zero, suc, ◌≤◌, ◌<◌}
use lib.ListN.{length, get_or, set, length-set}
use lib.Seq.{get_or-set_other}
use native.Mathlib.Omega.{arith}
use mathlib.Core.List.{List}
use Rattle.std.specs.Prelude.{Some}
use Rattle.flash.specs.declared.Geometry.{Geometry}
use Rattle.flash.specs.Sizes.{firmware, within_limits}
use Rattle.numbers.specs.Answer.{Answer, gives, refused, no_reason}
use Rattle.flash.specs.Sectors.{sector_number, part, patch, erased}
use Rattle.flash.specs.Buffers.{Flash, partition_fits, fits}
use Rattle.flash_status.specs.StatusBytes.{status_byte, boot_status_of, update_status_of, update_status_at}
use Rattle.flash_status.specs.declared.UpdateStatus.TheVariants.{Updating}
use Rattle.flash_flags.specs.declared.Leg.TheVariants.{BootToUpdate}
use Rattle.exchange.specs.declared.Area.TheVariants.{Boot, Update}
use Rattle.exchange.specs.declared.Operation.TheVariants.{Erase, Copy}
use Rattle.exchange.specs.Operations.{get}
use Rattle.exchange.specs.Demand.{update, flash_after, AtFinish}
use Rattle.exchange.specs.Cases.{three}
use Rattle.mending.specs.declared.Mark.TheVariants.{At}
use Rattle.flash_flags.specs.SectorFlags.{flag_of, flag_byte, half, with_half, flag_at, set_flag, flags_from, flags, all_f, past_zeros, flags_shown, flags_at}
use Rattle.digest_fips180.specs.Sha256.{first, big_endian, Ch, Maj, Σ₀, Σ₁, σ₀, σ₁, K, zeros, padding, pad, block, word, words, H0, next_word, schedule, round, rounds, next_hash, compress, hash, bytes, sha256}
use Rattle.header_tags.specs.Walk.{item_at, item_from, tags_from}
use Rattle.header_tags.specs.Bytes.{field_bytes, same}
use Rattle.header_places.specs.Judging.{row_of, judge, places_in}
use Rattle.header_reader.specs.Reading.{tag_places}
use Rattle.header_writer.specs.Writing.{header_bytes}
use Rattle.image.specs.Check.{image_in}
use Rattle.image.specs.Verdict.{check_of}
use Rattle.exchange.specs.Order.{next_operation, step, run}
use Rattle.exchange.specs.Decision.{decide}
use Rattle.exchange.specs.PowerUp.{cut, power_up, next_after}
use Rattle.mending.specs.Marks.{marks_from, marks}
use Rattle.mending.specs.OldImages.{joined, old_partition, old_flash, fits_mark}
use Rattle.mending.specs.Mending.{first_fitting, found, set_flags_to, differing, Given, given, Mend, mending}
use Rattle.mending.specs.Mended.{ButFlags}
use Rattle.exchange.specs.LostPower.{Torn}
use Rattle.delivered.specs.Demand.{seen}
use Rattle.delivered.specs.Witness.{image_partition, armed}
use Rattle.delivered.proofs.Started.{witnesses}
use Rattle.delivered_mending.specs.Asked.{left_by}
use Rattle.delivered_mending.specs.Witness.{update_with, stopped, header_gone, CallsGive, Recovered, Witness}
use Rattle.delivered_mending.specs.Called.{broken_off, FinishCalled}
use Rattle.delivered_mending.proofs.Whole.{demand_3_mended}
use Rattle.delivered_mending.proofs.Finish.{mended_finishes}

-- what the mark shows
abbrev before : Flash
before = old_flash three (At (sector_number 0) BootToUpdate) (stopped 0x5A 0x00)

-- what is computed by the rules: mending, the power-up before it, the operations after it; the byte that was lost, UPDATE's status at the start, and
-- the old sectors that the mark shows
record Shown : Type 0 where
  mends : mending check_of three (stopped 0x5A 0x00) ≡ record { answer = gives (given (At (sector_number 0) BootToUpdate) 1); flash = stopped 0xF7 0x00 }
  testing : mending check_of three (stopped 0x5A 0x10) ≡ record { answer = refused 14 0; flash = stopped 0x5A 0x10 }
  none : mending check_of three header_gone ≡ record { answer = refused 17 0; flash = header_gone }
  stops : power_up check_of three armed 6 ≡ record { outcome = cut; reason = no_reason; count = 6; flash = stopped 0xF3 0x00 }
  erases : next_after check_of three (stopped 0xF7 0x00) 0 ≡ Some (Erase Update (sector_number 0))
  copies : next_after check_of three (stopped 0xF7 0x00) 1 ≡ Some (Copy BootToUpdate (sector_number 0))
  byte : (stopped 0x5A 0x00).update ≡ set (stopped 0xF3 0x00).update (flag_byte three 0) 0x5A
  updating : update_status_at three armed.update ≡ gives Updating
  boot0 : get three Boot 0 before ≡ get three Boot 0 armed
  boot1 : get three Boot 1 before ≡ get three Boot 1 armed
  update0 : get three Update 0 before ≡ get three Update 0 armed
  update1 : get three Update 1 before ≡ get three Update 1 armed

shown : Shown
unfolding
    stopped update_with header_gone armed image_partition
    header_bytes field_bytes sha256 bytes hash compress next_hash rounds round schedule next_word H0 words word block pad padding zeros K σ₁ σ₀ Σ₁ Σ₀ Maj Ch big_endian first
    decide fits partition_fits within_limits status_byte boot_status_of update_status_of flags_at flags_shown past_zeros all_f flags flags_from flag_at half flag_byte flag_of firmware
    check_of image_in same tag_places places_in judge row_of tags_from item_from item_at
    power_up next_after run step next_operation erased patch part set_flag with_half
    mending found first_fitting marks marks_from fits_mark old_partition joined set_flags_to differing
shown = record {
  mends = refl;
  testing = refl;
  none = refl;
  stops = refl;
  erases = refl;
  copies = refl;
  byte = refl;
  updating = refl;
  boot0 = refl;
  boot1 = refl;
  update0 = refl;
  update1 = refl;
}

-- ---- the calls

-- a call meets its contract that gives what the rules have
meets : (g : Geometry) (f : Flash) (r : Mend) {x : Answer Given} {y : Flash} → mending check_of g f ≡ r → x ≡ r.answer → y ≡ r.flash
    → record { answer = x; flash = y } ≡ mending check_of g f
meets g f r e p q = ap₂ (λ (x : Answer Given) (y : Flash). record { answer = x; flash = y }) p q ∙ sym e

calls_give : CallsGive
unfolding stopped header_gone
calls_give = record {
  mends = meets three (stopped 0x5A 0x00) _ shown.mends refl refl;
  testing = meets three (stopped 0x5A 0x10) _ shown.testing refl refl;
  none = meets three header_gone _ shown.none refl refl;
  stops = sym shown.stops;
  erases = shown.erases;
  copies = shown.copies;
}

-- a flag byte that holds something else
but_byte : (g : Geometry) (f : Flash) (i : ℕ) → i < firmware g → (v : ℕ) (u : List ℕ) → u ≡ set f.update (flag_byte g i) v → ButFlags g f (left_by f u)
but_byte g f i h v u e = record {
  boot = refl;
  swap = refl;
  same_length = ap length e ∙ length-set f.update (flag_byte g i) v;
  elsewhere = λ p n. ap (λ (l : List ℕ). get_or l p 0) e ∙ get_or-set_other f.update (flag_byte g i) p v 0 (n i h);
}

flag_lost : ButFlags three (stopped 0xF3 0x00) (stopped 0x5A 0x00)
unfolding stopped firmware
flag_lost = but_byte three (stopped 0xF3 0x00) 0 (omega arith) 0x5A (stopped 0x5A 0x00).update shown.byte

old_boot_lem : (i : ℕ) → i < 2 → get three Boot i before ≡ get three Boot i armed
old_boot_lem zero h = shown.boot0
old_boot_lem (suc zero) h = shown.boot1
old_boot_lem (suc (suc i)) h = absurd (omega arith)

old_update_lem : (i : ℕ) → i < 2 → get three Update i before ≡ get three Update i armed
old_update_lem zero h = shown.update0
old_update_lem (suc zero) h = shown.update1
old_update_lem (suc (suc i)) h = absurd (omega arith)

recovered : (j : ℕ) → j ≤ 15 → (t : Torn) → length t.bytes ≡ 256 → (budget : ℕ) → 23 ≤ budget → Recovered j t budget
unfolding stopped firmware
recovered j h t T budget l =
    by (mended_finishes 3 256 (stopped 0x5A 0x00) (At (sector_number 0) BootToUpdate) 1 (stopped 0xF7 0x00).update calls_give.mends j (omega arith) t T budget (omega arith))
  where
    by : FinishCalled three (stopped 0xF7 0x00) (broken_off three j t budget) → Recovered j t budget
    by e =
        let a : AtFinish update three before (flash_after seen (stopped 0xF7 0x00) e.called.calls)
        = (demand_3_mended 3 256 (stopped 0x5A 0x00) (At (sector_number 0) BootToUpdate) 1 (stopped 0xF7 0x00).update calls_give.mends e.called.calls
        e.called.allows).at_finish e.finished in
        record {
          ends = e;
          exchanged = λ i hi. record {
            boot_holds = (a.exchanged i hi).boot_holds ∙ old_update_lem i hi;
            update_holds = (a.exchanged i hi).update_holds ∙ old_boot_lem i hi;
          };
        }

pub witness : Witness
witness = record {
  calls = calls_give;
  starts = witnesses.of_update.starts;
  allowed = (((λ e. let k = shown.updating in let z : ◌≡◌ {A = ℕ} 0 1 = cc in omega arith), calls_give.stops), tt);
  lost = flag_lost;
  recovers = recovered;
}
