-- The two starts of specs/Witness.antt, computed. Assumes nothing.
use mathlib.Core.Path.{◌≡◌, refl}
use Prim.Native.Nat.{ℕ, ◌+◌, ◌≤◌}
use lib.ListN.{length}
use native.Mathlib.Omega.{arith}
use Rattle.flash.specs.Sizes.{firmware, within_limits}
use Rattle.flash.specs.Buffers.{Flash, partition_fits, fits}
use Rattle.flash_status.specs.StatusBytes.{status_byte, boot_status_of, update_status_of}
use Rattle.flash_flags.specs.SectorFlags.{flag_of, flag_byte, half, flag_at, flags_from, flags, all_f, past_zeros, flags_shown, flags_at}
use Rattle.digest_fips180.specs.Sha256.{first, big_endian, Ch, Maj, Σ₀, Σ₁, σ₀, σ₁, K, zeros, padding, pad, block, word, words, H0, next_word, schedule, round, rounds, next_hash, compress, hash, bytes, sha256}
use Rattle.header_tags.specs.Walk.{item_at, item_from, tags_from}
use Rattle.header_tags.specs.Bytes.{field_bytes}
use Rattle.header_places.specs.Judging.{row_of, judge, places_in}
use Rattle.header_reader.specs.Reading.{tag_places}
use Rattle.header_writer.specs.Writing.{header_bytes}
use Rattle.header_tags.specs.Bytes.{same}
use Rattle.image.specs.Check.{image_in}
use Rattle.exchange.specs.Decision.{decide}
use Rattle.exchange.specs.LostPower.{Torn}
use Rattle.exchange.specs.Demand.{Exchange, update, fallback, Starts, most}
use Rattle.exchange.specs.Reached.{rough_list}
use Rattle.exchange.specs.Cases.{three}
use Rattle.exchange.proofs.Whole.{starts_ongoing}
use Rattle.exchange.proofs.Reached.{finish_reached}
use Rattle.image.specs.Verdict.{check_of}
use Rattle.delivered.specs.Demand.{AllowedCalls}
use Rattle.delivered.specs.Witness.{image_partition, armed, on_test, Called, Witnesses}
use Rattle.delivered.specs.PastFinish.{PastFinishMet}
use Rattle.delivered.proofs.Delivered.{reads_firmware}
use Rattle.delivered.proofs.Called.{every_list_called}

armed_is : Starts check_of update three armed × PastFinishMet
unfolding
    armed image_partition header_bytes field_bytes sha256 bytes hash compress next_hash rounds round schedule next_word H0 words word block pad padding zeros K σ₁ σ₀ Σ₁ Σ₀ Maj Ch big_endian first
    decide fits partition_fits within_limits status_byte boot_status_of update_status_of flags_at flags_shown past_zeros all_f flags flags_from flag_at half flag_byte flag_of firmware
    check_of image_in same tag_places places_in judge row_of tags_from item_from item_at
armed_is = (
  record { decided = refl; flags_f = refl },
  record {
    fit = refl;
    boot_is = refl;
    update_is = refl;
    flags_f = refl;
    new_version = 8;
    old_version = 7;
    update_good = refl;
    boot_good = refl;
    newer = omega arith;
  },
)

pub past_finish_met : PastFinishMet
past_finish_met = armed_is.1

on_test_starts : Starts check_of fallback three on_test
unfolding
    on_test image_partition header_bytes field_bytes sha256 bytes hash compress next_hash rounds round schedule next_word H0 words word block pad padding zeros K σ₁ σ₀ Σ₁ Σ₀ Maj Ch big_endian first
    decide fits partition_fits within_limits status_byte boot_status_of update_status_of flags_at flags_shown past_zeros all_f flags flags_from flag_at half flag_byte flag_of firmware
    check_of image_in same tag_places places_in judge row_of tags_from item_from item_at
on_test_starts = record { decided = refl; flags_f = refl }

-- the list of the witness, as calls
called_from : (x : Exchange) (f : Flash) → Starts check_of x three f → (t : Torn) → length t.bytes ≡ 256 → (budget : ℕ) → most x 2 + 2 ≤ budget
    → Called (AllowedCalls x three f) f (rough_list three t budget)
unfolding firmware
called_from x f s t len budget le =
    every_list_called x three f f 0 (starts_ongoing check_of x three f s) (rough_list three t budget)
    (finish_reached check_of x three f (reads_firmware three) s t len budget le).allowed

pub witnesses : Witnesses
unfolding firmware
witnesses =
    record {
      of_update =
          record {
            starts = armed_is.0;
            finishes = λ t len budget le. finish_reached check_of update three armed (reads_firmware three) armed_is.0 t len budget le;
            called = λ t len budget le. called_from update armed armed_is.0 t len budget le;
          };
      of_fallback =
          record {
            starts = on_test_starts;
            finishes = λ t len budget le. finish_reached check_of fallback three on_test (reads_firmware three) on_test_starts t len budget le;
            called = λ t len budget le. called_from fallback on_test on_test_starts t len budget le;
          };
    }
