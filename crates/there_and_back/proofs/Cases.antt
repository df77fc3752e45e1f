-- The lists of specs/Cases.antt, computed.
use mathlib.Core.Path.{refl, ap}
use mathlib.Core.List.{List}
use Prim.Native.Nat.{ℕ, zero, suc, ◌+◌, ◌*◌, ◌<◌}
use native.Mathlib.Omega.{arith}
use lib.ListN.{get_or}
use lib.Dec.{lit≤}
use Rattle.numbers.specs.Answer.{gives}
use Rattle.flash.specs.Sizes.{firmware, within_limits}
use Rattle.flash.specs.Sectors.{erased, part, patch}
use Rattle.flash.specs.Buffers.{partition_fits, fits}
use Rattle.flash_status.specs.StatusBytes.{status_byte, set_status_byte, boot_status_of, update_status_of}
use Rattle.flash_flags.specs.SectorFlags.{flag_of, flag_byte, half, with_half, flag_at, set_flag, flags_from, flags, all_f, past_zeros, flags_shown, flags_at}
use Rattle.exchange.specs.Order.{next_operation, step, run}
use Rattle.exchange.specs.Decision.{decide}
use Rattle.exchange.specs.PowerUp.{power_up, next_after}
use Rattle.exchange.specs.Demand.{update, Starts, left}
use Rattle.exchange.specs.Cases.{three}
use Rattle.there_and_back.specs.Journey.{SectorAsBefore, GivenBack, most_there_and_back}
use Rattle.there_and_back.specs.Cases.{first_byte, eight_over_seven, torn_both_ways, both_ways, cut_both_ways, back_again, Plays, Played}

-- the update is accepted; and the three lists
computed : Starts first_byte update three eight_over_seven × Plays both_ways (most_there_and_back 2) 0 × Plays cut_both_ways (most_there_and_back 2 + 2 * 2) 2 × Plays torn_both_ways 44 4
unfolding
    firmware within_limits partition_fits fits erased part patch status_byte set_status_byte boot_status_of update_status_of flag_of flag_byte half with_half flag_at set_flag flags_from flags all_f past_zeros flags_shown flags_at
    next_operation step run decide power_up next_after left
computed = (
  record { decided = refl; flags_f = refl },
  record { allowed = (tt, (tt, tt)); leaves = refl; takes = refl; ends = refl },
  record { allowed = (tt, (tt, (tt, (tt, tt)))); leaves = refl; takes = refl; ends = refl },
  record { allowed = ((lit≤ tt, refl), (tt, ((lit≤ tt, refl), (tt, ((lit≤ tt, refl), (tt, ((lit≤ tt, refl), (tt, (tt, tt))))))))); leaves = refl; takes = refl; ends = refl },
)

given_back_lem : GivenBack three eight_over_seven back_again
unfolding firmware part status_byte boot_status_of update_status_of flag_of flag_byte half flag_at flags_from flags all_f past_zeros flags_shown flags_at
given_back_lem = record { sectors = λ i hi. sectors i (omega arith); boot_status = refl; update_status = refl; flags = refl }
  where
    sectors : (i : ℕ) → i < 2 → SectorAsBefore three eight_over_seven back_again i
    sectors zero h = record { boot = refl; update = refl }
    sectors (suc zero) h = record { boot = refl; update = refl }
    sectors (suc (suc i)) h = absurd (omega arith)

pub played : Played
played = record {
  reads = λ l l' e e' same. ap (λ (x : List ℕ). gives (get_or x 0 0)) same;
  starts = computed.0;
  given_back = given_back_lem;
  undisturbed = computed.1;
  cut_way = computed.2;
  torn_way = computed.3;
}
