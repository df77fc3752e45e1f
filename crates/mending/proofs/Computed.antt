-- The witness of specs/Witness.antt, computed.
use mathlib.Core.Path.{refl, sym, ap, ◌∙◌}
use mathlib.Core.List.{List}
use Prim.Native.Nat.{ℕ}
use native.Mathlib.Omega.{arith}
use lib.ListN.{get_or}
use lib.Seq.{get_or-take}
use Rattle.flash.specs.Sizes.{firmware, within_limits}
use Rattle.flash.specs.Sectors.{part, patch, erased}
use Rattle.flash.specs.Buffers.{partition_fits, fits}
use Rattle.flash_status.specs.StatusBytes.{status_byte, boot_status_of, update_status_of}
use Rattle.flash_flags.specs.SectorFlags.{flag_of, flag_byte, half, with_half, flag_at, set_flag, flags_from, flags, all_f, past_zeros, flags_shown, flags_at}
use Rattle.exchange.specs.Order.{next_operation, step, run}
use Rattle.exchange.specs.Decision.{decide}
use Rattle.exchange.specs.PowerUp.{power_up}
use Rattle.exchange.specs.Cases.{three}
use Rattle.exchange.specs.Demand.{ReadsFirmware}
use Rattle.mending.specs.Marks.{marks_from, marks}
use Rattle.mending.specs.OldImages.{joined, old_partition, fits_mark}
use Rattle.mending.specs.Mending.{first_fitting, found, set_flags_to, differing, mending}
use Rattle.mending.specs.Witness.{by_version, first_byte, over_bad, filled, armed, early, late, not_newer, closing, Witness}

reads : ReadsFirmware first_byte three
unfolding firmware
reads l l' L L' e =
    ap by_version (sym (get_or-take 512 l 0 0 (omega arith)) ∙ ap (λ (x : List ℕ). get_or x 0 0) e ∙ get_or-take 512 l' 0 0 (omega arith))

pub witness : Witness
unfolding
    over_bad closing armed early late not_newer filled
    decide fits partition_fits within_limits status_byte boot_status_of update_status_of flags_at flags_shown past_zeros all_f flags flags_from flag_at half flag_byte flag_of firmware
    power_up run step next_operation erased patch part set_flag with_half
    mending found first_fitting marks marks_from fits_mark old_partition joined set_flags_to differing
witness = record {
  reads = reads;
  starts = record { decided = refl; flags_f = refl };
  order = refl;
  none = refl;
  bad = refl;
  six = refl;
  fifteen = refl;
  mends = refl;
  leaves = refl;
  last_mark = refl;
  last_leaves = refl;
  earlier = refl;
  other = refl;
  began = refl;
}
