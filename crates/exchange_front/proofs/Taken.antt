-- Two steps, computed: the premises of the claims on the front can be met.
use mathlib.Core.Path.{◌≡◌, refl}
use Prim.Native.Nat.{ℕ}
use native.Mathlib.Omega.{arith}
use Rattle.flash.specs.Sizes.{firmware, within_limits}
use Rattle.flash.specs.Sectors.{erased, part, patch}
use Rattle.flash.specs.Buffers.{partition_fits, fits}
use Rattle.flash_status.specs.StatusBytes.{status_byte, boot_status_of, update_status_of}
use Rattle.flash_flags.specs.SectorFlags.{flag_of, flag_byte, half, with_half, flag_at, set_flag, flags_from, flags, all_f, past_zeros, flags_shown, flags_at}
use Rattle.flash_flags.specs.Front.{first_not0, front}
use Rattle.flash.proofs.Checked.{shaped_of}
use Rattle.exchange.specs.Order.{next_operation}
use Rattle.exchange_front.specs.Carried.{StepsTaken}

pub steps_taken : StepsTaken
unfolding firmware within_limits partition_fits fits erased part patch status_byte boot_status_of update_status_of flag_of flag_byte half with_half flag_at set_flag flags_from flags all_f past_zeros flags_shown flags_at first_not0 front next_operation
steps_taken = (
  record { shaped = shaped_of _ _ refl; formed = λ e. let z : ◌≡◌ {A = ℕ} 0 1 = cc in omega arith; next = refl; before = refl; after = refl },
  record { shaped = shaped_of _ _ refl; formed = λ e. let z : ◌≡◌ {A = ℕ} 0 1 = cc in omega arith; next = refl; before = refl; after = refl },
)
