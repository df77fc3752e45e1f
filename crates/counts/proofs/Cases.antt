-- The cases of specs/Witness.antt, computed.
use mathlib.Core.Path.{refl}
use Rattle.numbers.specs.Every.{Every}
use Rattle.flash.specs.Sizes.{firmware, within_limits}
use Rattle.flash.specs.Sectors.{erased, part, patch}
use Rattle.flash.specs.Buffers.{partition_fits, fits}
use Rattle.flash_status.specs.StatusBytes.{status_byte, set_status_byte, boot_status_of, update_status_of}
use Rattle.flash_flags.specs.SectorFlags.{flag_of, flag_byte, half, with_half, flag_at, set_flag, flags_from, flags, all_f, past_zeros, flags_shown, flags_at}
use Rattle.exchange.specs.Order.{next_operation, step, run, operations}
use Rattle.exchange.specs.Decision.{decide}
use Rattle.exchange.specs.PowerUp.{power_up, operations_of}
use Rattle.exchange.specs.Commands.{arm_command}
use Rattle.counts.specs.Calls.{check_counted, counted_power_up, counted_arm}
use Rattle.counts.specs.Witness.{PowerUpCaseHolds, power_up_cases, ArmCaseHolds, arm_cases, CountedCases}

-- as many as the list has
ups : Every PowerUpCaseHolds power_up_cases
unfolding
    firmware within_limits partition_fits fits erased part patch status_byte set_status_byte boot_status_of update_status_of flag_of flag_byte half with_half flag_at set_flag flags_from flags all_f past_zeros flags_shown flags_at
    next_operation step run operations decide power_up operations_of arm_command check_counted counted_power_up counted_arm
ups = (
  record { outcome = refl; count = refl; row = refl; total = refl },
  (
    record { outcome = refl; count = refl; row = refl; total = refl },
    (
      record { outcome = refl; count = refl; row = refl; total = refl },
      (
        record { outcome = refl; count = refl; row = refl; total = refl },
        (
          record { outcome = refl; count = refl; row = refl; total = refl },
          (
            record { outcome = refl; count = refl; row = refl; total = refl },
            (
              record { outcome = refl; count = refl; row = refl; total = refl },
              (
                record { outcome = refl; count = refl; row = refl; total = refl },
                (
                  record { outcome = refl; count = refl; row = refl; total = refl },
                  (
                    record { outcome = refl; count = refl; row = refl; total = refl },
                    (
                      record { outcome = refl; count = refl; row = refl; total = refl },
                      (
                        record { outcome = refl; count = refl; row = refl; total = refl },
                        (
                          record { outcome = refl; count = refl; row = refl; total = refl },
                          (
                            record { outcome = refl; count = refl; row = refl; total = refl },
                            (
                              record { outcome = refl; count = refl; row = refl; total = refl },
                              tt,
                            ),
                          ),
                        ),
                      ),
                    ),
                  ),
                ),
              ),
            ),
          ),
        ),
      ),
    ),
  ),
)

arms : Every ArmCaseHolds arm_cases
unfolding
    firmware within_limits partition_fits fits erased part patch status_byte set_status_byte boot_status_of update_status_of flag_of flag_byte half with_half flag_at set_flag flags_from flags all_f past_zeros flags_shown flags_at
    next_operation step run operations decide power_up operations_of arm_command check_counted counted_power_up counted_arm
arms = (
  record { answer = refl; row = refl; total = refl },
  (
    record { answer = refl; row = refl; total = refl },
    (
      record { answer = refl; row = refl; total = refl },
      (
        record { answer = refl; row = refl; total = refl },
        tt,
      ),
    ),
  ),
)

pub counted_cases : CountedCases
counted_cases = record { power_ups = ups; arms = arms }
