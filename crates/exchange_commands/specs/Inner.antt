-- What the checks of a command answer.
use Rattle.std.specs.Prelude.{List, ℕ}
use Rattle.numbers.specs.Answer.{Answer, gives, then}
use Rattle.flash.specs.declared.Geometry.{Geometry}
use Rattle.flash.specs.Buffers.{Flash}
use Rattle.flash_status.specs.declared.BootStatus.{BootStatus}
use Rattle.flash_status.specs.declared.UpdateStatus.{UpdateStatus}
use Rattle.flash_status.specs.StatusBytes.{boot_status_at, update_status_at}
use Rattle.flash_flags.specs.declared.Flags.{Flags}
use Rattle.flash_flags.specs.SectorFlags.{flags_at}
use Rattle.exchange.specs.Commands.{with_statuses, checked, may_arm, may_confirm}
use Rattle.exchange_commands.specs.declared.CommandKind.{CommandKind}
use Rattle.exchange_commands.specs.declared.CommandKind.TheVariants.{Arm, Confirm}

-- what each command wants of the statuses and the flags
abbrev pub may_do : CommandKind → Flags → BootStatus → UpdateStatus → Answer (Unit {0})
may_do Arm flags = may_arm
may_do Confirm flags = may_confirm flags

-- the checks of a command on buffers of the right lengths
abbrev pub permit_at : CommandKind → Geometry → List ℕ → List ℕ → Answer (Unit {0})
permit_at k g boot update = with_statuses (boot_status_at g boot) (update_status_at g update) (may_do k (flags_at g update))

-- all checks of a command, with the geometry where they grant it
abbrev pub permitted : CommandKind → Geometry → Flash → Answer Geometry
permitted k g f = then (checked g f (may_do k (flags_at g f.update))) (λ t. gives g)
