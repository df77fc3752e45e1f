-- Document 01, "Arm" and "Confirm": made of the same single operations.
use Rattle.std.specs.Prelude.{cond, List, [], ◌∷◌, ℕ, length}
use Rattle.numbers.specs.Answer.{Answer, gives, refused}
use Rattle.exchange.specs.Base.{Geometry, BootStatus, BootNew, Testing, Success, UpdateStatus, UpdateNew, Updating, Flags, Malformed, AllF, At, All0}
use Rattle.exchange.specs.Base.{Flash, fits, boot_status_at, update_status_at, flags_at}
use Rattle.exchange.specs.declared.Operation.{Operation}
use Rattle.exchange.specs.declared.Operation.TheVariants.{EraseUpdateTrailer, WriteBootStatus, WriteUpdateStatus}
use Rattle.exchange.specs.Operations.{perform_all}

-- What a command answers, the number of its operations or a refusal, and what it leaves.
pub record Command : Type 0 where
  pub answer : Answer ℕ
  pub flash : Flash

-- The operations, all of them, where the checks give leave; a refusal changes nothing.
abbrev pub command : Geometry → List Operation → Answer (Unit {0}) → Flash → Command
command g os (gives t) f = record { answer = gives (length os); flash = perform_all g os f }
command g os (refused n p) f = record { answer = refused n p; flash = f }

-- The statuses, BOOT's first; then `rest`.
abbrev pub with_statuses : Answer BootStatus → Answer UpdateStatus → (BootStatus → UpdateStatus → Answer (Unit {0})) → Answer (Unit {0})
with_statuses (refused n p) u rest = refused n p
with_statuses (gives b) (refused n p) rest = refused n p
with_statuses (gives b) (gives u) rest = rest b u

-- The checks that arm, confirm and mending begin with: geometry and lengths, the statuses; then `rest`.
abbrev pub checked : Geometry → Flash → (BootStatus → UpdateStatus → Answer (Unit {0})) → Answer (Unit {0})
checked g f rest = cond (fits g f) (with_statuses (boot_status_at g f.boot) (update_status_at g f.update) rest) (refused 1 0)

-- Arm: UPDATE has to be NEW, and BOOT NEW or SUCCESS; else 14.
abbrev pub may_arm : BootStatus → UpdateStatus → Answer (Unit {0})
may_arm BootNew UpdateNew = gives tt
may_arm Success UpdateNew = gives tt
may_arm Testing UpdateNew = refused 14 0
may_arm BootNew Updating = refused 14 0
may_arm Success Updating = refused 14 0
may_arm Testing Updating = refused 14 0

-- Arm erases the UPDATE trailer sector, then writes UPDATING.
abbrev pub arm_operations : List Operation
arm_operations = EraseUpdateTrailer ∷ WriteUpdateStatus Updating ∷ []

-- Arm, whole: its checks, and then both operations or a refusal.
unfoldable pub arm_command : Geometry → Flash → Command
arm_command g f = command g arm_operations (checked g f may_arm) f

-- Confirm: BOOT has to be TESTING and UPDATE NEW, else 14; then malformed flags are 11; then flags that are not all F are 14.
abbrev pub confirm_flags : Flags → Answer (Unit {0})
confirm_flags Malformed = refused 11 0
confirm_flags AllF = gives tt
confirm_flags (At i leg) = refused 14 0
confirm_flags All0 = refused 14 0

abbrev pub may_confirm : Flags → BootStatus → UpdateStatus → Answer (Unit {0})
may_confirm flags Testing UpdateNew = confirm_flags flags
may_confirm flags BootNew UpdateNew = refused 14 0
may_confirm flags Success UpdateNew = refused 14 0
may_confirm flags BootNew Updating = refused 14 0
may_confirm flags Success Updating = refused 14 0
may_confirm flags Testing Updating = refused 14 0

-- Confirm writes SUCCESS in BOOT.
abbrev pub confirm_operations : List Operation
confirm_operations = WriteBootStatus Success ∷ []

-- Confirm, whole.
unfoldable pub confirm_command : Geometry → Flash → Command
confirm_command g f = command g confirm_operations (checked g f (may_confirm (flags_at g f.update))) f
