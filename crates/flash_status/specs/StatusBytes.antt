-- Document 01, "The flash": the status byte, the last of a partition. BOOT and UPDATE each have their own values.
use Rattle.std.specs.Prelude.{cond, List, ℕ, ◌-◌, get_or, set, eqb, Option, Some, None, Result, Ok, Err}
use Rattle.numbers.specs.Answer.{Answer, gives, refused}
use Rattle.flash.specs.declared.Geometry.{Geometry}
use Rattle.flash.specs.Sizes.{partition_size}
use Rattle.flash_status.specs.declared.BootStatus.{BootStatus}
use Rattle.flash_status.specs.declared.BootStatus.TheVariants.{New as BootNew, Testing, Success}
use Rattle.flash_status.specs.declared.UpdateStatus.{UpdateStatus}
use Rattle.flash_status.specs.declared.UpdateStatus.TheVariants.{New as UpdateNew, Updating}

-- where the status byte stands: at a partition's very end
abbrev pub status_place : Geometry → ℕ
status_place g = partition_size g - 1

-- the status byte of the partition l, and l with it set to b
unfoldable pub status_byte : Geometry → List ℕ → ℕ
status_byte g l = get_or l (status_place g) 0

unfoldable pub set_status_byte : Geometry → ℕ → List ℕ → List ℕ
set_status_byte g b l = set l (status_place g) b

-- the three values that BOOT's may have
abbrev pub boot_byte : BootStatus → ℕ
boot_byte BootNew = 0xFF
boot_byte Testing = 0x10
boot_byte Success = 0x00

-- the status that a byte is; any other byte is refusal 10
unfoldable pub boot_status_of : ℕ → Answer BootStatus
boot_status_of b =
    cond (eqb b (boot_byte BootNew)) (gives BootNew)
    (cond (eqb b (boot_byte Testing)) (gives Testing)
    (cond (eqb b (boot_byte Success)) (gives Success) (refused 10 0)))

abbrev pub boot_status_at : Geometry → List ℕ → Answer BootStatus
boot_status_at g l = boot_status_of (status_byte g l)

abbrev pub set_boot_status : Geometry → BootStatus → List ℕ → List ℕ
set_boot_status g v l = set_status_byte g (boot_byte v) l

-- the two values that UPDATE's may have
abbrev pub update_byte : UpdateStatus → ℕ
update_byte UpdateNew = 0xFF
update_byte Updating = 0x70

-- the status that a byte is; any other byte is refusal 10
unfoldable pub update_status_of : ℕ → Answer UpdateStatus
update_status_of b =
    cond (eqb b (update_byte UpdateNew)) (gives UpdateNew)
    (cond (eqb b (update_byte Updating)) (gives Updating) (refused 10 0))

abbrev pub update_status_at : Geometry → List ℕ → Answer UpdateStatus
update_status_at g l = update_status_of (status_byte g l)

abbrev pub set_update_status : Geometry → UpdateStatus → List ℕ → List ℕ
set_update_status g v l = set_status_byte g (update_byte v) l

-- both statuses, or the refusal of the first that is not allowed, BOOT's before UPDATE's
abbrev pub both_statuses : Answer BootStatus → Answer UpdateStatus → Answer (BootStatus × UpdateStatus)
both_statuses (refused n p) u = refused n p
both_statuses (gives b) (refused n p) = refused n p
both_statuses (gives b) (gives u) = gives (b, u)

-- what the code's answers say, for the contracts: no status is refusal 10
abbrev pub status_answer : {S E : Type 0} → Result S E → Answer S
status_answer (Ok s) = gives s
status_answer (Err e) = refused 10 0

abbrev pub statuses_answer : Option (BootStatus × UpdateStatus) → Answer (BootStatus × UpdateStatus)
statuses_answer (Some s) = gives s
statuses_answer None = refused 10 0
