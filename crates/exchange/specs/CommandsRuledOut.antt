-- Document 01, "Arm" and "Confirm": when each is done, when it is refused and with what, each as a law of its own. Together the laws
-- leave no flash undecided.
use Rattle.std.specs.Prelude.{◌≡◌, ◌≢◌, true, false, [], ◌∷◌, ◌++◌, ℕ, replicate}
use Rattle.numbers.specs.Answer.{gives, refused}
use Rattle.exchange.specs.Base.{Geometry, BootStatus, BootNew, Testing, Success, UpdateStatus, UpdateNew, Updating, BootToUpdate, Flags, Malformed, AllF, At}
use Rattle.exchange.specs.Base.{sector_number, Flash, flash, fits, boot_status_at, update_status_at}
use Rattle.exchange.specs.declared.Operation.TheVariants.{EraseUpdateTrailer, WriteBootStatus, WriteUpdateStatus}
use Rattle.exchange.specs.Operations.{perform}
use Rattle.exchange.specs.Commands.{Command, arm_command, confirm_command}
use Rattle.exchange.specs.RuledOut.{Reads}
use Rattle.exchange.specs.Cases.{three}

-- Done, with a number of operations and the flash that they leave; and refused, at place 0, with every byte as it was.
abbrev pub done_with : ℕ → Flash → Command
done_with n f = record { answer = gives n; flash = f }

abbrev pub refused_with : ℕ → Flash → Command
refused_with n f = record { answer = refused n 0; flash = f }

-- The time for arm: UPDATE is NEW, and BOOT is NEW or SUCCESS.
pub data TimeToArm : BootStatus → UpdateStatus → Type 0 where
  over_new : TimeToArm BootNew UpdateNew
  over_success : TimeToArm Success UpdateNew

-- The time for confirm: BOOT is TESTING, and UPDATE is NEW.
pub data TimeToConfirm : BootStatus → UpdateStatus → Type 0 where
  on_test : TimeToConfirm Testing UpdateNew

-- A flash that can be armed, whatever its flags.
pub record Armable (g : Geometry) (f : Flash) : Type 0 where
  pub boot : BootStatus
  pub update : UpdateStatus
  pub flags : Flags
  pub reads : Reads g f boot update flags
  pub time : TimeToArm boot update

-- The numbers that the table of refusals has for arm; and for confirm, which also reads the flags.
pub data ArmNumber : ℕ → Type 0 where
  outside_rules : ArmNumber 1
  status_not_allowed : ArmNumber 10
  wrong_time : ArmNumber 14

pub data ConfirmNumber : ℕ → Type 0 where
  as_arm : {n : ℕ} → ArmNumber n → ConfirmNumber n
  flags_not_well_formed : ConfirmNumber 11

-- A refusal has one of these numbers and place 0, and changes no byte.
pub record RefusedAs (Number : ℕ → Type 0) (n p : ℕ) (f : Flash) (c : Command) : Type 0 where
  pub number : Number n
  pub place : p ≡ 0
  pub same : c.flash ≡ f

pub record CommandsRuledOut : Type 0 where
  -- arm is done exactly at its time; then UPDATE's trailer sector is erased and UPDATING written, and nothing else
  pub arm_done : (g : Geometry) (f : Flash) (b : BootStatus) (u : UpdateStatus) (v : Flags) → Reads g f b u v → TimeToArm b u
      → arm_command g f ≡ done_with 2 (perform g (WriteUpdateStatus Updating) (perform g EraseUpdateTrailer f))
  pub arm_only_then : (g : Geometry) (f : Flash) (n : ℕ) → (arm_command g f).answer ≡ gives n → Armable g f
  -- with other statuses it is 14, whatever the flags
  pub arm_wrong_time : (g : Geometry) (f : Flash) (b : BootStatus) (u : UpdateStatus) (v : Flags) → Reads g f b u v → ¬ TimeToArm b u
      → arm_command g f ≡ refused_with 14 f
  -- after arm UPDATE is UPDATING with all flags F, so that the next power-up can accept it; BOOT's status is as it was
  pub arm_reads : (g : Geometry) (f : Flash) (b : BootStatus) (u : UpdateStatus) (v : Flags) → Reads g f b u v → TimeToArm b u
      → Reads g (arm_command g f).flash b Updating AllF
  -- confirm is done exactly at its time with all flags F; then SUCCESS is written in BOOT, and nothing else
  pub confirm_done : (g : Geometry) (f : Flash) → Reads g f Testing UpdateNew AllF
      → confirm_command g f ≡ done_with 1 (perform g (WriteBootStatus Success) f)
  pub confirm_only_then : (g : Geometry) (f : Flash) (n : ℕ) → (confirm_command g f).answer ≡ gives n → Reads g f Testing UpdateNew AllF
  -- at its time flags that are not well formed are 11, and flags that show an exchange under way are 14
  pub confirm_malformed : (g : Geometry) (f : Flash) → Reads g f Testing UpdateNew Malformed → confirm_command g f ≡ refused_with 11 f
  pub confirm_under_way : (g : Geometry) (f : Flash) (v : Flags) → Reads g f Testing UpdateNew v → v ≢ Malformed → v ≢ AllF
      → confirm_command g f ≡ refused_with 14 f
  -- with other statuses it is 14, whatever the flags
  pub confirm_wrong_time : (g : Geometry) (f : Flash) (b : BootStatus) (u : UpdateStatus) (v : Flags) → Reads g f b u v
      → ¬ TimeToConfirm b u
      → confirm_command g f ≡ refused_with 14 f
  -- after confirm BOOT is SUCCESS, and UPDATE is NEW with all flags F as it was
  pub confirm_reads : (g : Geometry) (f : Flash) → Reads g f Testing UpdateNew AllF
      → Reads g (confirm_command g f).flash Success UpdateNew AllF
  -- a geometry or a length outside the rules is 1, whatever the bytes
  pub arm_outside : (g : Geometry) (f : Flash) → fits g f ≡ false → arm_command g f ≡ refused_with 1 f
  pub confirm_outside : (g : Geometry) (f : Flash) → fits g f ≡ false → confirm_command g f ≡ refused_with 1 f
  -- within them a status byte that is not allowed is 10, BOOT's or UPDATE's, whatever the other and the flags
  pub arm_boot : (g : Geometry) (f : Flash) (n p : ℕ) → fits g f ≡ true → boot_status_at g f.boot ≡ refused n p
      → arm_command g f ≡ refused_with 10 f
  pub arm_update : (g : Geometry) (f : Flash) (n p : ℕ) → fits g f ≡ true → update_status_at g f.update ≡ refused n p
      → arm_command g f ≡ refused_with 10 f
  pub confirm_boot : (g : Geometry) (f : Flash) (n p : ℕ) → fits g f ≡ true → boot_status_at g f.boot ≡ refused n p
      → confirm_command g f ≡ refused_with 10 f
  pub confirm_update : (g : Geometry) (f : Flash) (n p : ℕ) → fits g f ≡ true → update_status_at g f.update ≡ refused n p
      → confirm_command g f ≡ refused_with 10 f
  -- no refusal has another number or place, and none changes a byte
  pub arm_refused : (g : Geometry) (f : Flash) (n p : ℕ) → (arm_command g f).answer ≡ refused n p
      → RefusedAs ArmNumber n p f (arm_command g f)
  pub confirm_refused : (g : Geometry) (f : Flash) (n p : ℕ) → (confirm_command g f).answer ≡ refused n p
      → RefusedAs ConfirmNumber n p f (confirm_command g f)

-- ---- the laws speak of something, with three sectors of 256

-- Every byte FF: both partitions are NEW.
abbrev pub blank : Flash
blank = flash (replicate 768 0xFF) (replicate 768 0xFF) (replicate 256 0xFF)

-- The same with BOOT TESTING and this flag byte.
abbrev pub on_test_with : ℕ → Flash
on_test_with b = flash (replicate 767 0xFF ++ 0x10 ∷ []) (replicate 766 0xFF ++ b ∷ 0xFF ∷ []) (replicate 256 0xFF)

-- The time for arm, the time for confirm, flags that are not well formed, and an exchange under way.
pub record CommandsMet : Type 0 where
  pub arm : Reads three blank BootNew UpdateNew AllF
  pub confirm : Reads three (on_test_with 0xFF) Testing UpdateNew AllF
  pub malformed : Reads three (on_test_with 0x7F) Testing UpdateNew Malformed
  pub under_way : Reads three (on_test_with 0xF7) Testing UpdateNew (At (sector_number 0) BootToUpdate)
