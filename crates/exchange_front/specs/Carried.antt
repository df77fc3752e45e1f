-- Document 02, "Keep the front": what is carried from operation to operation. The rules do not know of it: they find the next operation by
-- reading all flags, and the front is what a scan of them gives (`flash_flags/front`).
use Rattle.std.specs.Prelude.{◌≡◌, List, ℕ, ◌-◌, set, Option, Some, None}
use Rattle.flash.specs.declared.Geometry.{Geometry}
use Rattle.flash.specs.Sizes.{geometry, firmware, Limits}
use Rattle.flash.specs.Sectors.{sector_number, erased}
use Rattle.flash.specs.Buffers.{Flash, flash, Shaped}
use Rattle.flash_status.specs.StatusBytes.{boot_status_at, update_status_at}
use Rattle.flash_flags.specs.declared.Flag.TheVariants.{Exchanged}
use Rattle.flash_flags.specs.SectorFlags.{flag_at}
use Rattle.flash_flags.specs.Front.{front, by_front, WellFormed}
use Rattle.exchange.specs.declared.Job.{Job}
use Rattle.exchange.specs.declared.Job.TheVariants.{Update}
use Rattle.exchange.specs.declared.Operation.{Operation}
use Rattle.exchange.specs.declared.Operation.TheVariants.{WriteFlag, EraseUpdateTrailer}
use Rattle.exchange.specs.Operations.{phase_after, perform}
use Rattle.exchange.specs.Order.{ordered_by, next_by, next_operation, step}
use Rattle.exchange_front.specs.declared.Progress.{Progress}
use Rattle.exchange_front.specs.Inner.{front_after}

-- At the start of a power-up's work: the front by a scan of UPDATE's bytes u, the top of a leg, the whole budget.
abbrev pub begun : Geometry → List ℕ → ℕ → Progress
begun g u budget = record { front = sector_number (front g u); phase = 0; left = budget }

-- After a step that left the bytes u in UPDATE: the front is what the scan of these bytes gives, whatever the step did. Where an operation
-- was next, the phase is the one after it, and of the budget one less is left.
abbrev pub progress_scanned : Geometry → List ℕ → Option Operation → Progress → Progress
progress_scanned g u None at = record { front = sector_number (front g u); phase = at.phase; left = at.left }
progress_scanned g u (Some o) at = record { front = sector_number (front g u); phase = phase_after o; left = at.left - 1 }

-- The operation that is next by what is carried: the two statuses, the front, whatever number it is, and the flag that stands there. No
-- other flag has a say.
abbrev pub next_at : Job → Geometry → Progress → List ℕ → List ℕ → Option Operation
next_at job g at boot update =
    ordered_by job at.phase (boot_status_at g boot) (update_status_at g update) (by_front (firmware g) at.front.0 (flag_at g update at.front.0))

-- What is carried may be taken up at UPDATE's bytes u: the front is the scan's, and the flags are well formed, as power-up's check of them
-- has found. Phase and budget are the run's own.
pub record Current (g : Geometry) (u : List ℕ) (at : Progress) : Type 0 where
  pub formed : WellFormed g u
  pub scanned : at.front ≡ sector_number (front g u)

-- ---- What is claimed of it. Each statement is proved in proofs/.

-- By what is carried the next operation is the one that the rules find by reading all flags.
abbrev pub SameNext : Type 0
SameNext =
    (job : Job) (g : Geometry) (at : Progress) (boot update : List ℕ) → Limits g → Current g update at
    → next_at job g at boot update ≡ next_by job g at.phase boot update

-- After each operation that the rules order, the scan gives the front as `front_after` moves it.
abbrev pub FrontFollows : Type 0
FrontFollows =
    (job : Job) (g : Geometry) (p : ℕ) (f : Flash) (o : Operation) → Shaped g f → WellFormed g f.update → next_operation job g p f ≡ Some o
    → front g (perform g o f).update ≡ front_after o (front g f.update)

-- No step makes well-formed flags malformed, so that the next one can take up what this one hands on.
abbrev pub StepsKeepForm : Type 0
StepsKeepForm = (job : Job) (g : Geometry) (p : ℕ) (f : Flash) → Shaped g f → WellFormed g f.update → WellFormed g (step job g p f).flash.update

-- These speak of something. Of three sectors of 256 bytes in an update whose flags read 0 and 3, a step at the end of the leg writes flag 0
-- and takes the front from 1 to 2, which is m. With all flags 0 and BOOT TESTING, a step erases UPDATE's trailer sector and takes it from 2
-- to 0.
pub record StepTaken (p : ℕ) (f : Flash) (o : Operation) (k k' : ℕ) : Type 0 where
  pub shaped : Shaped (geometry 3 256) f
  pub formed : WellFormed (geometry 3 256) f.update
  pub next : next_operation Update (geometry 3 256) p f ≡ Some o
  pub before : front (geometry 3 256) f.update ≡ k
  pub after : front (geometry 3 256) (perform (geometry 3 256) o f).update ≡ k'

-- BOOT with this status byte; UPDATE UPDATING, with this flag byte; FF elsewhere, and in SWAP
abbrev pub flagged : ℕ → ℕ → Flash
flagged flag_byte status = flash (set (erased 768) 767 status) (set (set (erased 768) 766 flag_byte) 767 0x70) (erased 256)

abbrev pub StepsTaken : Type 0
StepsTaken = (StepTaken 2 (flagged 0x30 0xFF) (WriteFlag (sector_number 1) Exchanged) 1 2) × (StepTaken 0 (flagged 0x00 0x10) EraseUpdateTrailer 2 0)
