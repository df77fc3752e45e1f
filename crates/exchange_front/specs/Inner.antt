-- How the code moves the front, with no byte of the flash at hand.
use Rattle.std.specs.Prelude.{ℕ, ◌+◌, ◌-◌, Option, Some, None}
use Rattle.flash.specs.Sectors.{sector_number}
use Rattle.flash_flags.specs.declared.Flag.TheVariants.{Untouched, Saved, Moved, Exchanged}
use Rattle.exchange.specs.declared.Operation.{Operation}
use Rattle.exchange.specs.declared.Operation.TheVariants.{Erase, Copy, WriteFlag, EraseBootTrailer, EraseUpdateTrailer, WriteBootStatus, WriteUpdateStatus}
use Rattle.exchange.specs.Operations.{phase_after}
use Rattle.exchange_front.specs.declared.Progress.{Progress}

-- The front k goes to the next sector at flag 0, and to 0 at the erase of UPDATE's trailer sector. No other operation moves it. A flag is
-- written at the front only, so that its sector is not asked. No job orders a write of flag F or of UPDATE's status; what they would do is
-- said for completeness.
abbrev pub front_after : Operation → ℕ → ℕ
front_after (WriteFlag i Untouched) k = k
front_after (WriteFlag i Saved) k = k
front_after (WriteFlag i Moved) k = k
front_after (WriteFlag i Exchanged) k = k + 1
front_after EraseUpdateTrailer k = 0
front_after (Erase a i) k = k
front_after (Copy leg i) k = k
front_after EraseBootTrailer k = k
front_after (WriteBootStatus v) k = k
front_after (WriteUpdateStatus v) k = k

-- What is carried on from an operation: the phase after it, and of the budget one less. Where nothing is next, all stays.
abbrev pub progress_after : Progress → Operation → Progress
progress_after at o = record { front = sector_number (front_after o at.front.0); phase = phase_after o; left = at.left - 1 }

abbrev pub handed_on : Option Operation → Progress → Progress
handed_on None at = at
handed_on (Some o) at = progress_after at o
