-- Document 01, "Power-up": the single operations, what each does to the three buffers, and the two tables.
use Rattle.std.specs.Prelude.{List, [], ◌∷◌, ℕ, zero, suc}
use Rattle.exchange.specs.Base.{Geometry, SectorNumber, Flag, Untouched, Saved, Moved, Exchanged, Leg, UpdateToSwap, BootToUpdate, SwapToBoot}
use Rattle.exchange.specs.Base.{firmware, sector_of, write_sector, erased, Flash, flash, set_boot_status, set_update_status, set_flag}
use Rattle.exchange.specs.declared.Area.{Area}
use Rattle.exchange.specs.declared.Area.TheVariants.{Boot, Update, Swap}
use Rattle.exchange.specs.declared.Operation.{Operation}
use Rattle.exchange.specs.declared.Operation.TheVariants.{Erase, Copy, WriteFlag, EraseBootTrailer, EraseUpdateTrailer, WriteBootStatus, WriteUpdateStatus}

-- Sector i of an area, and the flash with x written over it. SWAP is one sector, whatever i.
abbrev pub get : Geometry → Area → ℕ → Flash → List ℕ
get g Boot i f = sector_of g i f.boot
get g Update i f = sector_of g i f.update
get g Swap i f = f.swap

abbrev pub put : Geometry → Area → ℕ → List ℕ → Flash → Flash
put g Boot i x f = flash (write_sector g i x f.boot) f.update f.swap
put g Update i x f = flash f.boot (write_sector g i x f.update) f.swap
put g Swap i x f = flash f.boot f.update x

-- The table's column of operations: each leg erases its target, copies its source over it, and writes the next flag.
-- Leg F copies UPDATE to SWAP, leg 7 BOOT to UPDATE, leg 3 SWAP to BOOT.
abbrev pub source : Leg → Area
source UpdateToSwap = Update
source BootToUpdate = Boot
source SwapToBoot = Swap

abbrev pub target : Leg → Area
target UpdateToSwap = Swap
target BootToUpdate = Update
target SwapToBoot = Boot

abbrev pub next_flag : Leg → Flag
next_flag UpdateToSwap = Saved
next_flag BootToUpdate = Moved
next_flag SwapToBoot = Exchanged

-- The operation at phase 0, 1 or 2 of a leg of sector i (the phase is ours: how far a leg has come), and the phase after an operation.
abbrev pub leg_operation : Leg → ℕ → SectorNumber → Operation
leg_operation leg zero i = Erase (target leg) i
leg_operation leg (suc zero) i = Copy leg i
leg_operation leg (suc (suc p)) i = WriteFlag i (next_flag leg)

abbrev pub phase_after : Operation → ℕ
phase_after (Erase a i) = 1
phase_after (Copy leg i) = 2
phase_after (WriteFlag i v) = 0
phase_after EraseBootTrailer = 0
phase_after EraseUpdateTrailer = 0
phase_after (WriteBootStatus v) = 0
phase_after (WriteUpdateStatus v) = 0

-- The table of places: by a sector's flag, where its old BOOT and its old UPDATE sector stand.
abbrev pub old_boot_in : Flag → Area
old_boot_in Untouched = Boot
old_boot_in Saved = Boot
old_boot_in Moved = Update
old_boot_in Exchanged = Update

abbrev pub old_update_in : Flag → Area
old_update_in Untouched = Update
old_update_in Saved = Swap
old_update_in Moved = Swap
old_update_in Exchanged = Boot

-- What an operation does. The trailer sector is the one behind the firmware sectors.
abbrev pub perform : Geometry → Operation → Flash → Flash
perform g (Erase a i) f = put g a i.0 (erased g.size) f
perform g (Copy leg i) f = put g (target leg) i.0 (get g (source leg) i.0 f) f
perform g (WriteFlag i v) f = flash f.boot (set_flag g i.0 v f.update) f.swap
perform g EraseBootTrailer f = put g Boot (firmware g) (erased g.size) f
perform g EraseUpdateTrailer f = put g Update (firmware g) (erased g.size) f
perform g (WriteBootStatus v) f = flash (set_boot_status g v f.boot) f.update f.swap
perform g (WriteUpdateStatus v) f = flash f.boot (set_update_status g v f.update) f.swap

-- Operations one after the other.
abbrev pub perform_all : Geometry → List Operation → Flash → Flash
perform_all g [] f = f
perform_all g (o ∷ os) f = perform_all g os (perform g o f)
