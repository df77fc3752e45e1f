-- Demand 3: every list of power-ups from an accepted update, from a fallback whose UPDATE is good, and from an exchange that is under way.
use Rattle.std.specs.Prelude.{◌≡◌, ◌⊎◌, true, false, List, ℕ, ◌+◌, ◌-◌, ◌*◌, ◌≤◌, ◌<◌, length, Some}
use Rattle.numbers.specs.Answer.{gives, numbered, Reason, no_reason}
use Rattle.exchange.specs.Base.{Geometry, BootStatus, BootNew, Testing, Success, UpdateStatus, UpdateNew, Updating, Flag, Flags, AllF, All0}
use Rattle.exchange.specs.Base.{firmware, partition_size, firmware_of, erased, Flash, fits, boot_status_at, update_status_at, flag_rank, moved, flag_at, flags_at}
use Rattle.exchange.specs.declared.Area.TheVariants.{Boot, Update}
use Rattle.exchange.specs.declared.Job.{Job}
use Rattle.exchange.specs.declared.Job.TheVariants.{Update as UpdateJob, Fallback as FallbackJob}
use Rattle.exchange.specs.Operations.{get, old_boot_in, old_update_in}
use Rattle.exchange.specs.Decision.{Check, Good, work, decide}
use Rattle.exchange.specs.PowerUp.{Outcome, refusal, cut, runs, runs_on_test, runs_fallen_back, PowerUp, done_outcome, power_up, next_after}
use Rattle.exchange.specs.LostPower.{Torn, tear_next}
use Rattle.exchange.specs.Along.{state_after, Along, summed}

-- ---- the exchanges

-- The two kinds of exchange, and the job of the rules that each one is.
pub data Exchange : Type 0 where
  update : Exchange
  fallback : Exchange

abbrev pub job_of : Exchange → Job
job_of update = UpdateJob
job_of fallback = FallbackJob

-- BOOT's and UPDATE's status from the start of an exchange to its last leg.
pub data Underway : Exchange → BootStatus → UpdateStatus → Type 0 where
  from_new : Underway update BootNew Updating
  from_success : Underway update Success Updating
  from_testing : Underway fallback Testing UpdateNew

-- The same of an exchange of m sectors that is a moves along: once all flags are 0 an update shows TESTING too, before its last operation.
pub data StatusesAt (m : ℕ) : Exchange → ℕ → BootStatus → UpdateStatus → Type 0 where
  in_legs : {x : Exchange} {a : ℕ} {b : BootStatus} {u : UpdateStatus} → Underway x b u → StatusesAt m x a b u
  at_close : {a : ℕ} → a ≡ 3 * m → StatusesAt m update a Testing Updating

-- The finish: the last operation's new bytes stand, however the power-up ended that wrote them. An update's last operation erases the
-- UPDATE trailer sector, and UPDATE reads NEW from then on; a fallback's writes SUCCESS in BOOT.
abbrev pub Finished : Exchange → Geometry → Flash → Type 0
Finished update g f = update_status_at g f.update ≡ gives UpdateNew
Finished fallback g f = boot_status_at g f.boot ≡ gives Success

-- ---- where the old sectors stand

-- Sector i's flag is one of the four, and by that flag the table of places says where the old BOOT sector i and the old UPDATE
-- sector i stand, unharmed. `old` is the flash where the exchange started.
pub record InPlace (g : Geometry) (old f : Flash) (i : ℕ) : Type 0 where
  pub flag : Flag
  pub reads : flag_at g f.update i ≡ Some flag
  pub old_boot : get g (old_boot_in flag) i f ≡ get g Boot i old
  pub old_update : get g (old_update_in flag) i f ≡ get g Update i old

-- An exchange stands a moves along: each flag makes three moves, one sector after the other, and the flags are those after a moves in
-- all; each old sector is where the table of places has it.
pub record Stands (g : Geometry) (old f : Flash) (a : ℕ) : Type 0 where
  pub within : a ≤ 3 * firmware g
  pub flags : (i : ℕ) → i < firmware g → flag_at g f.update i ≡ Some (moved (a - 3 * i))
  pub in_place : (i : ℕ) → i < firmware g → InPlace g old f i

-- ---- where a list starts

-- Demand 3's own start: all flags are F, and the checks of power-up decide for the exchange: an update is accepted, or a fallback's
-- UPDATE is good. So the geometry and the three lengths are within the rules, and the status bytes are those of the exchange.
pub record Starts (check : Check) (x : Exchange) (g : Geometry) (f : Flash) : Type 0 where
  pub decided : decide check g f ≡ work (job_of x) no_reason
  pub flags_f : flags_at g f.update ≡ AllF

-- Any other start: an exchange of what `old` holds is under way, a moves along. The geometry, the lengths and the statuses are right, the
-- old UPDATE image is good, and where all flags are F the checks decide for the exchange.
pub record Ongoing (check : Check) (x : Exchange) (g : Geometry) (old f : Flash) (a : ℕ) : Type 0 where
  pub fit : fits g f ≡ true
  pub boot : BootStatus
  pub update : UpdateStatus
  pub statuses : StatusesAt (firmware g) x a boot update
  pub read_boot : boot_status_at g f.boot ≡ gives boot
  pub read_update : update_status_at g f.update ≡ gives update
  pub stands : Stands g old f a
  pub old_whole : length old.update ≡ partition_size g
  pub old_good : Good (check g old.update)
  pub decided : flags_at g f.update ≡ AllF → decide check g f ≡ work (job_of x) no_reason

-- The image check reads the firmware sectors and nothing else: partitions that agree there get the same answer.
abbrev pub ReadsFirmware : Check → Geometry → Type 0
ReadsFirmware check g =
    (l l' : List ℕ) → length l ≡ partition_size g → length l' ≡ partition_size g → firmware_of g l ≡ firmware_of g l' → check g l ≡ check g l'

-- ---- a power-up of the list

-- Each has its own geometry, which may be a wrong one, and its own budget. It keeps its power; or it loses power after k completed
-- operations, and then the next one is torn.
pub data Event : Type 0 where
  untorn : Geometry → ℕ → Event
  lost : Geometry → ℕ → ℕ → Torn → Event

-- Of a power-up that kept its power: the geometry and the budget that it was given, and the outcome and the reason that it told.
pub data Kept : Type 0 where
  kept : Geometry → ℕ → Outcome → Reason → Kept
  lost_power : Kept

-- What is seen of a power-up: the bytes that it leaves, how many operations were completed, 1 if it ended early, else 0, and what it was
-- given and answered if it kept its power.
pub record Left : Type 0 where
  pub flash : Flash
  pub done : ℕ
  pub early : ℕ
  pub power : Kept

abbrev pub is_cut : Outcome → ℕ
is_cut (refusal r) = 0
is_cut cut = 1
is_cut runs = 0
is_cut runs_on_test = 0
is_cut runs_fallen_back = 0

-- Untorn: what the call itself leaves and counts; "cut" is an early end.
abbrev pub left_untorn : Geometry → ℕ → PowerUp → Left
left_untorn g budget a = record { flash = a.flash; done = a.count; early = is_cut a.outcome; power = kept g budget a.outcome a.reason }

-- Power lost after k operations, where f is left: k are counted, a torn one is not, and the end is early.
abbrev pub left_lost : ℕ → Flash → Left
left_lost k f = record { flash = f; done = k; early = 1; power = lost_power }

-- By the rules. Power lost after k leaves what the same call leaves with the budget k, with its next operation torn. Where the budget is
-- used up at k, this allows a torn operation that the call would not have begun: more than can happen.
unfoldable pub left : Check → Flash → Event → Left
left check f (untorn g budget) = left_untorn g budget (power_up check g f budget)
left check f (lost g budget k t) = left_lost k (tear_next g t (next_after check g f k) (power_up check g f k).flash)

-- ---- a list of them

-- `see` is what is seen of each power-up of a list, by the flash that it finds. The flash goes from one to the next.
abbrev pub flash_left : {E : Type 0} → (Flash → E → Left) → Flash → E → Flash
flash_left see f e = (see f e).flash

-- Power fails after no more operations than the call would do with its budget, so after none if it is refused; torn bytes fill a sector.
abbrev pub EndsAsAllowed : Check → Geometry → Flash → Event → Type 0
EndsAsAllowed check g f (untorn g' budget) = Unit {0}
EndsAsAllowed check g f (lost g' budget k t) = (k ≤ (power_up check g' f budget).count) × (length t.bytes ≡ g.size)

-- The lists that 01 allows from the flash f: no power-up comes after the finish.
abbrev pub Allowed : Check → Exchange → Geometry → Flash → List Event → Type 0
Allowed check x g f es =
    Along (flash_left (left check)) (λ before e after. (¬ Finished x g before) × EndsAsAllowed check g before e) f es

-- The bytes after a list, the operations completed in it, and how many of its power-ups ended early: the c of the bound.
abbrev pub flash_after : {E : Type 0} → (Flash → E → Left) → Flash → List E → Flash
flash_after see f es = state_after (flash_left see) f es

abbrev pub completed : {E : Type 0} → (Flash → E → Left) → Flash → List E → ℕ
completed see f es = summed (flash_left see) (λ before e. (see before e).done) f es

abbrev pub early_ends : {E : Type 0} → (Flash → E → Left) → Flash → List E → ℕ
early_ends see f es = summed (flash_left see) (λ before e. (see before e).early) f es

-- ---- what is claimed of each power-up

-- Some firmware sector's flag has moved on.
pub record FlagMovedOn (g : Geometry) (before after : Flash) : Type 0 where
  pub sector : ℕ
  pub is_firmware : sector < firmware g
  pub was : Flag
  pub is : Flag
  pub read_before : flag_at g before.update sector ≡ Some was
  pub read_after : flag_at g after.update sector ≡ Some is
  pub on : flag_rank was < flag_rank is

-- Sector i's flag has not moved back.
pub record FlagNotBack (g : Geometry) (before after : Flash) (i : ℕ) : Type 0 where
  pub was : Flag
  pub is : Flag
  pub read_before : flag_at g before.update i ≡ Some was
  pub read_after : flag_at g after.update i ≡ Some is
  pub not_back : flag_rank was ≤ flag_rank is

abbrev pub IsRefusal : Outcome → Type 0
IsRefusal (refusal r) = Unit {0}
IsRefusal cut = ⊥
IsRefusal runs = ⊥
IsRefusal runs_on_test = ⊥
IsRefusal runs_fallen_back = ⊥

-- Progress: given three operations or more, a power-up that keeps its power and is not refused comes to the finish, or leaves some
-- flag further on.
abbrev pub MovesOn : Exchange → Geometry → Flash → Kept → Flash → Type 0
MovesOn x g before (kept g' budget o why) after = ¬ IsRefusal o → 3 ≤ budget → Finished x g after ⊎ FlagMovedOn g before after
MovesOn x g before lost_power after = Unit {0}

-- An answer beside the flash that is left: "cut" before the finish, and at the finish the outcome of an exchange that is done.
abbrev pub CutOrDone : Exchange → Geometry → Outcome → Flash → Type 0
CutOrDone x g o f = ((o ≡ cut) × (¬ Finished x g f)) ⊎ ((o ≡ done_outcome (job_of x)) × Finished x g f)

-- What an untorn power-up answers: refusal 1 for a wrong geometry or length, which is the only refusal; else what is right there. No update
-- is turned down, so no reason is told.
abbrev pub Answers : (Outcome → Type 0) → Flash → Kept → Type 0
Answers Right before (kept g' budget o why) =
    (why ≡ no_reason) × (((fits g' before ≡ false) × (o ≡ refusal (numbered 1 0))) ⊎ ((fits g' before ≡ true) × Right o))
Answers Right before lost_power = Unit {0}

-- In an exchange it is right by the flash that is left.
abbrev pub AnswersRight : Exchange → Geometry → Flash → Kept → Flash → Type 0
AnswersRight x g before p after = Answers (λ o. CutOrDone x g o after) before p

-- Each power-up makes progress, none undoes any, torn or not, before the finish, and each answers as it should.
pub record EachSafe (x : Exchange) (g : Geometry) (before : Flash) (l : Left) : Type 0 where
  pub moves_on : MovesOn x g before l.power l.flash
  pub no_flag_back : ¬ Finished x g l.flash → (i : ℕ) → i < firmware g → FlagNotBack g before l.flash i
  pub answers : AnswersRight x g before l.power l.flash

-- ---- what is claimed of the finish

-- Sector i has changed sides: BOOT has the old UPDATE sector, and UPDATE the old BOOT sector.
pub record SectorExchanged (g : Geometry) (old f : Flash) (i : ℕ) : Type 0 where
  pub boot_holds : get g Boot i f ≡ get g Update i old
  pub update_holds : get g Update i f ≡ get g Boot i old

-- The last operation's bytes: an UPDATE trailer sector that is erased from end to end, or SUCCESS in BOOT.
abbrev pub LastBytes : Exchange → Geometry → Flash → Type 0
LastBytes update g f = get g Update (firmware g) f ≡ erased g.size
LastBytes fallback g f = boot_status_at g f.boot ≡ gives Success

-- BOOT's status at the finish, and what the flags show. UPDATE's status is NEW.
abbrev pub boot_at_finish : Exchange → BootStatus
boot_at_finish update = Testing
boot_at_finish fallback = Success

abbrev pub flags_at_finish : Exchange → Flags
flags_at_finish update = AllF
flags_at_finish fallback = All0

-- The firmware sectors have changed sides, the last operation's bytes stand, and the statuses and the flags are those of 01.
pub record AtFinish (x : Exchange) (g : Geometry) (old f : Flash) : Type 0 where
  pub exchanged : (i : ℕ) → i < firmware g → SectorExchanged g old f i
  pub last_bytes : LastBytes x g f
  pub boot_status : boot_status_at g f.boot ≡ gives (boot_at_finish x)
  pub update_status : update_status_at g f.update ≡ gives UpdateNew
  pub flags : flags_at g f.update ≡ flags_at_finish x

-- ---- what is claimed of a list

-- What an exchange of m firmware sectors takes at most if nothing disturbs it: nine operations for each sector, and those that close
-- it, three of an update and one of a fallback.
abbrev pub most : Exchange → ℕ → ℕ
most update m = 9 * m + 3
most fallback m = 9 * m + 1

-- All that is claimed of a list, as one claim, by what is seen of its power-ups. The exchange of what `old` holds stands a moves along at
-- f, where the list starts.
pub record Safe (check : Check) {E : Type 0} (see : Flash → E → Left) (x : Exchange) (g : Geometry) (old f : Flash) (a : ℕ) (es : List E) : Type 0 where
  -- no length changes
  pub fit : fits g (flash_after see f es) ≡ true
  -- before the finish: where the old sectors stand
  pub in_place : ¬ Finished x g (flash_after see f es) → (i : ℕ) → i < firmware g → InPlace g old (flash_after see f es) i
  -- and the exchange is under way, no fewer moves along, so that all of this holds from there too
  pub ongoing : ¬ Finished x g (flash_after see f es) → (b : ℕ) × (a ≤ b) × Ongoing check x g old (flash_after see f es) b
  -- the bound on completed operations: three fewer for each move that was made before, and an early end costs two more at most, those of
  -- a leg that is begun again
  pub bounded : completed see f es + 3 * a ≤ most x (firmware g) + 2 * early_ends see f es
  -- each power-up of the list, with the flash before it and what is seen of it
  pub each : Along (flash_left see) (λ before e after. EachSafe x g before (see before e)) f es
  -- the finish
  pub at_finish : Finished x g (flash_after see f es) → AtFinish x g old (flash_after see f es)

-- For every image check that reads the firmware sectors only, every exchange under way and every list that 01 allows from there.
abbrev pub Demand3Ongoing : Type 0
Demand3Ongoing =
    (check : Check) (x : Exchange) (g : Geometry) (old f : Flash) (a : ℕ) → ReadsFirmware check g → Ongoing check x g old f a → (es : List Event)
    → Allowed check x g f es → Safe check (left check) x g old f a es

-- Demand 3: every start and every list that 01 allows from there. The old sectors are those of the list's first flash, and no move is behind it.
abbrev pub Demand3 : Type 0
Demand3 =
    (check : Check) (x : Exchange) (g : Geometry) (f : Flash) → ReadsFirmware check g → Starts check x g f → (es : List Event)
    → Allowed check x g f es → Safe check (left check) x g f f 0 es
