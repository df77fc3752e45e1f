-- Document 02, "There and back": an accepted update that nobody confirms, powered up again and again, falls back, and then every firmware
-- sector is as it was before. Nobody else writes the flash, so all that happens is one list of power-ups, through both finishes and on.
use Rattle.std.specs.Prelude.{◌≡◌, true, List, ℕ, ◌+◌, ◌*◌, ◌≤◌, ◌<◌}
use Rattle.numbers.specs.Answer.{gives}
use Rattle.exchange.specs.Base.{Geometry, Success, UpdateNew, All0}
use Rattle.exchange.specs.Base.{firmware, Flash, flash, fits, boot_status_at, update_status_at, flags_at}
use Rattle.exchange.specs.declared.Area.TheVariants.{Boot, Update}
use Rattle.exchange.specs.Operations.{get}
use Rattle.exchange.specs.Decision.{Check, Good, plain, decide}
use Rattle.exchange.specs.PowerUp.{runs}
use Rattle.exchange.specs.Along.{state_after, Along}
use Rattle.exchange.specs.Demand.{Exchange, update, fallback, Finished, Starts, Ongoing, ReadsFirmware, Event, Kept, kept, lost_power, Left, left, flash_left, EndsAsAllowed, flash_after, completed, early_ends, IsRefusal, Answers, EachSafe, AtFinish, most}

-- ---- what is given back

-- Firmware sector i of BOOT, and that of UPDATE, is at y what it was at f.
pub record SectorAsBefore (g : Geometry) (f y : Flash) (i : ℕ) : Type 0 where
  pub boot : get g Boot i y ≡ get g Boot i f
  pub update : get g Update i y ≡ get g Update i f

-- All of them; and the trailers end with BOOT SUCCESS, UPDATE NEW, flags all 0.
pub record GivenBack (g : Geometry) (f y : Flash) : Type 0 where
  pub sectors : (i : ℕ) → i < firmware g → SectorAsBefore g f y i
  pub boot_status : boot_status_at g y.boot ≡ gives Success
  pub update_status : update_status_at g y.update ≡ gives UpdateNew
  pub flags : flags_at g y.update ≡ All0

-- What the two halves of m firmware sectors take at most if nothing disturbs them: 9m + 3 and 9m + 1, together 18m + 4.
abbrev pub most_there_and_back : ℕ → ℕ
most_there_and_back m = 18 * m + 4

-- ---- where a list can end

-- The update's finish, which is the fallback's start: every firmware sector has changed sides, and UPDATE holds what BOOT held, which is good.
pub record Halfway (check : Check) (g : Geometry) (f y : Flash) : Type 0 where
  pub exchanged : AtFinish update g f y
  pub starts : Starts check fallback g y
  pub same_as_boot : check g y.update ≡ check g f.boot
  pub good : Good (check g y.update)

-- The fallback's old firmware sectors, by what stood there before the update: BOOT's are UPDATE's, and the reverse. Nothing else of it is
-- looked at, but for the length of UPDATE and its check, which reads the firmware sectors only.
abbrev pub sides_changed : Flash → Flash
sides_changed f = flash f.update f.boot f.swap

-- The fallback's finish, and rest from there on: all is given back, both images check as they did before, and a power-up is Plain.
pub record AtRest (check : Check) (g : Geometry) (f y : Flash) : Type 0 where
  pub given_back : GivenBack g f y
  pub boot_checks : check g y.boot ≡ check g f.boot
  pub update_checks : check g y.update ≡ check g f.update
  pub is_plain : decide check g y ≡ plain

-- In one of the two jobs or at rest; which of them, the status bytes show: before the update's finish UPDATE is not NEW, and behind it BOOT is
-- SUCCESS from the fallback's finish on. In each job the exchange is under way, some moves along, with its table of places: the update's
-- finish is the fallback's start, no move along, and the fallback's finish is rest.
pub data OnTheWay (check : Check) (g : Geometry) (f y : Flash) : Type 0 where
  in_update : ¬ Finished update g y → (a : ℕ) → Ongoing check update g f y a → OnTheWay check g f y
  in_fallback : Finished update g y → ¬ Finished fallback g y → (a : ℕ) → Ongoing check fallback g (sides_changed f) y a → OnTheWay check g f y
  at_rest : Finished update g y → Finished fallback g y → AtRest check g f y → OnTheWay check g f y

-- ---- what is claimed of each power-up

-- At rest, whatever the budget and wherever power fails: it does nothing, and answers "run", or 1 for a wrong geometry.
pub record DoesNothing (before : Flash) (l : Left) : Type 0 where
  pub same : l.flash ≡ before
  pub none : l.done ≡ 0
  pub answers : Answers (λ o. o ≡ runs) before l.power

-- Given its power, and budget for a whole half, a power-up that is not refused comes to the finish of the half that it finds: so two of them
-- come to rest, whatever went before.
abbrev pub ComesToFinish : Geometry → Flash → Kept → Flash → Type 0
ComesToFinish g before (kept g' budget o why) after =
    ¬ IsRefusal o → most update (firmware g) ≤ budget → (¬ Finished update g before → Finished update g after) × (Finished update g before → Finished fallback g after)
ComesToFinish g before lost_power after = Unit {0}

-- By the flash that it finds, it is one of the update's, one of the fallback's, or at rest. Where it brings the update to its finish, the
-- fallback starts. None goes back to the update.
pub record EachThrough (check : Check) (g : Geometry) (f before : Flash) (l : Left) : Type 0 where
  pub of_update : ¬ Finished update g before → EachSafe update g before l
  pub to_halfway : ¬ Finished update g before → Finished update g l.flash → Halfway check g f l.flash
  pub no_way_back : Finished update g before → Finished update g l.flash
  pub of_fallback : Finished update g before → ¬ Finished fallback g before → EachSafe fallback g before l
  pub of_rest : Finished update g before → Finished fallback g before → DoesNothing before l
  pub finishes : ComesToFinish g before l.power l.flash

-- ---- what is claimed of a list

-- All that is claimed of a list of power-ups from the flash f, where an update is accepted, as one claim, by what is seen of them.
pub record Journey (check : Check) {E : Type 0} (see : Flash → E → Left) (g : Geometry) (f : Flash) (es : List E) : Type 0 where
  -- no length changes
  pub fit : fits g (flash_after see f es) ≡ true
  -- it ends in one of the two jobs, at a finish or at rest
  pub ends : OnTheWay check g f (flash_after see f es)
  -- the operations of both halves together
  pub bounded : completed see f es ≤ most_there_and_back (firmware g) + 2 * early_ends see f es
  -- each power-up, with the flash before it and what is seen of it
  pub each : Along (flash_left see) (λ before e after. EachThrough check g f before (see before e)) f es
  -- where both finishes are behind it, all is given back
  pub given_back : Finished update g (flash_after see f es) → Finished fallback g (flash_after see f es) → GivenBack g f (flash_after see f es)

-- The lists of demand 3, save that they may go on after a finish.
abbrev pub AllowedThrough : Check → Geometry → Flash → List Event → Type 0
AllowedThrough check g f es = Along (flash_left (left check)) (λ before e after. EndsAsAllowed check g before e) f es

-- For every image check that reads the firmware sectors only, every accepted update and every list of power-ups from there.
abbrev pub EveryJourney : Type 0
EveryJourney =
    (check : Check) (g : Geometry) (f : Flash) → ReadsFirmware check g → Starts check update g f → (es : List Event) → AllowedThrough check g f es
    → Journey check (left check) g f es

-- ---- the two halves

-- Two of demand 3's lists, one behind the other: the update's power-ups to its finish, then the fallback's to its finish. `allowed` has the
-- lists of each; the state goes from call to call, and the flash is a part of it.
pub record Halves {S E : Type 0} (next : S → E → S) (flash_of : S → Flash) (allowed : Exchange → S → List E → Type 0) (g : Geometry) (s : S) (there back : List E) : Type 0 where
  pub goes : allowed update s there
  pub updated : Finished update g (flash_of (state_after next s there))
  pub falls_back : allowed fallback (state_after next s there) back
  pub fallen_back : Finished fallback g (flash_of (state_after next (state_after next s there) back))
