-- Document 01, "Power-up" and "Mistakes seen in loaders like this": what the rules rule out, each as a law of its own.
use Rattle.std.specs.Prelude.{◌≡◌, ◌≢◌, ◌⊎◌, true, false, ◌++◌, ℕ, suc, ◌≤◌, ◌<◌, length, take, Some, None, option_to_list}
use Rattle.numbers.specs.Answer.{Answer, gives, refused, Refusal, numbered, inside, number_of, Reason, no_reason, because}
use Rattle.exchange.specs.Base.{Geometry, SectorNumber, BootStatus, Testing, UpdateStatus, UpdateNew, Updating, Leg, UpdateToSwap, Flags, Malformed, AllF, At, All0}
use Rattle.exchange.specs.Base.{sector_number, Flash, fits, boot_status_at, update_status_at, flags_at}
use Rattle.exchange.specs.declared.Operation.{Operation}
use Rattle.exchange.specs.declared.Operation.TheVariants.{Erase, EraseUpdateTrailer}
use Rattle.exchange.specs.declared.Job.{Job}
use Rattle.exchange.specs.declared.Job.TheVariants.{Update, Fallback, TurnDown}
use Rattle.exchange.specs.Operations.{target, perform, perform_all}
use Rattle.exchange.specs.Decision.{Check, Good, work, decide}
use Rattle.exchange.specs.PowerUp.{Outcome, refusal, cut, runs, runs_on_test, runs_fallen_back, PowerUp, if_boot_good, idle, power_up, operations_of, next_after}
use Rattle.exchange.specs.Demand.{Exchange, update, fallback, Underway, Starts}

-- What is read of a flash of the right lengths: BOOT's and UPDATE's status, and what the flags show.
pub record Reads (g : Geometry) (f : Flash) (b : BootStatus) (u : UpdateStatus) (v : Flags) : Type 0 where
  pub fit : fits g f ≡ true
  pub boot : boot_status_at g f.boot ≡ gives b
  pub update : update_status_at g f.update ≡ gives u
  pub flags : flags_at g f.update ≡ v

-- A status byte that is not allowed there, in BOOT or in UPDATE.
pub data StatusBad (g : Geometry) (f : Flash) : Type 0 where
  in_boot : (n p : ℕ) → boot_status_at g f.boot ≡ refused n p → StatusBad g f
  in_update : (n p : ℕ) → update_status_at g f.update ≡ refused n p → StatusBad g f

-- By the image checks of UPDATE and of BOOT: both are good, and UPDATE's version is greater.
pub record Newer (u b : Answer ℕ) : Type 0 where
  pub new : ℕ
  pub old : ℕ
  pub update_good : u ≡ gives new
  pub boot_good : b ≡ gives old
  pub newer : old < new

-- An outcome that starts what is in BOOT.
abbrev pub IsRun : Outcome → Type 0
IsRun (refusal r) = ⊥
IsRun cut = ⊥
IsRun runs = Unit {0}
IsRun runs_on_test = Unit {0}
IsRun runs_fallen_back = Unit {0}

-- 12, with the own number and place of an image that is bad.
pub data BadBoot (boot : Answer ℕ) : Refusal → Type 0 where
  bad_boot : (n p : ℕ) → boot ≡ refused n p → BadBoot boot (inside 12 n p)

-- An outcome that is told when a job is done and BOOT's image is good: "run on test", "run, fallen back"; after a turning down as Plain.
pub data ToldOf : Job → Outcome → Type 0 where
  on_test : ToldOf Update runs_on_test
  fallen_back : ToldOf Fallback runs_fallen_back
  as_plain : ToldOf TurnDown runs

-- Turned down: one operation, which erases the UPDATE trailer sector.
pub record TurnedDown (g : Geometry) (f : Flash) (a : PowerUp) : Type 0 where
  pub counts : a.count ≡ 1
  pub erases : a.flash ≡ perform g EraseUpdateTrailer f

-- The refusals that come before any operation: 1, 10 and 11 at no place, and 13 with UPDATE's own refusal, by the check of UPDATE.
pub data BeforeWork (update : Answer ℕ) : Refusal → Type 0 where
  outside_rules : BeforeWork update (numbered 1 0)
  status_not_allowed : BeforeWork update (numbered 10 0)
  flags_not_well_formed : BeforeWork update (numbered 11 0)
  no_good_fallback : (n p : ℕ) → update ≡ refused n p → BeforeWork update (inside 13 n p)

-- Refused so before any operation: no byte is changed.
pub record RefusedBefore (update : Answer ℕ) (r : Refusal) (f : Flash) (a : PowerUp) : Type 0 where
  pub number : BeforeWork update r
  pub counts : a.count ≡ 0
  pub same : a.flash ≡ f

pub record RuledOut : Type 0 where
  -- no update is begun that is bad or not newer, or over a bad BOOT; no fallback to a bad UPDATE
  pub update_newer : (check : Check) (g : Geometry) (f : Flash) → Starts check update g f → Newer (check g f.update) (check g f.boot)
  pub fallback_good : (check : Check) (g : Geometry) (f : Flash) → Starts check fallback g f → Good (check g f.update)
  -- and each such update and fallback is begun
  pub newer_starts : (check : Check) (g : Geometry) (f : Flash) (b : BootStatus) → Underway update b Updating → Reads g f b Updating AllF
      → Newer (check g f.update) (check g f.boot) → Starts check update g f
  pub good_fallback_starts : (check : Check) (g : Geometry) (f : Flash) → Reads g f Testing UpdateNew AllF → Good (check g f.update) → Starts check fallback g f
  -- an update that is turned down keeps its reason, whatever the budget and the outcome: the refusal of its image, or 15
  pub bad_keeps_reason : (check : Check) (g : Geometry) (f : Flash) (b : BootStatus) (n p budget : ℕ) → Underway update b Updating → Reads g f b Updating AllF
      → check g f.update ≡ refused n p → (power_up check g f budget).reason ≡ because n p
  pub old_keeps_reason : (check : Check) (g : Geometry) (f : Flash) (b : BootStatus) (v w budget : ℕ) → Underway update b Updating → Reads g f b Updating AllF
      → check g f.update ≡ gives v → check g f.boot ≡ gives w → v ≤ w → (power_up check g f budget).reason ≡ because 15 0
  -- once a flag is not F no image check has a say in what is decided, so none drops a sound exchange
  pub unchecked_inside : (check check' : Check) (g : Geometry) (f : Flash) → flags_at g f.update ≢ AllF → decide check g f ≡ decide check' g f
  -- an UPDATING whose flags are all 0 has its closing operations left to do: it is no failed test
  pub not_failed_test : (check : Check) (g : Geometry) (f : Flash) (b : BootStatus) → Reads g f b Updating All0 → decide check g f ≡ work Update no_reason
  -- a power-up begins with the first operation of the leg, and trusts no sector that was copied in part
  pub top_of_leg : (check : Check) (x : Exchange) (g : Geometry) (f : Flash) (b : BootStatus) (u : UpdateStatus) (i : SectorNumber) (leg : Leg) → Underway x b u
      → Reads g f b u (At i leg) → (power_up check g f 1).flash ≡ perform g (Erase (target leg) i) f
  -- the same where all flags are F: the first leg of sector 0
  pub top_of_first_leg : (check : Check) (x : Exchange) (g : Geometry) (f : Flash) → Starts check x g f
      → (power_up check g f 1).flash ≡ perform g (Erase (target UpdateToSwap) (sector_number 0)) f
  -- no more operations than the budget
  pub within_budget : (check : Check) (g : Geometry) (f : Flash) (budget : ℕ) → (power_up check g f budget).count ≤ budget
  -- the count is the number of the operations done, the flash is what these leave, one after the other, and a smaller budget k does the
  -- first k of them
  pub counted : (check : Check) (g : Geometry) (f : Flash) (budget : ℕ) → (power_up check g f budget).count ≡ length (operations_of check g f budget)
  pub performed : (check : Check) (g : Geometry) (f : Flash) (budget : ℕ) → (power_up check g f budget).flash ≡ perform_all g (operations_of check g f budget) f
  pub first_ones : (check : Check) (g : Geometry) (f : Flash) (k budget : ℕ) → k ≤ budget → operations_of check g f k ≡ take k (operations_of check g f budget)
  -- the call's next operation after its first k, which a loss of power may tear, is the one that a budget of k + 1 does besides
  pub next_one : (check : Check) (g : Geometry) (f : Flash) (k : ℕ) → operations_of check g f (suc k) ≡ operations_of check g f k ++ option_to_list (next_after check g f k)
  -- an update with all flags F over a bad BOOT is 12, and stays armed; a fallback with all flags F to a bad UPDATE is 13
  pub bad_boot_stays : (check : Check) (g : Geometry) (f : Flash) (b : BootStatus) (v n p budget : ℕ) → Underway update b Updating → Reads g f b Updating AllF
      → check g f.update ≡ gives v → check g f.boot ≡ refused n p → power_up check g f budget ≡ idle (refusal (inside 12 n p)) f
  pub no_fallback : (check : Check) (g : Geometry) (f : Flash) (n p budget : ℕ) → Reads g f Testing UpdateNew AllF → check g f.update ≡ refused n p
      → power_up check g f budget ≡ idle (refusal (inside 13 n p)) f
  -- a job with an operation left is "cut"; done, BOOT is checked: bad is 12, good is what is told of the job
  pub left_is_cut : (check : Check) (g : Geometry) (f : Flash) (budget : ℕ) (job : Job) (why : Reason) (o : Operation) → decide check g f ≡ work job why
      → next_after check g f budget ≡ Some o → (power_up check g f budget).outcome ≡ cut
  pub done_bad : (check : Check) (g : Geometry) (f : Flash) (budget n p : ℕ) (job : Job) (why : Reason) → decide check g f ≡ work job why
      → next_after check g f budget ≡ None → check g (power_up check g f budget).flash.boot ≡ refused n p
      → (power_up check g f budget).outcome ≡ refusal (inside 12 n p)
  pub done_good : (check : Check) (g : Geometry) (f : Flash) (budget v : ℕ) (job : Job) (why : Reason) → decide check g f ≡ work job why
      → next_after check g f budget ≡ None → check g (power_up check g f budget).flash.boot ≡ gives v
      → ToldOf job (power_up check g f budget).outcome
  -- nothing is run that is bad: BOOT's image in the flash that is left is good
  pub runs_good : (check : Check) (g : Geometry) (f : Flash) (budget : ℕ) → IsRun (power_up check g f budget).outcome
      → Good (check g (power_up check g f budget).flash.boot)
  -- a power-up that gives a reason has turned the update down, if it may do an operation
  pub reason_erases : (check : Check) (g : Geometry) (f : Flash) (budget n p : ℕ) → (power_up check g f budget).reason ≡ because n p → 1 ≤ budget
      → TurnedDown g f (power_up check g f budget)
  -- with UPDATING and TESTING, flags that are not all 0 are 11
  pub closing_only : (check : Check) (g : Geometry) (f : Flash) (v : Flags) (budget : ℕ) → Reads g f Testing Updating v → v ≢ All0
      → power_up check g f budget ≡ idle (refusal (numbered 11 0)) f
  -- the order of the checks: geometry and lengths are 1, whatever the bytes; then a status byte that is not allowed is 10, whatever the
  -- flags; then, if UPDATE is UPDATING or BOOT is TESTING, flags that are not well formed are 11, whatever the images
  pub outside_first : (check : Check) (g : Geometry) (f : Flash) (budget : ℕ) → fits g f ≡ false → power_up check g f budget ≡ idle (refusal (numbered 1 0)) f
  pub status_next : (check : Check) (g : Geometry) (f : Flash) (budget : ℕ) → fits g f ≡ true → StatusBad g f
      → power_up check g f budget ≡ idle (refusal (numbered 10 0)) f
  pub malformed_refused : (check : Check) (g : Geometry) (f : Flash) (b : BootStatus) (u : UpdateStatus) (budget : ℕ) → (u ≡ Updating) ⊎ (b ≡ Testing)
      → Reads g f b u Malformed → power_up check g f budget ≡ idle (refusal (numbered 11 0)) f
  -- Plain reads no flags and does nothing: BOOT is checked, and run if it is good
  pub plain_unread : (check : Check) (g : Geometry) (f : Flash) (b : BootStatus) (v : Flags) (budget : ℕ) → b ≢ Testing → Reads g f b UpdateNew v
      → power_up check g f budget ≡ idle (if_boot_good runs (check g f.boot)) f
  -- a refusal other than 12 is 1, 10, 11 or 13, and comes before any operation
  pub refused_before : (check : Check) (g : Geometry) (f : Flash) (budget : ℕ) (r : Refusal) → (power_up check g f budget).outcome ≡ refusal r
      → number_of r ≢ 12 → RefusedBefore (check g f.update) r f (power_up check g f budget)
  -- 12 carries the own number and place of BOOT's image, in the flash that is left
  pub bad_boot : (check : Check) (g : Geometry) (f : Flash) (budget : ℕ) (r : Refusal) → (power_up check g f budget).outcome ≡ refusal r
      → number_of r ≡ 12 → BadBoot (check g (power_up check g f budget).flash.boot) r
  -- whatever the outcome, also with 12: where no operation is counted no byte is changed
  pub none_counted : (check : Check) (g : Geometry) (f : Flash) (budget : ℕ) → (power_up check g f budget).count ≡ 0 → (power_up check g f budget).flash ≡ f
