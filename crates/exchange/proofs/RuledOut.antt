-- What the rules rule out.
use mathlib.Core.Path.{◌≡◌, refl, sym, ap, ◌∙◌, subst, ap₂}
use mathlib.Core.Logic.{◌≢◌, ◌⊎◌, inl, inr}
use mathlib.Core.Bool.{Bool, true, false, cond}
use mathlib.Core.List.{List, [], ◌∷◌, ◌++◌}
use Prim.Native.Nat.{ℕ, zero, suc, ◌≤◌}
use native.Mathlib.Omega.{arith}
use lib.ListN.{length, take}
use lib.Dec.{ltb}
use Rattle.std.specs.Prelude.{Option, Some, None, option_to_list}
use Rattle.numbers.specs.Answer.{Answer, gives, refused, Refusal, numbered, inside, number_of, Reason, no_reason, because}
use Rattle.exchange.specs.Base.{Geometry, SectorNumber, BootStatus, BootNew, Testing, Success, UpdateStatus, UpdateNew, Updating, Leg, UpdateToSwap, Flags, Malformed, AllF, At, All0}
use Rattle.exchange.specs.Base.{sector_number, Flash, Shaped, fits, status_byte, boot_status_of, boot_status_at, update_status_of, update_status_at, flags_at}
use Rattle.exchange.specs.declared.Operation.{Operation}
use Rattle.exchange.specs.declared.Operation.TheVariants.{Erase, EraseUpdateTrailer}
use Rattle.exchange.specs.declared.Job.{Job}
use Rattle.exchange.specs.declared.Job.TheVariants.{Update, Fallback, TurnDown}
use Rattle.exchange.specs.Operations.{target, perform, perform_all}
use Rattle.exchange.specs.Order.{next_operation, Run, stopped, one_more, run}
use Rattle.exchange.specs.Decision.{Check, Good, Plan, refuse, plain, work, accept, accept_fallback, decide_update, decide_fallback, decide_closing, decide_by, decide_statuses, decide_within, decide}
use Rattle.exchange.specs.PowerUp.{Outcome, refusal, cut, runs, runs_on_test, runs_fallen_back, PowerUp, if_boot_good, done_outcome, outcome_by, idle, carry_out, power_up, operations_in, operations_of, next_in, next_after}
use Rattle.exchange.specs.Demand.{Exchange, update, fallback, job_of, Starts, Underway, from_new, from_success, from_testing}
use Rattle.exchange.specs.RuledOut.{Reads, StatusBad, in_boot, in_update, IsRun, ToldOf, on_test, fallen_back, as_plain, BadBoot, bad_boot, TurnedDown, BeforeWork, outside_rules, status_not_allowed, flags_not_well_formed, no_good_fallback, RefusedBefore, RuledOut}
use Rattle.flash.proofs.Checked.{shaped_of}
use Rattle.flash_status.proofs.Ten.{boot_refused, update_refused}
use Rattle.flash_flags.proofs.Laws.{update_erased}
use Rattle.exchange.proofs.Orders.{next_by_reads, decide_by_reads}
use Rattle.exchange.proofs.Runs.{run_none, run_some, run_count, run_flash, operations_first, operations_next, run_within, power_up_works}
use Rattle.exchange.proofs.Accepted.{Images, Accepted, begun, not_newer_lem, accepted, boot_is_12, update_is_13}
use Rattle.exchange.proofs.Decided.{resumed}

-- ---- by what is read

reads_decide : (check : Check) (g : Geometry) (f : Flash) (b : BootStatus) (u : UpdateStatus) (v : Flags) → Reads g f b u v
    → decide check g f ≡ decide_by b u v (check g f.update) (check g f.boot)
reads_decide check g f b u v r = decide_by_reads check g f b u v r.fit r.boot r.update r.flags

all_F : (b : BootStatus) (y z : Answer ℕ) → Underway update b Updating → decide_by b Updating AllF y z ≡ accept y z
all_F b y z from_new = refl
all_F b y z from_success = refl

reason_of_lem : (check : Check) (g : Geometry) (f : Flash) (budget : ℕ) (why : Reason) → decide check g f ≡ work TurnDown why → (power_up check g f budget).reason ≡ why
reason_of_lem check g f budget why e = ap (λ (a : PowerUp). a.reason) (power_up_works check g f budget TurnDown why e)

accept_bad : (y z : Answer ℕ) (n p : ℕ) → y ≡ refused n p → accept y z ≡ work TurnDown (because n p)
accept_bad y z n p e = rw e refl

accept_old : (y z : Answer ℕ) (v w : ℕ) → y ≡ gives v → z ≡ gives w → v ≤ w → accept y z ≡ work TurnDown (because 15 0)
accept_old y z v w e k h = rw (e, k) (not_newer_lem v w h)

begins : (check : Check) (x : Exchange) (g : Geometry) (f : Flash) (b : BootStatus) (u : UpdateStatus) → Underway x b u → Reads g f b u AllF
    → Images x (check g f.update) (check g f.boot) → Starts check x g f
begins check x g f b u w r I =
    record { decided = reads_decide check g f b u AllF r ∙ begun w (check g f.update) (check g f.boot) I; flags_f = r.flags }

-- ---- no image check once a flag is not F

update_unchecked : (v : Flags) (y z y' z' : Answer ℕ) → v ≢ AllF → decide_update v y z ≡ decide_update v y' z'
update_unchecked Malformed y z y' z' h = refl
update_unchecked AllF y z y' z' h = absurd (h refl)
update_unchecked (At i leg) y z y' z' h = refl
update_unchecked All0 y z y' z' h = refl

fallback_unchecked : (v : Flags) (y y' : Answer ℕ) → v ≢ AllF → decide_fallback v y ≡ decide_fallback v y'
fallback_unchecked Malformed y y' h = refl
fallback_unchecked AllF y y' h = absurd (h refl)
fallback_unchecked (At i leg) y y' h = refl
fallback_unchecked All0 y y' h = refl

unchecked_by : (b : BootStatus) (u : UpdateStatus) (v : Flags) (y z y' z' : Answer ℕ) → v ≢ AllF → decide_by b u v y z ≡ decide_by b u v y' z'
unchecked_by BootNew UpdateNew v y z y' z' h = refl
unchecked_by Success UpdateNew v y z y' z' h = refl
unchecked_by Testing UpdateNew v y z y' z' h = fallback_unchecked v y y' h
unchecked_by BootNew Updating v y z y' z' h = update_unchecked v y z y' z' h
unchecked_by Success Updating v y z y' z' h = update_unchecked v y z y' z' h
unchecked_by Testing Updating v y z y' z' h = refl

unchecked_statuses : (b : Answer BootStatus) (u : Answer UpdateStatus) (v : Flags) (y z y' z' : Answer ℕ) → v ≢ AllF
    → decide_statuses b u v y z ≡ decide_statuses b u v y' z'
unchecked_statuses (refused n p) u v y z y' z' h = refl
unchecked_statuses (gives b) (refused n p) v y z y' z' h = refl
unchecked_statuses (gives b) (gives u) v y z y' z' h = unchecked_by b u v y z y' z' h

unchecked : (check check' : Check) (g : Geometry) (f : Flash) → flags_at g f.update ≢ AllF → decide check g f ≡ decide check' g f
unfolding decide
unchecked check check' g f h =
    ap (λ (y : Plan). cond (fits g f) y (refuse (numbered 1 0)))
    (unchecked_statuses (boot_status_at g f.boot) (update_status_at g f.update) (flags_at g f.update) (check g f.update) (check g f.boot)
    (check' g f.update) (check' g f.boot) h)

-- ---- all flags 0

all_0_updates : (b : BootStatus) (y z : Answer ℕ) → decide_by b Updating All0 y z ≡ work Update no_reason
all_0_updates BootNew y z = refl
all_0_updates Testing y z = refl
all_0_updates Success y z = refl

-- ---- the top of a leg

erases_first : (x : Exchange) (g : Geometry) (f : Flash) (b : BootStatus) (u : UpdateStatus) (i : SectorNumber) (leg : Leg) → Underway x b u → Reads g f b u (At i leg)
    → next_operation (job_of x) g 0 f ≡ Some (Erase (target leg) i)
erases_first x g f b u i leg from_new r = next_by_reads (job_of x) g 0 f b u (At i leg) r.boot r.update r.flags
erases_first x g f b u i leg from_success r = next_by_reads (job_of x) g 0 f b u (At i leg) r.boot r.update r.flags
erases_first x g f b u i leg from_testing r = next_by_reads (job_of x) g 0 f b u (At i leg) r.boot r.update r.flags

-- one operation, where the work is decided and its first operation known
does_first : (check : Check) (x : Exchange) (g : Geometry) (f : Flash) (o : Operation) → decide check g f ≡ work (job_of x) no_reason
    → next_operation (job_of x) g 0 f ≡ Some o → (power_up check g f 1).flash ≡ perform g o f
unfolding run
does_first check x g f o d n =
    ap (λ (a : PowerUp). a.flash) (power_up_works check g f 1 (job_of x) no_reason d) ∙ ap (λ (a : Run). a.flash) (run_some (job_of x) g 0 0 f o n)

top : (check : Check) (x : Exchange) (g : Geometry) (f : Flash) (b : BootStatus) (u : UpdateStatus) (i : SectorNumber) (leg : Leg) → Underway x b u
    → Reads g f b u (At i leg) → (power_up check g f 1).flash ≡ perform g (Erase (target leg) i) f
top check x g f b u i leg w r =
    does_first check x g f (Erase (target leg) i)
    (reads_decide check g f b u (At i leg) r ∙ resumed w i leg (check g f.update) (check g f.boot)) (erases_first x g f b u i leg w r)

erases_swap : (x : Exchange) (g : Geometry) (f : Flash) (b : BootStatus) (u : UpdateStatus) → Underway x b u → boot_status_at g f.boot ≡ gives b
    → update_status_at g f.update ≡ gives u → flags_at g f.update ≡ AllF → next_operation (job_of x) g 0 f ≡ Some (Erase (target UpdateToSwap) (sector_number 0))
erases_swap x g f b u from_new e₁ e₂ e₃ = next_by_reads (job_of x) g 0 f b u AllF e₁ e₂ e₃
erases_swap x g f b u from_success e₁ e₂ e₃ = next_by_reads (job_of x) g 0 f b u AllF e₁ e₂ e₃
erases_swap x g f b u from_testing e₁ e₂ e₃ = next_by_reads (job_of x) g 0 f b u AllF e₁ e₂ e₃

top_first : (check : Check) (x : Exchange) (g : Geometry) (f : Flash) → Starts check x g f
    → (power_up check g f 1).flash ≡ perform g (Erase (target UpdateToSwap) (sector_number 0)) f
top_first check x g f s =
    let A : Accepted check x g f = accepted check x g f s in
    does_first check x g f (Erase (target UpdateToSwap) (sector_number 0)) s.decided
    (erases_swap x g f A.both.boot A.both.update A.both.statuses A.both.read_boot A.both.read_update s.flags_f)

-- ---- the budget

carried_within : (check : Check) (g : Geometry) (f : Flash) (budget : ℕ) (y : Plan) → (carry_out check g f budget y).count ≤ budget
carried_within check g f budget (refuse r) = omega arith
carried_within check g f budget plain = omega arith
carried_within check g f budget (work job why) = run_within job g budget 0 f

within : (check : Check) (g : Geometry) (f : Flash) (budget : ℕ) → (power_up check g f budget).count ≤ budget
unfolding power_up
within check g f budget = carried_within check g f budget (decide check g f)

-- ---- the operations that were done

carried_counts : (check : Check) (g : Geometry) (f : Flash) (budget : ℕ) (y : Plan) → (carry_out check g f budget y).count ≡ length (operations_in g f budget y)
carried_counts check g f budget (refuse r) = refl
carried_counts check g f budget plain = refl
carried_counts check g f budget (work job why) = run_count job g budget 0 f

carried_performs : (check : Check) (g : Geometry) (f : Flash) (budget : ℕ) (y : Plan) → (carry_out check g f budget y).flash ≡ perform_all g (operations_in g f budget y) f
carried_performs check g f budget (refuse r) = refl
carried_performs check g f budget plain = refl
carried_performs check g f budget (work job why) = run_flash job g budget 0 f

none_first : (k : ℕ) → ◌≡◌ {A = List Operation} [] (take k [])
none_first zero = refl
none_first (suc k) = refl

first_in : (g : Geometry) (f : Flash) (k budget : ℕ) (y : Plan) → k ≤ budget → operations_in g f k y ≡ take k (operations_in g f budget y)
first_in g f k budget (refuse r) h = none_first k
first_in g f k budget plain h = none_first k
first_in g f k budget (work job why) h = operations_first job g k budget 0 f h

counts : (check : Check) (g : Geometry) (f : Flash) (budget : ℕ) → (power_up check g f budget).count ≡ length (operations_of check g f budget)
unfolding power_up operations_of
counts check g f budget = carried_counts check g f budget (decide check g f)

performs : (check : Check) (g : Geometry) (f : Flash) (budget : ℕ) → (power_up check g f budget).flash ≡ perform_all g (operations_of check g f budget) f
unfolding power_up operations_of
performs check g f budget = carried_performs check g f budget (decide check g f)

first_ones_lem : (check : Check) (g : Geometry) (f : Flash) (k budget : ℕ) → k ≤ budget → operations_of check g f k ≡ take k (operations_of check g f budget)
unfolding operations_of
first_ones_lem check g f k budget h = first_in g f k budget (decide check g f) h

next_in_list : (g : Geometry) (f : Flash) (k : ℕ) (y : Plan) → operations_in g f (suc k) y ≡ operations_in g f k y ++ option_to_list (next_in g f k y)
next_in_list g f k (refuse r) = refl
next_in_list g f k plain = refl
next_in_list g f k (work job why) = operations_next job g k 0 f

next_one_lem : (check : Check) (g : Geometry) (f : Flash) (k : ℕ) → operations_of check g f (suc k) ≡ operations_of check g f k ++ option_to_list (next_after check g f k)
unfolding operations_of next_after
next_one_lem check g f k = next_in_list g f k (decide check g f)

-- ---- a job, left or done

module _ (check : Check) (g : Geometry) (f : Flash) (budget : ℕ) (job : Job) (why : Reason) (e : decide check g f ≡ work job why) where
  next_of : next_after check g f budget ≡ next_operation job g (run job g budget 0 f).phase (run job g budget 0 f).flash
  unfolding next_after
  next_of = ap (next_in g f budget) e

  -- the outcome, by what is next and by the check of BOOT
  told : (n : Option Operation) (y : Answer ℕ) → next_after check g f budget ≡ n → check g (power_up check g f budget).flash.boot ≡ y
      → (power_up check g f budget).outcome ≡ outcome_by n job y
  told n y en ey =
      let w = power_up_works check g f budget job why e in
      ap (λ (a : PowerUp). a.outcome) w
      ∙ ap₂ (λ (m : Option Operation) (z : Answer ℕ). outcome_by m job z) (sym next_of ∙ en) (sym (ap (λ (a : PowerUp). check g a.flash.boot) w) ∙ ey)

  left_is_cut_lem : (o : Operation) → next_after check g f budget ≡ Some o → (power_up check g f budget).outcome ≡ cut
  left_is_cut_lem o en = told (Some o) _ en refl

  done_bad_lem : (n p : ℕ) → next_after check g f budget ≡ None → check g (power_up check g f budget).flash.boot ≡ refused n p
      → (power_up check g f budget).outcome ≡ refusal (inside 12 n p)
  done_bad_lem n p en ey = told None (refused n p) en ey

  done_good_lem : (v : ℕ) → next_after check g f budget ≡ None → check g (power_up check g f budget).flash.boot ≡ gives v
      → ToldOf job (power_up check g f budget).outcome
  done_good_lem v en ey = subst (ToldOf job) (sym (told None (gives v) en ey)) (by job)
    where
      by : (j : Job) → ToldOf j (outcome_by None j (gives v))
      by Update = on_test
      by Fallback = fallen_back
      by TurnDown = as_plain

-- ---- a bad image with all flags F

accept_over_bad : (y z : Answer ℕ) (v n p : ℕ) → y ≡ gives v → z ≡ refused n p → accept y z ≡ refuse (inside 12 n p)
accept_over_bad y z v n p e k = rw (e, k) (boot_is_12 v n p)

fallback_to_bad : (y : Answer ℕ) (n p : ℕ) → y ≡ refused n p → accept_fallback y ≡ refuse (inside 13 n p)
fallback_to_bad y n p e = rw e (update_is_13 n p)

bad_boot_stays_lem : (check : Check) (g : Geometry) (f : Flash) (b : BootStatus) (v n p budget : ℕ) → Underway update b Updating → Reads g f b Updating AllF
    → check g f.update ≡ gives v → check g f.boot ≡ refused n p → power_up check g f budget ≡ idle (refusal (inside 12 n p)) f
unfolding power_up
bad_boot_stays_lem check g f b v n p budget w r e k =
    ap (carry_out check g f budget)
    (reads_decide check g f b Updating AllF r ∙ all_F b (check g f.update) (check g f.boot) w ∙ accept_over_bad (check g f.update) (check g f.boot) v n p e k)

no_fallback_lem : (check : Check) (g : Geometry) (f : Flash) (n p budget : ℕ) → Reads g f Testing UpdateNew AllF → check g f.update ≡ refused n p
    → power_up check g f budget ≡ idle (refusal (inside 13 n p)) f
unfolding power_up
no_fallback_lem check g f n p budget r e =
    ap (carry_out check g f budget) (reads_decide check g f Testing UpdateNew AllF r ∙ fallback_to_bad (check g f.update) n p e)

-- ---- what is run is good

good_runs : (o : Outcome) (y : Answer ℕ) → IsRun (if_boot_good o y) → Good y
good_runs o (gives v) h = record { version = v; good = refl }
good_runs o (refused n p) h = absurd h

good_after : (o : Option Operation) (job : Job) (y : Answer ℕ) → IsRun (outcome_by o job y) → Good y
good_after (Some o) job y h = absurd h
good_after None job y h = good_runs (done_outcome job) y h

carried_good : (check : Check) (g : Geometry) (f : Flash) (budget : ℕ) (y : Plan) → IsRun (carry_out check g f budget y).outcome
    → Good (check g (carry_out check g f budget y).flash.boot)
carried_good check g f budget (refuse r) h = absurd h
carried_good check g f budget plain h = good_runs runs (check g f.boot) h
carried_good check g f budget (work job why) h =
    let w : Run = run job g budget 0 f in good_after (next_operation job g w.phase w.flash) job (check g w.flash.boot) h

what_runs : (check : Check) (g : Geometry) (f : Flash) (budget : ℕ) → IsRun (power_up check g f budget).outcome
    → Good (check g (power_up check g f budget).flash.boot)
unfolding power_up
what_runs check g f budget h = carried_good check g f budget (decide check g f) h

-- ---- refusal 11

-- refusal 11 by what is read
eleven : (check : Check) (g : Geometry) (f : Flash) (budget : ℕ) → decide check g f ≡ refuse (numbered 11 0) → power_up check g f budget ≡ idle (refusal (numbered 11 0)) f
unfolding power_up
eleven check g f budget e = ap (carry_out check g f budget) e

not_closing : (v : Flags) → v ≢ All0 → decide_closing v ≡ refuse (numbered 11 0)
not_closing Malformed h = refl
not_closing AllF h = refl
not_closing (At i leg) h = refl
not_closing All0 h = absurd (h refl)

malformed_11 : (b : BootStatus) (u : UpdateStatus) → (u ≡ Updating) ⊎ (b ≡ Testing) → (y z : Answer ℕ) → decide_by b u Malformed y z ≡ refuse (numbered 11 0)
malformed_11 BootNew UpdateNew (inl e) y z = absurd (let k : ◌≡◌ {A = ℕ} 0 1 = cc in omega arith)
malformed_11 BootNew UpdateNew (inr e) y z = absurd (let k : ◌≡◌ {A = ℕ} 0 1 = cc in omega arith)
malformed_11 Success UpdateNew (inl e) y z = absurd (let k : ◌≡◌ {A = ℕ} 0 1 = cc in omega arith)
malformed_11 Success UpdateNew (inr e) y z = absurd (let k : ◌≡◌ {A = ℕ} 0 1 = cc in omega arith)
malformed_11 Testing UpdateNew h y z = refl
malformed_11 BootNew Updating h y z = refl
malformed_11 Success Updating h y z = refl
malformed_11 Testing Updating h y z = refl

-- ---- the plans that there are, by the lengths and the statuses

data Planned (fit : Bool) (bs : Answer BootStatus) (us : Answer UpdateStatus) (y z : Answer ℕ) : Plan → Type 0 where
  refuses : (r : Refusal) → BeforeWork y r ⊎ BadBoot z r → Planned fit bs us y z (refuse r)
  goes_plain : Planned fit bs us y z plain
  exchanges : (x : Exchange) → Planned fit bs us y z (work (job_of x) no_reason)
  turns_down : (b : BootStatus) (n p : ℕ) → fit ≡ true → bs ≡ gives b → us ≡ gives Updating → Planned fit bs us y z (work TurnDown (because n p))

module _ (fit : Bool) (bs : Answer BootStatus) (us : Answer UpdateStatus) (e : fit ≡ true) where
  by_images : (b : BootStatus) → bs ≡ gives b → us ≡ gives Updating → (y z : Answer ℕ) → Planned fit bs us y z (accept y z)
  by_images b e₁ e₂ (refused n p) z = turns_down b n p e e₁ e₂
  by_images b e₁ e₂ (gives v) (refused n p) = refuses (inside 12 n p) (inr (bad_boot n p refl))
  by_images b e₁ e₂ (gives v) (gives w) = by (ltb w v)
    where
      by : (t : Bool) → Planned fit bs us (gives v) (gives w) (cond t (work Update no_reason) (work TurnDown (because 15 0)))
      by true = exchanges update
      by false = turns_down b 15 0 e e₁ e₂

  by_update : (b : BootStatus) → bs ≡ gives b → us ≡ gives Updating → (v : Flags) (y z : Answer ℕ) → Planned fit bs us y z (decide_update v y z)
  by_update b e₁ e₂ Malformed y z = refuses (numbered 11 0) (inl flags_not_well_formed)
  by_update b e₁ e₂ AllF y z = by_images b e₁ e₂ y z
  by_update b e₁ e₂ (At i leg) y z = exchanges update
  by_update b e₁ e₂ All0 y z = exchanges update

  by_fallback : (v : Flags) (y z : Answer ℕ) → Planned fit bs us y z (decide_fallback v y)
  by_fallback Malformed y z = refuses (numbered 11 0) (inl flags_not_well_formed)
  by_fallback AllF (gives v) z = exchanges fallback
  by_fallback AllF (refused n p) z = refuses (inside 13 n p) (inl (no_good_fallback n p refl))
  by_fallback (At i leg) y z = exchanges fallback
  by_fallback All0 y z = exchanges fallback

  by_closing : (v : Flags) (y z : Answer ℕ) → Planned fit bs us y z (decide_closing v)
  by_closing Malformed y z = refuses (numbered 11 0) (inl flags_not_well_formed)
  by_closing AllF y z = refuses (numbered 11 0) (inl flags_not_well_formed)
  by_closing (At i leg) y z = refuses (numbered 11 0) (inl flags_not_well_formed)
  by_closing All0 y z = exchanges update

  by_both : (b : BootStatus) (u : UpdateStatus) → bs ≡ gives b → us ≡ gives u → (v : Flags) (y z : Answer ℕ) → Planned fit bs us y z (decide_by b u v y z)
  by_both BootNew UpdateNew e₁ e₂ v y z = goes_plain
  by_both Success UpdateNew e₁ e₂ v y z = goes_plain
  by_both Testing UpdateNew e₁ e₂ v y z = by_fallback v y z
  by_both BootNew Updating e₁ e₂ v y z = by_update BootNew e₁ e₂ v y z
  by_both Success Updating e₁ e₂ v y z = by_update Success e₁ e₂ v y z
  by_both Testing Updating e₁ e₂ v y z = by_closing v y z

-- an answer's refusal, as power-up gives it; 0 stands for none
abbrev as_refusal : {A : Type 0} → Answer A → Refusal
as_refusal (gives a) = numbered 0 0
as_refusal (refused n p) = numbered n p

-- a status that is not allowed is 10
boot_status_ten : (c n p : ℕ) → boot_status_of c ≡ refused n p → numbered 10 0 ≡ numbered n p
boot_status_ten c n p e = ap as_refusal (boot_refused c n p e)

update_status_ten : (c n p : ℕ) → update_status_of c ≡ refused n p → numbered 10 0 ≡ numbered n p
update_status_ten c n p e = ap as_refusal (update_refused c n p e)

by_answers : (fit : Bool) (bs : Answer BootStatus) (us : Answer UpdateStatus) → fit ≡ true → ((n p : ℕ) → bs ≡ refused n p → numbered 10 0 ≡ numbered n p)
    → ((n p : ℕ) → us ≡ refused n p → numbered 10 0 ≡ numbered n p) → (v : Flags) (y z : Answer ℕ) → Planned fit bs us y z (decide_statuses bs us v y z)
by_answers fit (refused n p) us e h k v y z = refuses (numbered n p) (inl (subst (BeforeWork y) (h n p refl) status_not_allowed))
by_answers fit (gives b) (refused n p) e h k v y z = refuses (numbered n p) (inl (subst (BeforeWork y) (k n p refl) status_not_allowed))
by_answers fit (gives b) (gives u) e h k v y z = by_both fit (gives b) (gives u) e b u refl refl v y z

-- the plan of a flash, by what is read and checked there
abbrev PlannedOf : Check → Geometry → Flash → Plan → Type 0
PlannedOf check g f y = Planned (fits g f) (boot_status_at g f.boot) (update_status_at g f.update) (check g f.update) (check g f.boot) y

planned : (check : Check) (g : Geometry) (f : Flash) → PlannedOf check g f (decide check g f)
unfolding decide
planned check g f = by (fits g f) refl
  where
    bs : Answer BootStatus
    bs = boot_status_at g f.boot

    us : Answer UpdateStatus
    us = update_status_at g f.update

    y : Answer ℕ
    y = check g f.update

    z : Answer ℕ
    z = check g f.boot

    by : (t : Bool) → t ≡ t → Planned t bs us y z (cond t (decide_statuses bs us (flags_at g f.update) y z) (refuse (numbered 1 0)))
    by true e =
        by_answers true bs us refl (boot_status_ten (status_byte g f.boot)) (update_status_ten (status_byte g f.update)) (flags_at g f.update) y z
    by false e = refuses (numbered 1 0) (inl outside_rules)

-- ---- the order of the checks

outside_first_lem : (check : Check) (g : Geometry) (f : Flash) (budget : ℕ) → fits g f ≡ false → power_up check g f budget ≡ idle (refusal (numbered 1 0)) f
unfolding power_up decide
outside_first_lem check g f budget e = ap (λ (t : Bool). carry_out check g f budget (cond t (decide_within check g f.boot f.update) (refuse (numbered 1 0)))) e

-- a status that is not allowed, whatever the rest
status_refuses : (bs : Answer BootStatus) (us : Answer UpdateStatus) → ((n p : ℕ) → bs ≡ refused n p → numbered 10 0 ≡ numbered n p)
    → ((n p : ℕ) → us ≡ refused n p → numbered 10 0 ≡ numbered n p) → (n p : ℕ) → (bs ≡ refused n p) ⊎ (us ≡ refused n p) → (v : Flags) (y z : Answer ℕ)
    → decide_statuses bs us v y z ≡ refuse (numbered 10 0)
status_refuses (refused m q) us h k n p w v y z = ap refuse (sym (h m q refl))
status_refuses (gives b) (refused m q) h k n p w v y z = ap refuse (sym (k m q refl))
status_refuses (gives b) (gives u) h k n p (inl e) v y z = absurd (let j : ◌≡◌ {A = ℕ} 0 1 = cc in omega arith)
status_refuses (gives b) (gives u) h k n p (inr e) v y z = absurd (let j : ◌≡◌ {A = ℕ} 0 1 = cc in omega arith)

status_next_lem : (check : Check) (g : Geometry) (f : Flash) (budget : ℕ) → fits g f ≡ true → StatusBad g f
    → power_up check g f budget ≡ idle (refusal (numbered 10 0)) f
unfolding power_up decide
status_next_lem check g f budget e w =
    ap (carry_out check g f budget)
    (ap (λ (t : Bool). cond t (decide_within check g f.boot f.update) (refuse (numbered 1 0))) e ∙ by w)
  where
    refuses_with : (n p : ℕ) → (boot_status_at g f.boot ≡ refused n p) ⊎ (update_status_at g f.update ≡ refused n p)
        → decide_within check g f.boot f.update ≡ refuse (numbered 10 0)
    refuses_with n p h =
        status_refuses (boot_status_at g f.boot) (update_status_at g f.update) (boot_status_ten (status_byte g f.boot)) (update_status_ten (status_byte g f.update)) n p h
        (flags_at g f.update) (check g f.update) (check g f.boot)

    by : StatusBad g f → decide_within check g f.boot f.update ≡ refuse (numbered 10 0)
    by (in_boot n p h) = refuses_with n p (inl h)
    by (in_update n p h) = refuses_with n p (inr h)

by_plain : (b : BootStatus) (v : Flags) (y z : Answer ℕ) → b ≢ Testing → decide_by b UpdateNew v y z ≡ plain
by_plain BootNew v y z h = refl
by_plain Success v y z h = refl
by_plain Testing v y z h = absurd (h refl)

plain_unread_lem : (check : Check) (g : Geometry) (f : Flash) (b : BootStatus) (v : Flags) (budget : ℕ) → b ≢ Testing → Reads g f b UpdateNew v
    → power_up check g f budget ≡ idle (if_boot_good runs (check g f.boot)) f
unfolding power_up
plain_unread_lem check g f b v budget h r =
    ap (carry_out check g f budget) (reads_decide check g f b UpdateNew v r ∙ by_plain b v (check g f.update) (check g f.boot) h)

-- ---- turning down

down : (g : Geometry) (f : Flash) (b : BootStatus) (budget : ℕ) → fits g f ≡ true → boot_status_at g f.boot ≡ gives b → update_status_at g f.update ≡ gives Updating
    → 1 ≤ budget → run TurnDown g budget 0 f ≡ one_more (stopped 0 (perform g EraseUpdateTrailer f))
down g f b zero e e₁ e₂ h = absurd (omega arith)
down g f b (suc k) e e₁ e₂ h =
    let s : Shaped g f = shaped_of g f e in
    let f' : Flash = perform g EraseUpdateTrailer f in
    run_some TurnDown g k 0 f EraseUpdateTrailer (next_by_reads TurnDown g 0 f b Updating (flags_at g f.update) e₁ e₂ refl)
    ∙ ap one_more (run_none TurnDown g k 0 f'
    (next_by_reads TurnDown g 0 f' b UpdateNew (flags_at g f'.update) e₁ (update_erased g s.limits f.update s.update) refl))

carried_down : (check : Check) (g : Geometry) (f : Flash) (budget n p : ℕ) (y : Plan) → PlannedOf check g f y
    → (carry_out check g f budget y).reason ≡ because n p → 1 ≤ budget → TurnedDown g f (carry_out check g f budget y)
carried_down check g f budget n p y (refuses r w) e h = absurd (let z : ◌≡◌ {A = ℕ} 0 1 = cc in omega arith)
carried_down check g f budget n p y goes_plain e h = absurd (let z : ◌≡◌ {A = ℕ} 0 1 = cc in omega arith)
carried_down check g f budget n p y (exchanges x) e h = absurd (let z : ◌≡◌ {A = ℕ} 0 1 = cc in omega arith)
carried_down check g f budget n p y (turns_down b n' p' e₀ e₁ e₂) e h =
    let k = down g f b budget e₀ e₁ e₂ h in record { counts = ap (λ (w : Run). w.count) k; erases = ap (λ (w : Run). w.flash) k }

reason_erases_lem : (check : Check) (g : Geometry) (f : Flash) (budget n p : ℕ) → (power_up check g f budget).reason ≡ because n p → 1 ≤ budget
    → TurnedDown g f (power_up check g f budget)
unfolding power_up
reason_erases_lem check g f budget n p e h = carried_down check g f budget n p (decide check g f) (planned check g f) e h

-- ---- refusals

-- the refusal of an outcome; 0 stands for none
abbrev refusal_in : Outcome → Refusal
refusal_in (refusal r) = r
refusal_in cut = numbered 0 0
refusal_in runs = numbered 0 0
refusal_in runs_on_test = numbered 0 0
refusal_in runs_fallen_back = numbered 0 0

-- after the work the only refusal is 12, with BOOT's own
twelve : (o : Outcome) (y : Answer ℕ) (r : Refusal) → ((r : Refusal) → o ≢ refusal r) → if_boot_good o y ≡ refusal r → BadBoot y r
twelve o (gives v) r h e = absurd (h r e)
twelve o (refused n p) r h e = subst (BadBoot (refused n p)) (ap refusal_in e) (bad_boot n p refl)

no_refusal : (job : Job) (r : Refusal) → done_outcome job ≢ refusal r
no_refusal Update r e = let z : ◌≡◌ {A = ℕ} 0 1 = cc in omega arith
no_refusal Fallback r e = let z : ◌≡◌ {A = ℕ} 0 1 = cc in omega arith
no_refusal TurnDown r e = let z : ◌≡◌ {A = ℕ} 0 1 = cc in omega arith

twelve_after : (o : Option Operation) (job : Job) (y : Answer ℕ) (r : Refusal) → outcome_by o job y ≡ refusal r → BadBoot y r
twelve_after (Some o) job y r e = absurd (let z : ◌≡◌ {A = ℕ} 0 1 = cc in omega arith)
twelve_after None job y r e = twelve (done_outcome job) y r (no_refusal job) e

-- a refusal comes before any operation, or is 12 of the flash that is left
abbrev Refuses : Check → Geometry → Flash → Refusal → PowerUp → Type 0
Refuses check g f r a = RefusedBefore (check g f.update) r f a ⊎ BadBoot (check g a.flash.boot) r

carried_refuses : (check : Check) (g : Geometry) (f : Flash) (budget : ℕ) (r : Refusal) (y : Plan) → PlannedOf check g f y
    → (carry_out check g f budget y).outcome ≡ refusal r → Refuses check g f r (carry_out check g f budget y)
carried_refuses check g f budget r y (refuses r' (inl w)) e =
    inl (record { number = subst (BeforeWork (check g f.update)) (ap refusal_in e) w; counts = refl; same = refl })
carried_refuses check g f budget r y (refuses r' (inr w)) e = inr (subst (BadBoot (check g f.boot)) (ap refusal_in e) w)
carried_refuses check g f budget r y goes_plain e = inr (twelve runs (check g f.boot) r (no_refusal TurnDown) e)
carried_refuses check g f budget r y (exchanges x) e =
    let w : Run = run (job_of x) g budget 0 f in inr (twelve_after (next_operation (job_of x) g w.phase w.flash) (job_of x) (check g w.flash.boot) r e)
carried_refuses check g f budget r y (turns_down b n p e₀ e₁ e₂) e =
    let w : Run = run TurnDown g budget 0 f in inr (twelve_after (next_operation TurnDown g w.phase w.flash) TurnDown (check g w.flash.boot) r e)

refuses_by : (check : Check) (g : Geometry) (f : Flash) (budget : ℕ) (r : Refusal) → (power_up check g f budget).outcome ≡ refusal r
    → Refuses check g f r (power_up check g f budget)
unfolding power_up
refuses_by check g f budget r e = carried_refuses check g f budget r (decide check g f) (planned check g f) e

is_12 : {y : Answer ℕ} (r : Refusal) → BadBoot y r → number_of r ≡ 12
is_12 r (bad_boot n p e) = refl

not_12 : {y : Answer ℕ} (r : Refusal) → BeforeWork y r → number_of r ≢ 12
not_12 r outside_rules e = omega arith
not_12 r status_not_allowed e = omega arith
not_12 r flags_not_well_formed e = omega arith
not_12 r (no_good_fallback n p w) e = omega arith

refused_before_lem : (check : Check) (g : Geometry) (f : Flash) (budget : ℕ) (r : Refusal) → (power_up check g f budget).outcome ≡ refusal r → number_of r ≢ 12
    → RefusedBefore (check g f.update) r f (power_up check g f budget)
refused_before_lem check g f budget r e h = by (refuses_by check g f budget r e)
  where
    by : Refuses check g f r (power_up check g f budget) → RefusedBefore (check g f.update) r f (power_up check g f budget)
    by (inl w) = w
    by (inr w) = absurd (h (is_12 r w))

bad_boot_lem : (check : Check) (g : Geometry) (f : Flash) (budget : ℕ) (r : Refusal) → (power_up check g f budget).outcome ≡ refusal r → number_of r ≡ 12
    → BadBoot (check g (power_up check g f budget).flash.boot) r
bad_boot_lem check g f budget r e h = by (refuses_by check g f budget r e)
  where
    by : Refuses check g f r (power_up check g f budget) → BadBoot (check g (power_up check g f budget).flash.boot) r
    by (inl w) = absurd (not_12 r w.number h)
    by (inr w) = w

-- no operation, no change
none_done : (g : Geometry) (f : Flash) (os : List Operation) → length os ≡ 0 → perform_all g os f ≡ f
none_done g f [] e = refl
none_done g f (o ∷ os) e = absurd (omega arith)

none_counted_lem : (check : Check) (g : Geometry) (f : Flash) (budget : ℕ) → (power_up check g f budget).count ≡ 0 → (power_up check g f budget).flash ≡ f
none_counted_lem check g f budget e = performs check g f budget ∙ none_done g f (operations_of check g f budget) (sym (counts check g f budget) ∙ e)

pub ruled_out : RuledOut
ruled_out = record {
  update_newer = λ check g f s. (accepted check update g f s).both.images;
  fallback_good = λ check g f s. (accepted check fallback g f s).both.images;
  newer_starts = λ check g f b w r n. begins check update g f b Updating w r n;
  good_fallback_starts = λ check g f r y. begins check fallback g f Testing UpdateNew from_testing r y;
  bad_keeps_reason = λ check g f b n p budget w r e.
      reason_of_lem check g f budget (because n p)
      (reads_decide check g f b Updating AllF r ∙ all_F b (check g f.update) (check g f.boot) w ∙ accept_bad (check g f.update) (check g f.boot) n p e);
  old_keeps_reason = λ check g f b v v' budget w r e e' h.
      reason_of_lem check g f budget (because 15 0)
      (reads_decide check g f b Updating AllF r ∙ all_F b (check g f.update) (check g f.boot) w
      ∙ accept_old (check g f.update) (check g f.boot) v v' e e' h);
  unchecked_inside = unchecked;
  not_failed_test = λ check g f b r. reads_decide check g f b Updating All0 r ∙ all_0_updates b (check g f.update) (check g f.boot);
  top_of_leg = top;
  top_of_first_leg = top_first;
  within_budget = within;
  counted = counts;
  performed = performs;
  first_ones = first_ones_lem;
  next_one = next_one_lem;
  bad_boot_stays = bad_boot_stays_lem;
  no_fallback = no_fallback_lem;
  left_is_cut = λ check g f budget job why o e en. left_is_cut_lem check g f budget job why e o en;
  done_bad = λ check g f budget n p job why e en ey. done_bad_lem check g f budget job why e n p en ey;
  done_good = λ check g f budget v job why e en ey. done_good_lem check g f budget job why e v en ey;
  runs_good = what_runs;
  reason_erases = reason_erases_lem;
  closing_only = λ check g f v budget r h. eleven check g f budget (reads_decide check g f Testing Updating v r ∙ not_closing v h);
  outside_first = outside_first_lem;
  status_next = status_next_lem;
  malformed_refused = λ check g f b u budget w r.
      eleven check g f budget (reads_decide check g f b u Malformed r ∙ malformed_11 b u w (check g f.update) (check g f.boot));
  plain_unread = plain_unread_lem;
  refused_before = refused_before_lem;
  bad_boot = bad_boot_lem;
  none_counted = none_counted_lem;
}
