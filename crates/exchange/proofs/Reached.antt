-- A list that comes to the finish, from every start; and every stage on the way.
use mathlib.Core.Path.{◌≡◌, refl, sym, ap, ap₂, ◌∙◌, subst}
use mathlib.Core.List.{List, [], ◌∷◌}
use Prim.Native.Nat.{ℕ, zero, suc, ◌+◌, ◌-◌, ◌*◌, ◌≤◌}
use native.Mathlib.Omega.{arith}
use lib.ListN.{length}
use Rattle.std.specs.Prelude.{Option, Some}
use Rattle.numbers.specs.Answer.{gives, no_reason, numbered}
use Rattle.exchange.specs.declared.Operation.{Operation}
use Rattle.exchange.specs.Base.{Geometry, BootStatus, UpdateStatus, UpdateToSwap, AllF}
use Rattle.exchange.specs.Base.{geometry, firmware, Limits, sector_number, Flash, flash, fits, boot_status_at, update_status_at, flags_at}
use Rattle.flash.specs.Sizes.{within_limits}
use Rattle.flash.specs.Buffers.{partition_fits}
use Rattle.exchange.specs.declared.Area.TheVariants.{Swap}
use Rattle.exchange.specs.declared.Operation.TheVariants.{Erase, Copy}
use Rattle.exchange.specs.Operations.{perform}
use Rattle.exchange.specs.Order.{next_operation, Run, run}
use Rattle.exchange.specs.Decision.{Check, decide}
use Rattle.exchange.specs.PowerUp.{refusal, PowerUp, idle, power_up, next_after}
use Rattle.exchange.specs.LostPower.{Torn, tear_next}
use Rattle.exchange.specs.Demand.{Exchange, job_of, ReadsFirmware, Ongoing, Finished, untorn, lost, Event, left, Allowed, flash_after, most, Underway, from_new, from_success, from_testing}
use Rattle.exchange.specs.Reached.{Reached, FinishReached, StagesReached}
use Rattle.flash.proofs.Checked.{shaped_of}
use Rattle.exchange.proofs.Accepted.{Accepted, accepted}
use Rattle.exchange.proofs.Runs.{run_some, power_up_works}
use Rattle.exchange.proofs.Stage.{closing, closing_left, Stage, in_leg_lem, at_last, at_end, next_leg}
use Rattle.exchange.proofs.Walked.{closing_some, Walked, walked}
use Rattle.exchange.proofs.Shows.{end_of, unfinished}
use Rattle.exchange.proofs.Decided.{Decides}
use Rattle.exchange.proofs.Played.{OldRuns, old_runs, works, next_in_lem, Played, played}
use Rattle.exchange.proofs.Whole.{closing_most, Again, again, Begins, begins, starts_ongoing, StageOf, stage_of}

-- a geometry of no sectors is refused
pub no_sectors : (check : Check) (f : Flash) (budget : ℕ) → power_up check (geometry 0 0) f budget ≡ idle (refusal (numbered 1 0)) f
unfolding power_up decide fits partition_fits within_limits
no_sectors check f budget = refl

module _ (check : Check) (g : Geometry) (G : Limits g) (old : Flash) {x : Exchange} {b₀ : BootStatus} {u₀ : UpdateStatus} (B : Underway x b₀ u₀)
    (I : OldRuns check g old) where
  -- a list that 01 allows, and that comes to the finish
  pub record Ends (f : Flash) (es : List Event) : Type 0 where
    pub allowed : Allowed check x g f es
    pub finished : Finished x g (flash_after (left check) f es)

  -- with budget enough a power-up finishes
  finishes : (f : Flash) (r budget : ℕ) → Stage (Decides check g B) g old B f 0 (suc r) → suc r ≤ budget → Finished x g (power_up check g f budget).flash
  finishes f r budget s h = subst (λ (a : PowerUp). Finished x g a.flash) (sym (works check g G old B I f r s budget)) (by (walked g G old B budget f 0 (suc r) s))
    where
      by : Walked (Decides check g B) g old B (suc r) budget (run (job_of x) g budget 0 f) → Finished x g (run (job_of x) g budget 0 f).flash
      by v =
          let w : Run = run (job_of x) g budget 0 f in
          let e : suc r - w.count ≡ 0 = omega (arith, v.counted) in
          end_of g old B w.flash w.phase (subst (λ (n : ℕ). Stage (Decides check g B) g old B w.flash w.phase n) e v.stage)

  pub last : (f : Flash) (r budget : ℕ) → Stage (Decides check g B) g old B f 0 r → ¬ Finished x g f → r ≤ budget → Ends f (untorn g budget ∷ [])
  unfolding left
  last f zero budget s n h = absurd (n (end_of g old B f 0 s))
  last f (suc r) budget s n h = record { allowed = ((n, tt), tt); finished = finishes f r budget s h }

  module _ (r : ℕ) (s : Stage (Decides check g B) g old B old 0 (suc r)) (e₁ : boot_status_at g old.boot ≡ gives b₀) (e₂ : update_status_at g old.update ≡ gives u₀)
      (e₃ : flags_at g old.update ≡ AllF) where
    -- SWAP is erased, and then its copy is torn
    first_run : run (job_of x) g 1 0 old ≡ record { count = 1; phase = 1; flash = perform g (Erase Swap (sector_number 0)) old }
    unfolding run
    first_run = run_some (job_of x) g 0 0 old (Erase Swap (sector_number 0)) (next_leg g x b₀ u₀ B 0 0 UpdateToSwap old e₁ e₂ e₃)

    copy_next : next_after check g old 1 ≡ Some (Copy UpdateToSwap (sector_number 0))
    copy_next =
        next_in_lem check g G old B I old r s 1 ∙ ap (λ (w : Run). next_operation (job_of x) g w.phase w.flash) first_run
        ∙ next_leg g x b₀ u₀ B 1 0 UpdateToSwap (perform g (Erase Swap (sector_number 0)) old) e₁ e₂ e₃

    torn_left : (t : Torn) (budget : ℕ) → (left check old (lost g budget 1 t)).flash ≡ flash old.boot old.update t.bytes
    unfolding left
    torn_left t budget =
        ap₂ (λ (o : Option Operation) (y : Flash). tear_next g t o y) copy_next
        (ap (λ (a : PowerUp). a.flash) (works check g G old B I old r s 1) ∙ ap (λ (w : Run). w.flash) first_run)

    same_finish : (y : List ℕ) → Finished x g (flash old.boot old.update y) → Finished x g old
    same_finish y = by B
      where
        by : {x : Exchange} {b : BootStatus} {u : UpdateStatus} → Underway x b u → Finished x g (flash old.boot old.update y) → Finished x g old
        by from_new h = h
        by from_success h = h
        by from_testing h = h

    reached : (t : Torn) → length t.bytes ≡ g.size → (budget : ℕ) → suc r + 2 ≤ budget → Reached check x g old t budget
    unfolding left
    reached t T budget h = record {
      first_refused = ap (λ (a : PowerUp). a.outcome) (no_sectors check old budget);
      copy_torn = copy_next;
      allowed = ((n, tt), rest.allowed);
      finished = rest.finished;
    }
      where
        n : ¬ Finished x g old
        n = unfinished g old B old 0 r s

        lose : Event
        lose = lost g budget 1 t

        end : Event
        end = untorn g budget

        counts : 1 ≤ (power_up check g old budget).count
        counts = subst (λ (a : PowerUp). 1 ≤ a.count) (sym (works check g G old B I old r s budget)) (omega (arith, (walked g G old B budget old 0 (suc r) s).counted))

        p : Played check g G old B I old (suc r) lose
        p = played check g G old B I old r lose s (counts, T)

        after_loss : Ends (left check old lose).flash (end ∷ [])
        after_loss =
            last (left check old lose).flash p.pays.rest budget p.pays.stage
            (λ f. n (same_finish t.bytes (subst (λ (y : Flash). Finished x g y) (torn_left t budget) f))) (omega (arith, p.pays.paid))

        both : Ends old (lose ∷ end ∷ [])
        both = record { allowed = ((n, (counts, T)), after_loss.allowed); finished = after_loss.finished }

        rest : Ends (left check old (untorn (geometry 0 0) budget)).flash (lose ∷ end ∷ [])
        rest = subst (λ (a : PowerUp). Ends a.flash (lose ∷ end ∷ [])) (sym (no_sectors check old budget)) both

pub finish_reached : FinishReached
finish_reached check x g f R s t T budget h =
    let A : Accepted check x g f = accepted check x g f s in
    let o : Ongoing check x g f f 0 = starts_ongoing check x g f s in
    let B = A.both.statuses in
    let b = begins check g f f 0 B A.fit A.both.read_boot A.both.read_update o.stands o.decided in
    let e : b.left ≡ suc (b.left - 1) = omega (arith, b.counted, closing_some (closing B)) in
    reached check g (shaped_of g f A.fit).limits f B (old_runs check g f R o.old_whole o.old_good) (b.left - 1)
    (subst (λ (n : ℕ). Stage (Decides check g B) g f B f 0 n) e b.stage) A.both.read_boot A.both.read_update s.flags_f t T budget
    (omega (arith, b.counted, closing_some (closing B), closing_most B (firmware g)))

-- from wherever an exchange is under way a power-up that keeps its power and has budget enough comes to the finish
pub finish_from : (check : Check) (x : Exchange) (g : Geometry) (old f : Flash) (a : ℕ) → ReadsFirmware check g → Ongoing check x g old f a → ¬ Finished x g f
    → (budget : ℕ) → most x (firmware g) ≤ budget → Finished x g (left check f (untorn g budget)).flash
finish_from check x g old f a R o not budget h =
    let v : StageOf check x g old f a = stage_of check x g old f a o in
    (last check g (shaped_of g f o.fit).limits old v.under (old_runs check g old R o.old_whole o.old_good) f v.left budget v.stage not
    (omega (arith, v.few, closing_most v.under (firmware g)))).finished

-- ---- every stage

-- a run of 3 a operations ends at the top of a leg
top_again : (D : List ℕ → List ℕ → Type 0) (g : Geometry) (old : Flash) {x : Exchange} {b₀ : BootStatus} {u₀ : UpdateStatus} (B : Underway x b₀ u₀) (f : Flash) (p a r : ℕ)
    → r + 3 * a ≡ 9 * firmware g + closing_left (closing B) → Stage D g old B f p r → p ≡ 0
top_again D g old B f p a r k (in_leg_lem i leg hi hp s d e₁ e₂ ready n) = omega arith
top_again D g old B f p a r k (at_last b u c le s e₁ e₂ n z) = z
top_again D g old B f p a r k (at_end b u c y s e₁ e₂ n z) = z

-- so it stands a moves along
along_at : (check : Check) (g : Geometry) (G : Limits g) (old : Flash) {x : Exchange} {b₀ : BootStatus} {u₀ : UpdateStatus} (B : Underway x b₀ u₀)
    (o : Ongoing check x g old old 0) (r a : ℕ) (w : Run) → a ≤ 3 * firmware g → r + 3 * 0 ≡ 9 * firmware g + closing_left (closing B)
    → Walked (Decides check g B) g old B r (3 * a) w → Ongoing check x g old w.flash a
along_at check g G old {x} B o r a w h k v = by (r - w.count) v.stage (omega (arith, v.counted))
  where
    by : (q : ℕ) → Stage (Decides check g B) g old B w.flash w.phase q → q + 3 * a ≡ 9 * firmware g + closing_left (closing B) → Ongoing check x g old w.flash a
    by zero y e = absurd (omega (arith, closing_some (closing B)))
    by (suc q) y e = moves_are
        (again check g G old B o.old_whole o.old_good w.flash q
        (subst (λ (n : ℕ). Stage (Decides check g B) g old B w.flash n (suc q)) (top_again (Decides check g B) g old B w.flash w.phase a (suc q) e y) y))
      where
        moves_are : Again check g old B w.flash (suc q) → Ongoing check x g old w.flash a
        moves_are z =
            let m : z.moves ≡ a = omega (arith, z.most_left, z.least_left) in subst (λ (n : ℕ). Ongoing check x g old w.flash n) m z.ongoing

pub stages_reached : StagesReached
stages_reached check x g f s a h = by (accepted check x g f s) (starts_ongoing check x g f s)
  where
    by : Accepted check x g f → Ongoing check x g f f 0 → Ongoing check x g f (power_up check g f (3 * a)).flash a
    by A o =
        subst (λ (y : PowerUp). Ongoing check x g f y.flash a) (sym (power_up_works check g f (3 * a) (job_of x) no_reason s.decided))
        (from (shaped_of g f A.fit).limits A.both.statuses
        (begins check g f f 0 A.both.statuses A.fit A.both.read_boot A.both.read_update o.stands o.decided))
      where
        from : Limits g → {b : BootStatus} {u : UpdateStatus} (B : Underway x b u) → Begins check g f B f 0 → Ongoing check x g f (run (job_of x) g (3 * a) 0 f).flash a
        from G B b = along_at check g G f B o b.left a (run (job_of x) g (3 * a) 0 f) h b.counted (walked g G f B (3 * a) f 0 b.left b.stage)
