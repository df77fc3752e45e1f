-- One power-up of the list: what it leaves is a stage again, its operations are paid for, and it moves on.
use mathlib.Core.Path.{◌≡◌, refl, sym, ap, ap₂, ◌∙◌, subst}
use mathlib.Core.Logic.{◌⊎◌, inl, inr}
use mathlib.Core.Bool.{Bool, true, false}
use Prim.Native.Nat.{ℕ, zero, suc, ◌+◌, ◌-◌, ◌*◌, ◌≤◌, ◌<◌}
use native.Mathlib.Decide.{dec_lt}
use native.Mathlib.Omega.{arith}
use lib.ListN.{length}
use Rattle.std.specs.Prelude.{Option, None}
use Rattle.numbers.specs.Answer.{Answer, no_reason, numbered}
use Rattle.exchange.specs.declared.Operation.{Operation}
use Rattle.exchange.specs.Base.{Geometry, BootStatus, UpdateStatus}
use Rattle.exchange.specs.Base.{firmware, partition_size, Limits, Flash, Shaped, fits}
use Rattle.exchange.specs.declared.Area.TheVariants.{Boot, Update}
use Rattle.exchange.specs.Operations.{get}
use Rattle.exchange.specs.Order.{next_operation, Run, run}
use Rattle.exchange.specs.Decision.{Check, refuse, decide, Good}
use Rattle.exchange.specs.PowerUp.{refusal, PowerUp, outcome_by, worked, idle, carry_out, power_up, next_in, next_after}
use Rattle.exchange.specs.LostPower.{Torn, tear_next}
use Rattle.exchange.specs.Demand.{Exchange, job_of, ReadsFirmware, Finished, untorn, lost, Event, Left, left_untorn, left, flash_left, EndsAsAllowed, FlagMovedOn, IsRefusal, MovesOn, CutOrDone, AnswersRight, Underway, left_lost}
use Rattle.flash.proofs.Checked.{shaped_of, shaped_fits, same_geometry}
use Rattle.flash_flags.proofs.Moves.{leg_below}
use Rattle.exchange.proofs.Accepted.{check_same}
use Rattle.exchange.proofs.Stage.{Stage, in_leg_lem, at_last, at_end, Stepped, stepped, step}
use Rattle.exchange.proofs.Runs.{power_up_works}
use Rattle.exchange.proofs.Walked.{closing_some, Walked, walked, ended, phase_small, restart}
use Rattle.exchange.proofs.Shows.{end_of, end_phase, unfinished, moved_on}
use Rattle.exchange.proofs.Decided.{Decides, decided, shaped_at}

-- a flash whose BOOT holds what the old UPDATE held runs
abbrev pub OldRuns : Check → Geometry → Flash → Type 0
OldRuns check g old = (f : Flash) → Shaped g f → ((j : ℕ) → j < firmware g → get g Boot j f ≡ get g Update j old) → Good (check g f.boot)

pub old_runs : (check : Check) (g : Geometry) (old : Flash) → ReadsFirmware check g → length old.update ≡ partition_size g → Good (check g old.update) → OldRuns check g old
old_runs check g old R l y f s h =
    record { version = y.version; good = check_same check g R f.boot old.update s.boot l h ∙ y.good }

-- a wrong geometry: refusal 1
pub outside_decided : (check : Check) (g : Geometry) (f : Flash) → fits g f ≡ false → decide check g f ≡ refuse (numbered 1 0)
unfolding decide
outside_decided check g f e = rw e refl

module _ (check : Check) (g : Geometry) (G : Limits g) (old : Flash) {x : Exchange} {b₀ : BootStatus} {u₀ : UpdateStatus} (B : Underway x b₀ u₀)
    (I : OldRuns check g old) where
  pub end_good : (f : Flash) (p : ℕ) → Stage (Decides check g B) g old B f p 0 → Good (check g f.boot)
  end_good f p (in_leg_lem i leg hi hp s d e₁ e₂ ready n) = absurd (omega (arith, leg_below leg))
  end_good f p (at_last b u c le s e₁ e₂ n z) = absurd (omega (arith, closing_some c))
  end_good f p (at_end b u c y s e₁ e₂ n z) = I f s y.boot_is

  pub record Paid (r : ℕ) (l : Left) : Type 0 where
    pub rest : ℕ
    pub stage : Stage (Decides check g B) g old B l.flash 0 rest
    pub paid : l.done + rest ≤ r + 2 * l.early

  pub record Played (f : Flash) (r : ℕ) (e : Event) : Type 0 where
    pub pays : Paid r (left check f e)
    pub moves : MovesOn x g f (left check f e).power (flash_left (left check) f e)
    pub says : AnswersRight x g f (left check f e).power (flash_left (left check) f e)

  -- ---- refused
  module _ (g' : Geometry) (f : Flash) (r : ℕ) (s : Stage (Decides check g B) g old B f 0 (suc r)) (w : fits g' f ≡ false) where
    refuses : (k : ℕ) → power_up check g' f k ≡ idle (refusal (numbered 1 0)) f
    unfolding power_up
    refuses k = ap (carry_out check g' f k) (outside_decided check g' f w)

    no_next : (k : ℕ) → next_after check g' f k ≡ None
    unfolding next_after
    no_next k = ap (next_in g' f k) (outside_decided check g' f w)

    refused_untorn : (b : ℕ) → Played f (suc r) (untorn g' b)
    unfolding left
    refused_untorn b = record {
      pays = subst (λ (a : PowerUp). Paid (suc r) (left_untorn g' b a)) (sym (refuses b)) (record { rest = suc r; stage = s; paid = omega arith });
      moves = λ n m. absurd (n (subst (λ (a : PowerUp). IsRefusal a.outcome) (sym (refuses b)) tt));
      says = (ap (λ (a : PowerUp). a.reason) (refuses b), inl (w, ap (λ (a : PowerUp). a.outcome) (refuses b)));
    }

    refused_lost : (b k : ℕ) (t : Torn) → k ≤ (power_up check g' f b).count → Played f (suc r) (lost g' b k t)
    unfolding left
    refused_lost b k t h =
        let z : k ≤ 0 = subst (λ (a : PowerUp). k ≤ a.count) (refuses b) h in
        record {
          pays = record {
            rest = suc r;
            stage = subst (λ (y : Flash). Stage (Decides check g B) g old B y 0 (suc r))
                (sym (ap₂ (λ (o : Option Operation) (a : PowerUp). tear_next g' t o a.flash) (no_next k) (refuses k))) s;
            paid = omega arith;
          };
          moves = tt;
          says = tt;
        }

  -- ---- not refused
  module _ (f : Flash) (r : ℕ) (s : Stage (Decides check g B) g old B f 0 (suc r)) where
    pub works : (k : ℕ) → power_up check g f k ≡ worked check g (job_of x) no_reason (run (job_of x) g k 0 f)
    works k = power_up_works check g f k (job_of x) no_reason (decided check g G old B f r s)

    pub next_in_lem : (k : ℕ) → next_after check g f k ≡ next_operation (job_of x) g (run (job_of x) g k 0 f).phase (run (job_of x) g k 0 f).flash
    unfolding next_after
    next_in_lem k = ap (next_in g f k) (decided check g G old B f r s)

    -- untorn: the end, or a cut
    pays_untorn : (k : ℕ) (w : Run) → Walked (Decides check g B) g old B (suc r) k w → Paid (suc r) (left_untorn g k (worked check g (job_of x) no_reason w))
    pays_untorn k w v = by (suc r - w.count) refl v.stage
      where
        goal : Type 0
        goal = Paid (suc r) (left_untorn g k (worked check g (job_of x) no_reason w))

        by : (q : ℕ) → suc r - w.count ≡ q → Stage (Decides check g B) g old B w.flash w.phase q → goal
        by zero e y = record {
          rest = 0 + w.phase;
          stage = restart g G old B w.flash w.phase 0 y;
          paid = omega (arith, v.counted, end_phase g old B w.flash w.phase y);
        }
        by (suc q) e y = cuts (step g G old B w.flash w.phase q y)
          where
            cuts : Stepped (Decides check g B) g old B w.flash w.phase q → goal
            cuts (stepped o n s' torn) = record {
              rest = suc q + w.phase;
              stage = restart g G old B w.flash w.phase (suc q) y;
              paid = rw n (omega (arith, v.counted, phase_small g G old B w.flash w.phase (suc q) y));
            }

    -- power lost after k
    pays_lost : (k : ℕ) (t : Torn) (w : Run) → length t.bytes ≡ g.size → k ≤ suc r → Walked (Decides check g B) g old B (suc r) k w
        → Paid (suc r) (left_lost k (tear_next g t (next_operation (job_of x) g w.phase w.flash) w.flash))
    pays_lost k t w T h v = by (suc r - w.count) refl v.stage
      where
        goal : Type 0
        goal = Paid (suc r) (left_lost k (tear_next g t (next_operation (job_of x) g w.phase w.flash) w.flash))

        by : (q : ℕ) → suc r - w.count ≡ q → Stage (Decides check g B) g old B w.flash w.phase q → goal
        by zero e y =
            rw (ended g G old B w.flash w.phase y)
            (record { rest = 0 + w.phase; stage = restart g G old B w.flash w.phase 0 y; paid = omega (arith, v.counted, end_phase g old B w.flash w.phase y) })
        by (suc q) e y = breaks (step g G old B w.flash w.phase q y)
          where
            breaks : Stepped (Decides check g B) g old B w.flash w.phase q → goal
            breaks (stepped o n s' torn) =
                rw n
                (record { rest = (torn t T).0; stage = (torn t T).2; paid = omega (arith, (torn t T).1, v.counted, phase_small g G old B w.flash w.phase (suc q) y) })

    -- at the end BOOT holds the old UPDATE's firmware, which was good
    pub says_untorn : (b : ℕ) (w : Run) → Walked (Decides check g B) g old B (suc r) b w
        → CutOrDone x g (worked check g (job_of x) no_reason w).outcome w.flash
    says_untorn b w v = by (suc r - w.count) v.stage
      where
        goal : Type 0
        goal = CutOrDone x g (worked check g (job_of x) no_reason w).outcome w.flash

        by : (q : ℕ) → Stage (Decides check g B) g old B w.flash w.phase q → goal
        by zero y =
            inr (
              ap₂ (λ (o : Option Operation) (z : Answer ℕ). outcome_by o (job_of x) z) (ended g G old B w.flash w.phase y) (end_good w.flash w.phase y).good,
              end_of g old B w.flash w.phase y,
            )
        by (suc q) y = cuts (step g G old B w.flash w.phase q y)
          where
            cuts : Stepped (Decides check g B) g old B w.flash w.phase q → goal
            cuts (stepped o n s' torn) = inl (ap (λ (z : Option Operation). outcome_by z (job_of x) (check g w.flash.boot)) n, unfinished g old B w.flash w.phase q y)

    moves_untorn : (b : ℕ) → 3 ≤ b → Finished x g (run (job_of x) g b 0 f).flash ⊎ FlagMovedOn g f (run (job_of x) g b 0 f).flash
    moves_untorn b h = by (run (job_of x) g b 0 f) (walked g G old B b f 0 (suc r) s)
      where
        by : (w : Run) → Walked (Decides check g B) g old B (suc r) b w → Finished x g w.flash ⊎ FlagMovedOn g f w.flash
        by w v = order (dec_lt (suc r) b)
          where
            order : Dec (suc r < b) → Finished x g w.flash ⊎ FlagMovedOn g f w.flash
            order (yes l) =
                let e : suc r - w.count ≡ 0 = omega (arith, v.counted) in
                inl (end_of g old B w.flash w.phase (subst (λ (n : ℕ). Stage (Decides check g B) g old B w.flash w.phase n) e v.stage))
            order (no l) = moved_on g old B f w.flash w.phase (suc r) w.count (omega (arith, v.counted)) (omega (arith, v.counted)) s v.stage

    right_untorn : (b : ℕ) → Played f (suc r) (untorn g b)
    unfolding left
    right_untorn b = record {
      pays = subst (λ (a : PowerUp). Paid (suc r) (left_untorn g b a)) (sym (works b)) (pays_untorn b (run (job_of x) g b 0 f) (walked g G old B b f 0 (suc r) s));
      moves = λ n m. subst (λ (a : PowerUp). Finished x g a.flash ⊎ FlagMovedOn g f a.flash) (sym (works b)) (moves_untorn b (omega arith));
      says = (
        ap (λ (a : PowerUp). a.reason) (works b),
        inr (
          shaped_fits g f (shaped_at s),
          subst (λ (a : PowerUp). CutOrDone x g a.outcome a.flash) (sym (works b))
              (says_untorn b (run (job_of x) g b 0 f) (walked g G old B b f 0 (suc r) s)),
        ),
      );
    }

    right_lost : (b k : ℕ) (t : Torn) → k ≤ (power_up check g f b).count → length t.bytes ≡ g.size → Played f (suc r) (lost g b k t)
    unfolding left
    right_lost b k t h T =
        let z : k ≤ (run (job_of x) g b 0 f).count = subst (λ (a : PowerUp). k ≤ a.count) (works b) h in
        record {
          pays = subst (λ (y : Flash). Paid (suc r) (left_lost k y))
              (sym (ap₂ (λ (o : Option Operation) (a : PowerUp). tear_next g t o a.flash) (next_in_lem k) (works k)))
              (pays_lost k t (run (job_of x) g k 0 f) T (omega (arith, (walked g G old B b f 0 (suc r) s).counted)) (walked g G old B k f 0 (suc r) s));
          moves = tt;
          says = tt;
        }

  -- a geometry that fits is the right one
  right : (f : Flash) (r : ℕ) → Stage (Decides check g B) g old B f 0 (suc r) → (g' : Geometry) → fits g' f ≡ true → g ≡ g'
  right f r s g' w = sym (same_geometry g g' f (shaped_at s) (shaped_of g' f w))

  pub played : (f : Flash) (r : ℕ) (e : Event) → Stage (Decides check g B) g old B f 0 (suc r) → EndsAsAllowed check g f e → Played f (suc r) e
  played f r (untorn g' b) s h = by (fits g' f) refl
    where
      by : (y : Bool) → fits g' f ≡ y → Played f (suc r) (untorn g' b)
      by false w = refused_untorn g' f r s w b
      by true w = subst (λ (q : Geometry). Played f (suc r) (untorn q b)) (right f r s g' w) (right_untorn f r s b)
  played f r (lost g' b k t) s h = by (fits g' f) refl
    where
      by : (y : Bool) → fits g' f ≡ y → Played f (suc r) (lost g' b k t)
      by false w = refused_lost g' f r s w b k t h.0
      by true w =
          subst (λ (q : Geometry). k ≤ (power_up check q f b).count → Played f (suc r) (lost q b k t)) (right f r s g' w)
          (λ c. right_lost f r s b k t c h.1) h.0
