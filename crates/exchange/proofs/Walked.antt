-- A run of k steps from a stage with r operations left does min k r of them.
use mathlib.Core.Path.{◌≡◌, refl, sym, subst}
use mathlib.Core.List.{List}
use Prim.Native.Nat.{ℕ, zero, suc, ◌+◌, ◌-◌, ◌≤◌, min}
use native.Mathlib.Omega.{arith}
use Rattle.std.specs.Prelude.{None}
use Rattle.exchange.specs.Base.{Geometry, BootStatus, UpdateStatus}
use Rattle.exchange.specs.Base.{Limits, Flash}
use Rattle.exchange.specs.declared.Operation.{Operation}
use Rattle.exchange.specs.Operations.{perform, phase_after}
use Rattle.exchange.specs.Order.{next_operation, Run, one_more, run}
use Rattle.exchange.specs.Demand.{Exchange, job_of, Underway}
use Rattle.flash_flags.proofs.Moves.{leg_below}
use Rattle.exchange.proofs.Runs.{run_none, run_some}
use Rattle.exchange.proofs.Stage.{Closing, erase_boot, write_testing, erase_update, write_success, closing_left, Stage, in_leg_lem, at_last, at_end, Stepped, stepped, next_end, step}

pub closing_some : {x : Exchange} {b : BootStatus} {u : UpdateStatus} (c : Closing x b u) → (1 ≤ closing_left c) × (closing_left c ≤ 3)
closing_some erase_boot = omega arith
closing_some write_testing = omega arith
closing_some erase_update = omega arith
closing_some write_success = omega arith

pub record Walked (D : List ℕ → List ℕ → Type 0) (g : Geometry) (old : Flash) {x : Exchange} {b₀ : BootStatus} {u₀ : UpdateStatus} (B : Underway x b₀ u₀) (r k : ℕ) (w : Run) : Type 0 where
  pub stage : Stage D g old B w.flash w.phase (r - w.count)
  pub counted : w.count ≡ min k r

module _ {D : List ℕ → List ℕ → Type 0} (g : Geometry) (G : Limits g) (old : Flash) {x : Exchange} {b₀ : BootStatus} {u₀ : UpdateStatus} (B : Underway x b₀ u₀) where
  pub ended : (f : Flash) (p : ℕ) → Stage D g old B f p 0 → next_operation (job_of x) g p f ≡ None
  ended f p (in_leg_lem i leg hi hp s d e₁ e₂ ready n) = absurd (omega (arith, leg_below leg))
  ended f p (at_last b u c le s e₁ e₂ n z) = absurd (omega (arith, closing_some c))
  ended f p (at_end b u c y s e₁ e₂ n z) = next_end g x b u c p f e₁ e₂

  pub phase_small : (f : Flash) (p r : ℕ) → Stage D g old B f p r → p ≤ 2
  phase_small f p r (in_leg_lem i leg hi hp s d e₁ e₂ ready n) = omega arith
  phase_small f p r (at_last b u c le s e₁ e₂ n z) = omega arith
  phase_small f p r (at_end b u c y s e₁ e₂ n z) = omega arith

  -- the next power-up starts the leg again
  pub restart : (f : Flash) (p r : ℕ) → Stage D g old B f p r → Stage D g old B f 0 (r + p)
  restart f p r (in_leg_lem i leg hi hp s d e₁ e₂ ready n) = in_leg_lem i leg hi (omega arith) s d e₁ e₂ (λ k. absurd (omega arith)) (omega arith)
  restart f p r (at_last b u c le s e₁ e₂ n z) = at_last b u c le s e₁ e₂ (omega arith) refl
  restart f p r (at_end b u c y s e₁ e₂ n z) = at_end b u c y s e₁ e₂ (omega arith) refl

  pub walked : (k : ℕ) (f : Flash) (p r : ℕ) → Stage D g old B f p r → Walked D g old B r k (run (job_of x) g k p f)
  unfolding run
  walked zero f p r s = record { stage = let e : r - 0 ≡ r = omega arith in subst (λ (n : ℕ). Stage D g old B f p n) (sym e) s; counted = omega arith }
  walked (suc k) f p zero s =
      subst (λ (w : Run). Walked D g old B 0 (suc k) w) (sym (run_none (job_of x) g (suc k) p f (ended f p s))) (record { stage = s; counted = omega arith })
  walked (suc k) f p (suc r) s = go (step g G old B f p r s) (λ o s'. walked k (perform g o f) (phase_after o) r s')
    where
      on : (o : Operation) → Walked D g old B r k (run (job_of x) g k (phase_after o) (perform g o f))
          → Walked D g old B (suc r) (suc k) (one_more (run (job_of x) g k (phase_after o) (perform g o f)))
      on o v =
          let w : Run = run (job_of x) g k (phase_after o) (perform g o f) in
          let e : suc r - suc w.count ≡ r - w.count = omega arith in
          record { stage = subst (λ (n : ℕ). Stage D g old B w.flash w.phase n) (sym e) v.stage; counted = omega (arith, v.counted) }

      go : Stepped D g old B f p r → ((o : Operation) → Stage D g old B (perform g o f) (phase_after o) r → Walked D g old B r k (run (job_of x) g k (phase_after o) (perform g o f)))
          → Walked D g old B (suc r) (suc k) (run (job_of x) g (suc k) p f)
      go (stepped o e s' torn) rest = subst (λ (w : Run). Walked D g old B (suc r) (suc k) w) (sym (run_some (job_of x) g k p f o e)) (on o (rest o s'))
