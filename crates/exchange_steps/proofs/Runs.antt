-- The loop that repeats the step, and the lengths that it keeps.
use mathlib.Core.Path.{◌≡◌, refl, sym, ap, ap₂, ◌∙◌}
use mathlib.Core.Bool.{true, false, true≢false}
use mathlib.Core.List.{List}
use Prim.Native.Nat.{ℕ, suc, ◌+◌, ◌-◌, ◌≤◌, ◌<◌}
use native.Mathlib.Omega.{arith}
use Rattle.std.specs.Prelude.{Option, Some, None, is_some}
use Rattle.flash.specs.declared.Geometry.{Geometry}
use Rattle.flash.specs.Buffers.{Flash, flash, Shaped}
use Rattle.flash_flags.specs.Front.{WellFormed}
use Rattle.exchange.specs.declared.Job.{Job}
use Rattle.exchange.specs.declared.Operation.{Operation}
use Rattle.exchange.specs.Operations.{perform, phase_after}
use Rattle.exchange.specs.Order.{next_operation, perform_next, Step, step, Run, run}
use Rattle.exchange.proofs.Runs.{run_none, run_some}
use Rattle.exchange_front.specs.declared.Progress.{Progress}
use Rattle.exchange_front.specs.Carried.{begun, progress_scanned, Current}
use Rattle.exchange_front.proofs.Follows.{steps_keep_form}
use Rattle.exchange_steps.specs.declared.StepAnswer.{StepAnswer}
use Rattle.exchange_steps.specs.declared.FlashMut.{FlashMut}
use Rattle.exchange_steps.specs.Lent.{bytes, SameFlash}
use Rattle.exchange_steps.specs.Inner.{stepped, ran}

pub shaped_kept : (g : Geometry) (f f' : FlashMut) → Shaped g (bytes f) → SameFlash f f' → Shaped g (bytes f')
shaped_kept g f f' h k =
    record { limits = h.limits; boot = k.boot_length ∙ h.boot; update = k.update_length ∙ h.update; swap = k.swap_length ∙ h.swap }

pub shaped_on : (f f' : FlashMut) → Shaped f.geometry (bytes f) → SameFlash f f' → Shaped f'.geometry (bytes f')
shaped_on f f' h k = rw k.geometry (shaped_kept f.geometry f f' h k)

pub same_again : (f f' f'' : FlashMut) → SameFlash f f' → SameFlash f' f'' → SameFlash f f''
same_again f f' f'' k h = record {
  geometry = h.geometry ∙ k.geometry;
  boot = h.boot ∙ k.boot;
  update = h.update ∙ k.update;
  swap = h.swap ∙ k.swap;
  boot_length = h.boot_length ∙ k.boot_length;
  update_length = h.update_length ∙ k.update_length;
  swap_length = h.swap_length ∙ k.swap_length;
}

-- what the three buffers hold once the references to them are gone
pub given_back : (f : FlashMut) {b u s : List ℕ} → b ≡ f.boot.now → u ≡ f.update.now → s ≡ f.swap.now → flash b u s ≡ bytes f
given_back f p q r = rw (p, q, r) refl

-- whether a step did an operation
pub did : (x : Option Operation) → is_some x ≡ true → (o : Operation) × (x ≡ Some o)
did (Some o) e = (o, refl)
did None e = absurd (true≢false (sym e))

pub did_none : (x : Option Operation) → is_some x ≡ false → x ≡ None
did_none (Some o) e = absurd (true≢false e)
did_none None e = refl

-- after a budget has come down to `left`: the operations before, and the run that is left
abbrev pub run_left : Job → Geometry → ℕ → Progress → Flash → Run
run_left job g budget at f =
    let w = run job g at.left at.phase f in record { count = budget - at.left + w.count; phase = w.phase; flash = w.flash }

pub current_start : (g : Geometry) (u : List ℕ) (budget : ℕ) (at : Progress) → WellFormed g u → at ≡ begun g u budget → Current g u at
current_start g u budget at h e = record { formed = h; scanned = ap (λ (x : Progress). x.front) e }

pub current_same : (g : Geometry) (u u' : List ℕ) (at : Progress) → u' ≡ u → Current g u at → Current g u' at
current_same g u u' at e k = rw e k

module _ (job : Job) (g : Geometry) (budget : ℕ) where
  pub run_start : (f : Flash) (at : Progress) → at ≡ begun g f.update budget → (run_left job g budget at f ≡ run job g budget 0 f) × (at.left ≤ budget)
  run_start f at e =
      let w = run job g budget 0 f in
      let z : budget - budget + w.count ≡ w.count = omega arith in
      (ap (λ (x : Progress). run_left job g budget x f) e ∙ ap (λ (k : ℕ). record { count = k; phase = w.phase; flash = w.flash }) z, rw e (omega arith))

  module _ (at : Progress) (f f' : Flash) (r : StepAnswer) (s : stepped r f' ≡ step job g at.phase f) where
    pub next_is : r.done ≡ next_operation job g at.phase f
    unfolding step
    next_is = ap (λ (x : Step). x.next) s

    pub flash_is : f' ≡ perform_next g r.done f
    unfolding step
    flash_is = ap (λ (x : Step). x.flash) s ∙ ap (λ (m : Option Operation). perform_next g m f) (sym next_is)

    -- a turn
    pub run_on : (o : Operation) → r.done ≡ Some o → r.progress ≡ progress_scanned g f'.update r.done at → 0 < at.left → at.left ≤ budget
        → run_left job g budget r.progress f' ≡ run_left job g budget at f
    run_on o e q h b =
        let k : at.left ≡ suc (at.left - 1) = omega arith in
        let d : r.progress ≡ progress_scanned g f'.update (Some o) at = q ∙ ap (λ (t : Option Operation). progress_scanned g f'.update t at) e in
        let x : f' ≡ perform g o f = flash_is ∙ ap (λ (t : Option Operation). perform_next g t f) e in
        let w = run job g (at.left - 1) (phase_after o) (perform g o f) in
        let c : budget - (at.left - 1) + w.count ≡ budget - at.left + suc w.count = omega arith in
        ap (λ (y : Progress). run_left job g budget y f') d
        ∙ ap (λ (z : Flash). run_left job g budget (progress_scanned g f'.update (Some o) at) z) x
        ∙ ap (λ (y : ℕ). record { count = y; phase = w.phase; flash = w.flash }) c
        ∙ ap (λ (y : Run). record { count = budget - at.left + y.count; phase = y.phase; flash = y.flash })
        (sym (ap (λ (y : ℕ). run job g y at.phase f) k ∙ run_some job g (at.left - 1) at.phase f o (sym next_is ∙ e)))

    pub left_on : (o : Operation) → r.done ≡ Some o → r.progress ≡ progress_scanned g f'.update r.done at → r.progress.left ≡ at.left - 1
    left_on o e q = ap (λ (x : Progress). x.left) (q ∙ ap (λ (t : Option Operation). progress_scanned g f'.update t at) e)

    pub current_on : (o : Operation) → r.done ≡ Some o → r.progress ≡ progress_scanned g f'.update r.done at → Shaped g f → Current g f.update at → Current g f'.update r.progress
    unfolding step
    current_on o e q S k = record {
      formed = rw (ap (λ (x : Step). x.flash) s) (steps_keep_form job g at.phase f S k.formed);
      scanned = ap (λ (x : Progress). x.front) (q ∙ ap (λ (t : Option Operation). progress_scanned g f'.update t at) e);
    }

    -- nothing is next
    pub run_over : r.done ≡ None → 0 < at.left → (ran budget at f' ≡ run_left job g budget at f) × (f' ≡ f)
    run_over e h =
        let k : at.left ≡ suc (at.left - 1) = omega arith in
        let x : f' ≡ f = flash_is ∙ ap (λ (t : Option Operation). perform_next g t f) e in
        let c : budget - at.left ≡ budget - at.left + 0 = omega arith in (
          ap₂ (λ (y : ℕ) (z : Flash). record { count = y; phase = at.phase; flash = z }) c x
              ∙ ap (λ (y : Run). record { count = budget - at.left + y.count; phase = y.phase; flash = y.flash })
              (sym (ap (λ (y : ℕ). run job g y at.phase f) k ∙ run_none job g (suc (at.left - 1)) at.phase f (sym next_is ∙ e))),
          x,
        )

  -- the budget is used up
  pub run_spent : (at : Progress) (f : Flash) → at.left ≡ 0 → ran budget at f ≡ run_left job g budget at f
  unfolding run
  run_spent at f h =
      let c : budget - at.left ≡ budget - at.left + 0 = omega arith in
      ap (λ (y : ℕ). record { count = y; phase = at.phase; flash = f }) c
      ∙ ap (λ (y : ℕ). let w = run job g y at.phase f in record { count = budget - at.left + w.count; phase = w.phase; flash = w.flash }) (sym h)
