-- Laws of a run of steps, for every job: nothing is next, one more step, two runs one after the other; and the power-up that runs them.
use mathlib.Core.Path.{◌≡◌, refl, sym, ap, ◌∙◌}
use mathlib.Core.List.{List, [], ◌∷◌, ◌++◌}
use Prim.Native.Nat.{ℕ, zero, suc, ◌+◌, ◌≤◌}
use native.Mathlib.Omega.{arith}
use lib.ListN.{length, take}
use Rattle.std.specs.Prelude.{Option, Some, None, option_to_list}
use Rattle.numbers.specs.Answer.{Reason}
use Rattle.exchange.specs.Base.{Geometry}
use Rattle.exchange.specs.Base.{Flash}
use Rattle.exchange.specs.declared.Operation.{Operation}
use Rattle.exchange.specs.declared.Job.{Job}
use Rattle.exchange.specs.Operations.{perform, perform_all, phase_after}
use Rattle.exchange.specs.Order.{next_operation, perform_next, step, Run, stopped, one_more, run, operations}
use Rattle.exchange.specs.Decision.{Check, work, decide}
use Rattle.exchange.specs.PowerUp.{worked, power_up}

-- the step does what is next
step_does : (job : Job) (g : Geometry) (p : ℕ) (f : Flash) (o : Operation) → next_operation job g p f ≡ Some o → (step job g p f).flash ≡ perform g o f
unfolding step
step_does job g p f o e = ap (λ (n : Option Operation). perform_next g n f) e

pub run_none : (job : Job) (g : Geometry) (k p : ℕ) (f : Flash) → next_operation job g p f ≡ None → run job g k p f ≡ stopped p f
unfolding run step
run_none job g zero p f e = refl
run_none job g (suc k) p f e = rw (run, e)

pub run_some : (job : Job) (g : Geometry) (k p : ℕ) (f : Flash) (o : Operation) → next_operation job g p f ≡ Some o
    → run job g (suc k) p f ≡ one_more (run job g k (phase_after o) (perform g o f))
unfolding run step
run_some job g k p f o e = rw (run, e) (ap (λ (h : Flash). one_more (run job g k (phase_after o) h)) (step_does job g p f o e))

-- ---- what the run did, as a list

pub operations_none : (job : Job) (g : Geometry) (k p : ℕ) (f : Flash) → next_operation job g p f ≡ None → operations job g k p f ≡ []
unfolding operations step
operations_none job g zero p f e = refl
operations_none job g (suc k) p f e = rw (operations, e)

pub operations_some : (job : Job) (g : Geometry) (k p : ℕ) (f : Flash) (o : Operation) → next_operation job g p f ≡ Some o
    → operations job g (suc k) p f ≡ o ∷ operations job g k (phase_after o) (perform g o f)
unfolding operations step
operations_some job g k p f o e = rw (operations, e) (ap (λ (h : Flash). o ∷ operations job g k (phase_after o) h) (step_does job g p f o e))

record Lists (g : Geometry) (f : Flash) (os : List Operation) (w : Run) : Type 0 where
  counted : w.count ≡ length os
  left : w.flash ≡ perform_all g os f

lists : (job : Job) (g : Geometry) (k p : ℕ) (f : Flash) → Lists g f (operations job g k p f) (run job g k p f)
unfolding run operations
lists job g zero p f = record { counted = refl; left = refl }
lists job g (suc k) p f = by (next_operation job g p f) refl (λ o. lists job g k (phase_after o) (perform g o f))
  where
    by : (n : Option Operation) → next_operation job g p f ≡ n
        → ((o : Operation) → Lists g (perform g o f) (operations job g k (phase_after o) (perform g o f)) (run job g k (phase_after o) (perform g o f)))
        → Lists g f (operations job g (suc k) p f) (run job g (suc k) p f)
    by None e ih = rw (run_none job g (suc k) p f e, operations_none job g (suc k) p f e) (record { counted = refl; left = refl })
    by (Some o) e ih = rw (run_some job g k p f o e, operations_some job g k p f o e) (record { counted = ap suc (ih o).counted; left = (ih o).left })

pub run_count : (job : Job) (g : Geometry) (k p : ℕ) (f : Flash) → (run job g k p f).count ≡ length (operations job g k p f)
run_count job g k p f = (lists job g k p f).counted

pub run_flash : (job : Job) (g : Geometry) (k p : ℕ) (f : Flash) → (run job g k p f).flash ≡ perform_all g (operations job g k p f) f
run_flash job g k p f = (lists job g k p f).left

-- fewer steps are the first of them
pub operations_first : (job : Job) (g : Geometry) (k n p : ℕ) (f : Flash) → k ≤ n → operations job g k p f ≡ take k (operations job g n p f)
unfolding operations
operations_first job g zero n p f h = refl
operations_first job g (suc k) zero p f h = absurd (omega arith)
operations_first job g (suc k) (suc n) p f h =
    by (next_operation job g p f) refl (λ o. operations_first job g k n (phase_after o) (perform g o f) (omega arith))
  where
    by : (m : Option Operation) → next_operation job g p f ≡ m
        → ((o : Operation) → operations job g k (phase_after o) (perform g o f) ≡ take k (operations job g n (phase_after o) (perform g o f)))
        → operations job g (suc k) p f ≡ take (suc k) (operations job g (suc n) p f)
    by None e ih = rw (operations_none job g (suc k) p f e, operations_none job g (suc n) p f e)
    by (Some o) e ih = rw (operations_some job g k p f o e, operations_some job g n p f o e) (ap (λ (os : List Operation). o ∷ os) (ih o))

-- one step more does what is next
pub operations_next : (job : Job) (g : Geometry) (k p : ℕ) (f : Flash)
    → operations job g (suc k) p f ≡ operations job g k p f ++ option_to_list (next_operation job g (run job g k p f).phase (run job g k p f).flash)
unfolding run operations
operations_next job g zero p f = by (next_operation job g p f) refl
  where
    by : (n : Option Operation) → next_operation job g p f ≡ n → operations job g 1 p f ≡ option_to_list (next_operation job g p f)
    by None e = operations_none job g 1 p f e ∙ sym (ap option_to_list e)
    by (Some o) e = operations_some job g 0 p f o e ∙ sym (ap option_to_list e)
operations_next job g (suc k) p f = by (next_operation job g p f) refl (λ o. operations_next job g k (phase_after o) (perform g o f))
  where
    goal : Type 0
    goal = operations job g (suc (suc k)) p f
        ≡ operations job g (suc k) p f ++ option_to_list (next_operation job g (run job g (suc k) p f).phase (run job g (suc k) p f).flash)

    by : (n : Option Operation) → next_operation job g p f ≡ n
        → ((o : Operation) → operations job g (suc k) (phase_after o) (perform g o f)
        ≡ operations job g k (phase_after o) (perform g o f)
        ++ option_to_list (next_operation job g (run job g k (phase_after o) (perform g o f)).phase (run job g k (phase_after o) (perform g o f)).flash))
        → goal
    by None e ih = rw (operations_none job g (suc (suc k)) p f e, operations_none job g (suc k) p f e, run_none job g (suc k) p f e, e) refl
    by (Some o) e ih =
        rw (operations_some job g (suc k) p f o e, operations_some job g k p f o e, run_some job g k p f o e)
        (ap (λ (os : List Operation). o ∷ os) (ih o))

-- ---- how many

-- no more steps than k
pub run_within : (job : Job) (g : Geometry) (k p : ℕ) (f : Flash) → (run job g k p f).count ≤ k
unfolding run
run_within job g zero p f = omega arith
run_within job g (suc k) p f = by (next_operation job g p f) refl (λ o. run_within job g k (phase_after o) (perform g o f))
  where
    by : (n : Option Operation) → next_operation job g p f ≡ n → ((o : Operation) → (run job g k (phase_after o) (perform g o f)).count ≤ k) → (run job g (suc k) p f).count ≤ suc k
    by None e ih = rw (run_none job g (suc k) p f e) (omega arith)
    by (Some o) e ih = rw (run_some job g k p f o e) (omega (arith, ih o))

-- j steps and then k more are j + k steps
abbrev pub and_then : Run → Run → Run
and_then v w = record { count = v.count + w.count; phase = w.phase; flash = w.flash }

none_added : (p : ℕ) (f : Flash) (w : Run) → w ≡ and_then (record { count = 0; phase = p; flash = f }) w
none_added p f w = let e : w.count ≡ 0 + w.count = omega arith in ap (λ (n : ℕ). record { count = n; phase = w.phase; flash = w.flash }) e

pub run_add : (job : Job) (g : Geometry) (j k p : ℕ) (f : Flash)
    → run job g (j + k) p f ≡ and_then (run job g j p f) (run job g k (run job g j p f).phase (run job g j p f).flash)
unfolding run
run_add job g zero k p f = let e : 0 + k ≡ k = omega arith in ap (λ (n : ℕ). run job g n p f) e ∙ none_added p f (run job g k p f)
run_add job g (suc j) k p f = by (next_operation job g p f) refl (λ o. run_add job g j k (phase_after o) (perform g o f))
  where
    both : Run → Run
    both v = and_then v (run job g k v.phase v.flash)

    e : suc j + k ≡ suc (j + k)
    e = omega arith

    by : (n : Option Operation) → next_operation job g p f ≡ n
        → ((o : Operation) → run job g (j + k) (phase_after o) (perform g o f) ≡ both (run job g j (phase_after o) (perform g o f)))
        → run job g (suc j + k) p f ≡ both (run job g (suc j) p f)
    by None h ih =
        run_none job g (suc j + k) p f h
        ∙ none_added p f (record { count = 0; phase = p; flash = f })
        ∙ ap (λ (w : Run). and_then (record { count = 0; phase = p; flash = f }) w) (sym (run_none job g k p f h))
        ∙ ap both (sym (run_none job g (suc j) p f h))
    by (Some o) h ih =
        ap (λ (n : ℕ). run job g n p f) e ∙ run_some job g (j + k) p f o h ∙ ap one_more (ih o)
        ∙ counted (run job g j (phase_after o) (perform g o f)) ∙ ap both (sym (run_some job g j p f o h))
      where
        counted : (v : Run) → one_more (both v) ≡ both (one_more v)
        counted v =
            let w : Run = run job g k v.phase v.flash in
            let q : suc (v.count + w.count) ≡ suc v.count + w.count = omega arith in
            ap (λ (n : ℕ). record { count = n; phase = w.phase; flash = w.flash }) q

-- a power-up that is decided for a job runs it from the top of a leg
pub power_up_works : (check : Check) (g : Geometry) (f : Flash) (budget : ℕ) (job : Job) (why : Reason) → decide check g f ≡ work job why
    → power_up check g f budget ≡ worked check g job why (run job g budget 0 f)
unfolding power_up
power_up_works check g f budget job why e = rw e refl
