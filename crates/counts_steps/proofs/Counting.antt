-- The row along the steps: what it becomes by the steps that are left.
use mathlib.Core.Path.{◌≡◌, refl, sym, ap, ap₂, ◌∙◌, subst}
use mathlib.Core.List.{List, ◌∷◌}
use Prim.Native.Nat.{ℕ, suc, ◌+◌, ◌-◌, ◌<◌}
use native.Mathlib.Decide.{dec_lt}
use native.Mathlib.Omega.{arith}
use lib.ListN.{length, get_or, get_or-eq_default}
use Rattle.std.specs.Prelude.{Option, Some, None}
use Rattle.flash.specs.declared.Geometry.{Geometry}
use Rattle.flash.specs.Sizes.{Limits}
use Rattle.flash.specs.Buffers.{Flash}
use Rattle.exchange.specs.declared.Job.{Job}
use Rattle.exchange.specs.declared.Operation.{Operation}
use Rattle.exchange.specs.Operations.{perform, phase_after}
use Rattle.exchange.specs.Order.{next_operation, perform_next, step, operations}
use Rattle.exchange.proofs.Runs.{operations_none, operations_some}
use Rattle.exchange_front.specs.declared.Progress.{Progress}
use Rattle.exchange_front.specs.Carried.{progress_scanned, next_at, Current}
use Rattle.exchange_front.proofs.Follows.{same_next}
use Rattle.exchange_steps.specs.declared.StepAnswer.{StepAnswer}
use Rattle.exchange_steps.specs.Inner.{stepped}
use Rattle.exchange_steps.proofs.Runs.{next_is, flash_is}
use Rattle.counts.specs.Row.{slot, raise, raised}
use Rattle.counts.specs.Claims.{raises_at, erases_at, Within32}
use Rattle.counts.proofs.Rows.{raises_here, raised_place}
use Rattle.counts_row.specs.Inner.{RoomFor}
use Rattle.counts_steps.specs.Inner.{raise_next, RoomForNext}

-- what the row becomes by the steps that are left
abbrev pub row_to_come : Job → Geometry → Progress → Flash → List ℕ → List ℕ
row_to_come job g at f row = raised g (operations job g at.left at.phase f) row

module _ (job : Job) (g : Geometry) where
  module _ (budget : ℕ) (at : Progress) (f f' : Flash) (r : StepAnswer) (s : stepped r f' ≡ step job g at.phase f) (row row' : List ℕ) (c : row' ≡ raise_next g r.done row) where
    -- a turn
    pub row_on : (o : Operation) → r.done ≡ Some o → r.progress ≡ progress_scanned g f'.update r.done at → 0 < at.left
        → row_to_come job g r.progress f' row' ≡ row_to_come job g at f row
    row_on o e q h =
        let k : at.left ≡ suc (at.left - 1) = omega arith in
        let d : r.progress ≡ progress_scanned g f'.update (Some o) at = q ∙ ap (λ (t : Option Operation). progress_scanned g f'.update t at) e in
        let x : f' ≡ perform g o f = flash_is job g budget at f f' r s ∙ ap (λ (t : Option Operation). perform_next g t f) e in
        let y : row' ≡ raise (slot g o) row = c ∙ ap (λ (t : Option Operation). raise_next g t row) e in
        ap₂ (λ (z : Progress) (w : List ℕ). row_to_come job g z f' w) d y
        ∙ ap (λ (z : Flash). raised g (operations job g (at.left - 1) (phase_after o) z) (raise (slot g o) row)) x
        ∙ ap (λ (os : List Operation). raised g os row)
        (sym (ap (λ (n : ℕ). operations job g n at.phase f) k ∙ operations_some job g (at.left - 1) at.phase f o (sym (next_is job g budget at f f' r s) ∙ e)))

    -- nothing is next
    pub row_over : r.done ≡ None → row' ≡ row_to_come job g at f row
    row_over e =
        c ∙ ap (λ (t : Option Operation). raise_next g t row) e
        ∙ ap (λ (os : List Operation). raised g os row) (sym (operations_none job g at.left at.phase f (sym (next_is job g budget at f f' r s) ∙ e)))

  -- the budget is used up
  pub row_spent : (at : Progress) (f : Flash) (row : List ℕ) → at.left ≡ 0 → row ≡ row_to_come job g at f row
  unfolding operations
  row_spent at f row h = ap (λ (n : ℕ). raised g (operations job g n at.phase f) row) (sym h)

  -- a row that stays within 32 bits has room for the next erase
  room : (o : Operation) (os : List Operation) (row : List ℕ) → Within32 (raised g (o ∷ os) row) → (p : Option ℕ) → slot g o ≡ p → RoomFor p row
  room o os row w None e = tt
  room o os row w (Some k) e = by (dec_lt k (length row))
    where
      by : Dec (k < length row) → get_or row k 0 < 4294967295
      by (yes b) =
          let h : get_or (raised g (o ∷ os) row) k 0 ≡ get_or row k 0 + erases_at g k (o ∷ os) = raised_place g (o ∷ os) row k b in
          omega (arith, w k, h, ap (raises_at k) e, raises_here k k refl)
      by (no b) = omega (arith, get_or-eq_default row 0 {n = k} (omega arith))

  pub room_next : (at : Progress) (f : Flash) (row : List ℕ) → Limits g → Current g f.update at → 0 < at.left → Within32 (row_to_come job g at f row)
      → RoomForNext g (next_at job g at f.boot f.update) row
  unfolding next_operation
  room_next at f row G k h w = subst (λ (n : Option Operation). RoomForNext g n row) (sym (same_next job g at f.boot f.update G k)) (by (next_operation job g at.phase f) refl)
    where
      by : (n : Option Operation) → next_operation job g at.phase f ≡ n → RoomForNext g n row
      by None e = tt
      by (Some o) e =
          let q : at.left ≡ suc (at.left - 1) = omega arith in
          room o (operations job g (at.left - 1) (phase_after o) (perform g o f)) row
          (subst (λ (os : List Operation). Within32 (raised g os row)) (ap (λ (n : ℕ). operations job g n at.phase f) q ∙ operations_some job g (at.left - 1) at.phase f o e) w) (slot g o) refl
