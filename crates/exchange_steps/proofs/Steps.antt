-- What a step gives, by the operation that was found.
use mathlib.Core.Path.{◌≡◌, refl, sym, ap, ◌∙◌}
use Prim.Native.Nat.{ℕ, ◌-◌}
use Rattle.std.specs.Prelude.{Option, Some, None}
use Rattle.flash.specs.declared.Geometry.{Geometry}
use Rattle.flash.specs.declared.SectorNumber.{SectorNumber}
use Rattle.flash.specs.Sectors.{sector_number}
use Rattle.flash.specs.Buffers.{Flash, Shaped}
use Rattle.flash_flags.specs.Front.{front}
use Rattle.flash_flags.proofs.Front.{sector_number_lem}
use Rattle.exchange.specs.declared.Job.{Job}
use Rattle.exchange.specs.declared.Operation.{Operation}
use Rattle.exchange.specs.Operations.{perform, phase_after}
use Rattle.exchange.specs.Order.{next_operation, step}
use Rattle.exchange_front.specs.declared.Progress.{Progress}
use Rattle.exchange_front.specs.Carried.{next_at, Current}
use Rattle.exchange_front.specs.Inner.{front_after, progress_after}
use Rattle.exchange_front.proofs.Follows.{front_follows, same_next}
use Rattle.exchange_steps.specs.Inner.{Steps}

module _ (job : Job) (g : Geometry) (at : Progress) (f : Flash) (s : Shaped g f) where
  -- by the true front, what was found is what the rules order
  ordered : (next : Option Operation) → next ≡ next_at job g at f.boot f.update → Current g f.update at → next_operation job g at.phase f ≡ next
  unfolding next_operation
  ordered next n k = sym (n ∙ same_next job g at f.boot f.update s.limits k)

  -- an operation was next; it is done, and the flash is f'
  pub step_done : (o : Operation) → Some o ≡ next_at job g at f.boot f.update → (f' : Flash) → f' ≡ perform g o f → (on : Progress) → on ≡ progress_after at o
      → Steps job g at f (record { done = Some o; progress = on }) f'
  unfolding step
  step_done o n f' d on q = record {
    found = n;
    done = d;
    handed = q;
    ruled = λ k. rw (ordered (Some o) n k) (ap (λ (y : Flash). record { next = Some o; flash = y }) d);
    scanned = λ k. q ∙ ap (λ (y : SectorNumber). record { front = y; phase = phase_after o; left = at.left - 1 }) (moved k);
  }
    where
      moved : Current g f.update at → sector_number (front_after o at.front.0) ≡ sector_number (front g f'.update)
      moved k =
          ap (λ (i : ℕ). sector_number (front_after o i)) (sym (sector_number_lem k.scanned))
          ∙ ap sector_number (sym (front_follows job g at.phase f o s k.formed (ordered (Some o) n k)))
          ∙ ap (λ (y : Flash). sector_number (front g y.update)) (sym d)

  -- nothing was next
  pub step_none : None ≡ next_at job g at f.boot f.update → Steps job g at f (record { done = None; progress = at }) f
  unfolding step
  step_none n = record {
    found = n;
    done = refl;
    handed = refl;
    ruled = λ k. rw (ordered None n k) refl;
    scanned = λ k. ap (λ (y : SectorNumber). record { front = y; phase = at.phase; left = at.left }) k.scanned;
  }
