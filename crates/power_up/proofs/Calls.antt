-- Power-up by its first check, and the answer of a job.
use mathlib.Core.Path.{◌≡◌, refl, ap}
use Prim.Native.Nat.{ℕ, ◌-◌}
use Rattle.std.specs.Prelude.{Option, Result}
use Rattle.numbers.specs.declared.PowerUpRefusal.{PowerUpRefusal}
use Rattle.numbers.specs.Answer.{gives, refused, numbered}
use Rattle.flash.specs.declared.Geometry.{Geometry}
use Rattle.flash.specs.Sizes.{geometry, Limits}
use Rattle.flash.specs.Buffers.{Flash, flash_of}
use Rattle.flash.proofs.Answers.{flash_asked, flash_fits, flash_unfit}
use Rattle.flash_status.specs.StatusBytes.{boot_status_at, update_status_at}
use Rattle.flash_flags.specs.SectorFlags.{flags_at}
use Rattle.exchange.specs.Decision.{Check, Plan, decide_statuses, decide}
use Rattle.exchange.specs.declared.Job.{Job}
use Rattle.exchange.specs.Order.{Run, next_operation}
use Rattle.exchange.specs.PowerUp.{refusal, idle, outcome_by, worked, carry_out, power_up}
use Rattle.exchange_front.specs.declared.Progress.{Progress}
use Rattle.exchange_front.specs.Carried.{next_at, Current}
use Rattle.exchange_front.proofs.Follows.{same_next}
use Rattle.exchange_steps.specs.Inner.{ran}
use Rattle.numbers.specs.declared.TurnDownReason.{TurnDownReason}
use Rattle.numbers.specs.GivenBack.{reason_of}
use Rattle.power_up.specs.declared.Outcome.{Outcome}
use Rattle.power_up.specs.Delivered.{outcome_of, answered}

-- ---- geometry and lengths are outside the rules

module _ (n s : ℕ) (f : Flash) (e : refused 1 0 ≡ flash_of n s f) where
  pub power_up_outside : (check : Check) (budget : ℕ) → idle (refusal (numbered 1 0)) f ≡ power_up check (geometry n s) f budget
  unfolding power_up decide
  power_up_outside check budget = rw (flash_unfit n s f e) refl

-- ---- within

module _ (n s : ℕ) (f : Flash) (g : Geometry) (e : gives g ≡ flash_of n s f) where
  pub power_up_inside : (check : Check) (budget : ℕ) (plan : Plan)
      → plan ≡ decide_statuses (boot_status_at g f.boot) (update_status_at g f.update) (flags_at g f.update) (check g f.update) (check g f.boot)
      → carry_out check g f budget plan ≡ power_up check (geometry n s) f budget
  unfolding power_up decide
  power_up_inside check budget x p = rw (flash_asked n s f g e) (rw (flash_fits n s f g e) (ap (carry_out check g f budget) p))

-- ---- a job is worked on

-- the outcome, the reason and the count beside the flash f that the steps left, by what they carried to their end
pub job_answered : (check : Check) (g : Geometry) → Limits g → (job : Job) (why : Option TurnDownReason) (o : Result Outcome PowerUpRefusal) (n budget : ℕ) (at : Progress) (f : Flash) (x : Run)
    → ran budget at f ≡ x → Current g f.update at → outcome_of o ≡ outcome_by (next_at job g at f.boot f.update) job (check g f.boot)
    → n ≡ budget - at.left → answered (record { outcome = o; reason = why; count = n }) f ≡ worked check g job (reason_of why) x
unfolding next_operation
job_answered check g G job why o n budget at f x e k eo en =
    rw (eo, en, same_next job g at f.boot f.update G k) (ap (worked check g job (reason_of why)) e)
