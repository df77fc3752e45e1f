-- Document 01, "Power-up": the call with a budget, made only of repeating the single step.
use Rattle.std.specs.Prelude.{List, [], ℕ, Option, Some, None}
use Rattle.numbers.specs.Answer.{Answer, gives, refused, Refusal, inside, Reason, no_reason}
use Rattle.flash.specs.declared.Geometry.{Geometry}
use Rattle.flash.specs.Buffers.{Flash}
use Rattle.exchange.specs.declared.Operation.{Operation}
use Rattle.exchange.specs.declared.Job.{Job}
use Rattle.exchange.specs.declared.Job.TheVariants.{Update, Fallback, TurnDown}
use Rattle.exchange.specs.Order.{next_operation, Run, run, operations}
use Rattle.exchange.specs.Decision.{Check, Plan, refuse, plain, work, decide}

-- The outcomes: a refusal, "cut", "run", "run on test", "run, fallen back".
pub data Outcome : Type 0 where
  refusal : Refusal → Outcome
  cut : Outcome
  runs : Outcome
  runs_on_test : Outcome
  runs_fallen_back : Outcome

-- What a power-up answers and leaves.
pub record PowerUp : Type 0 where
  pub outcome : Outcome
  pub reason : Reason
  pub count : ℕ
  pub flash : Flash

-- Before anything is run BOOT is checked: bad is 12, with its own number and place.
abbrev pub if_boot_good : Outcome → Answer ℕ → Outcome
if_boot_good o (gives v) = o
if_boot_good o (refused n p) = refusal (inside 12 n p)

-- The outcome of a job that is done.
abbrev pub done_outcome : Job → Outcome
done_outcome Update = runs_on_test
done_outcome Fallback = runs_fallen_back
done_outcome TurnDown = runs

-- An operation that is still ordered when the budget is used up gives "cut"; else BOOT is checked. Checks cost no budget.
abbrev pub outcome_by : Option Operation → Job → Answer ℕ → Outcome
outcome_by (Some o) job boot = cut
outcome_by None job boot = if_boot_good (done_outcome job) boot

-- What a job answers and leaves after its run of steps; the reason stands beside whatever outcome.
abbrev pub worked : Check → Geometry → Job → Reason → Run → PowerUp
worked check g job reason r =
    record {
      outcome = outcome_by (next_operation job g r.phase r.flash) job (check g r.flash.boot);
      reason = reason;
      count = r.count;
      flash = r.flash;
    }

-- Without an operation: no byte is changed, and 0 are counted.
abbrev pub idle : Outcome → Flash → PowerUp
idle o f = record { outcome = o; reason = no_reason; count = 0; flash = f }

-- Work begins at phase 0, the top of a leg, in every call.
abbrev pub carry_out : Check → Geometry → Flash → ℕ → Plan → PowerUp
carry_out check g f budget (refuse r) = idle (refusal r) f
carry_out check g f budget plain = idle (if_boot_good runs (check g f.boot)) f
carry_out check g f budget (work job reason) = worked check g job reason (run job g budget 0 f)

-- A power-up, whole: what the checks decide, carried out within the budget.
unfoldable pub power_up : Check → Geometry → Flash → ℕ → PowerUp
power_up check g f budget = carry_out check g f budget (decide check g f)

-- The operations that it does, in their order.
abbrev pub operations_in : Geometry → Flash → ℕ → Plan → List Operation
operations_in g f budget (refuse r) = []
operations_in g f budget plain = []
operations_in g f budget (work job _) = operations job g budget 0 f

unfoldable pub operations_of : Check → Geometry → Flash → ℕ → List Operation
operations_of check g f budget = operations_in g f budget (decide check g f)

-- The operation that the same call orders after its first k, if any: the one that a loss of power may tear.
abbrev pub next_in : Geometry → Flash → ℕ → Plan → Option Operation
next_in g f k (refuse r) = None
next_in g f k plain = None
next_in g f k (work job _) = next_operation job g (run job g k 0 f).phase (run job g k 0 f).flash

unfoldable pub next_after : Check → Geometry → Flash → ℕ → Option Operation
next_after check g f k = next_in g f k (decide check g f)
