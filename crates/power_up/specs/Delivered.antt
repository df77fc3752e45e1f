-- What power-up promises: the rules of `exchange` with the delivered image check, and 01's numbers for each case of the code's answers.
use Rattle.std.specs.Prelude.{◌≡◌, ℕ, Result, Ok, Err}
use Rattle.numbers.specs.declared.PowerUpRefusal.{PowerUpRefusal}
use Rattle.numbers.specs.GivenBack.{power_up_says, reason_of}
use Rattle.flash.specs.Sizes.{geometry}
use Rattle.flash.specs.Buffers.{Flash}
use Rattle.exchange.specs.PowerUp as power_up_rules
use Rattle.exchange.specs.PowerUp.{PowerUp, refusal, cut, runs, runs_on_test, runs_fallen_back, power_up}
use Rattle.image.specs.Verdict.{check_of}
use Rattle.power_up.specs.declared.Outcome.{Outcome}
use Rattle.power_up.specs.declared.Outcome.TheVariants.{Cut, Run, RunOnTest, RunFallenBack}
use Rattle.power_up.specs.declared.PowerUpAnswer.{PowerUpAnswer}

-- "Power-up": its outcomes.
abbrev pub outcome_of : Result Outcome PowerUpRefusal → power_up_rules.Outcome
outcome_of (Err r) = refusal (power_up_says r)
outcome_of (Ok Cut) = cut
outcome_of (Ok Run) = runs
outcome_of (Ok RunOnTest) = runs_on_test
outcome_of (Ok RunFallenBack) = runs_fallen_back

-- What a power-up answers, and the flash that it leaves.
abbrev pub answered : PowerUpAnswer → Flash → PowerUp
answered a f = record { outcome = outcome_of a.outcome; reason = reason_of a.reason; count = a.count; flash = f }

-- The contract of `power_up`: asked for this many sectors of this size and lent the flash f, with the budget, the call gives this answer
-- and leaves the flash f'. The rules decide both, with the delivered image check: nothing else has a say.
abbrev pub Delivers : ℕ → ℕ → Flash → ℕ → PowerUpAnswer → Flash → Type 0
Delivers sectors size f budget answer f' = answered answer f' ≡ power_up check_of (geometry sectors size) f budget
