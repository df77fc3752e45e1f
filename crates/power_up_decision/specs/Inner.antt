-- What the functions of this crate answer.
use Rattle.std.specs.Prelude.{Result, Ok, Err}
use Rattle.numbers.specs.declared.PowerUpRefusal.{PowerUpRefusal}
use Rattle.numbers.specs.GivenBack.{power_up_says, reason_of}
use Rattle.exchange.specs.Decision as decision
use Rattle.exchange.specs.Decision.{refuse, plain, work}
use Rattle.power_up_decision.specs.declared.Plan.{Plan}
use Rattle.power_up_decision.specs.declared.Plan.TheVariants.{Plain, Work}

-- what the checks before the work decide
abbrev pub plan_of : Result Plan PowerUpRefusal → decision.Plan
plan_of (Err r) = refuse (power_up_says r)
plan_of (Ok Plain) = plain
plan_of (Ok (Work job reason)) = work job (reason_of reason)
