-- What the loader's own functions answer.
use Rattle.std.specs.Prelude.{None, Result}
use Rattle.numbers.specs.declared.PowerUpRefusal.{PowerUpRefusal}
use Rattle.power_up.specs.declared.Outcome.{Outcome}
use Rattle.power_up.specs.declared.PowerUpAnswer.{PowerUpAnswer}

-- an answer without operations
abbrev pub idle_answer : Result Outcome PowerUpRefusal → PowerUpAnswer
idle_answer o = record { outcome = o; reason = None; count = 0 }
