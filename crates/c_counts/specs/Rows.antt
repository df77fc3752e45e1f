-- The rows by which a C caller gets what the counted calls answer: the uncounted call's, and the total behind it.
use Rattle.std.specs.Prelude.{ℕ, List, [], ◌∷◌, ◌++◌}
use Rattle.numbers.specs.Answer.{Answer}
use Rattle.numbers.specs.declared.Refused.{Refused}
use Rattle.c_power_up.specs.declared.Ended.{Ended}
use Rattle.numbers.specs.GivenBack.{count_of}
use Rattle.c_power_up.specs.Outcomes.{power_row}

-- Of a counted power-up: the six numbers of a power-up, and the total that goes out.
abbrev pub counted_power_row : Ended → ℕ → Refused → ℕ → List ℕ
counted_power_row e count why total = power_row e count why ++ total ∷ []

-- Of a counted arm: the operations done, and the total.
abbrev pub counted_arm_row : Answer ℕ → ℕ → List ℕ
counted_arm_row a total = count_of a ∷ total ∷ []
