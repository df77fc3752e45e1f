-- The numbers by which a C caller gets what power-up, arm and confirm answer, and the row of a power-up.
use Rattle.std.specs.Prelude.{ℕ, List, [], ◌∷◌}
use Rattle.numbers.specs.declared.Refused.{Refused}
use Rattle.numbers.specs.declared.RefusedInside.{RefusedInside}
use Rattle.numbers.specs.GivenBack.{three_numbers}
use Rattle.exchange.specs.PowerUp.{Outcome, refusal, cut, runs, runs_on_test, runs_fallen_back}
use Rattle.c_power_up.specs.declared.Ended.{Ended}

-- The number of an outcome that is no refusal.
abbrev pub ended : ℕ → Ended
ended outcome = record { outcome = outcome; number = 0; inner = 0; place = 0 }

-- A refusal is outcome 0: its number, and the own number and place of a bad image within it.
abbrev pub ended_refused : RefusedInside → Ended
ended_refused r = record { outcome = 0; number = r.number; inner = r.inner; place = r.place }

-- The outcomes of "Power-up" by numbers: 0 a refusal, 1 "cut", 2 "run", 3 "run on test", 4 "run, fallen back".
abbrev pub ended_of : Outcome → Ended
ended_of (refusal r) = ended_refused (three_numbers r)
ended_of cut = ended 1
ended_of runs = ended 2
ended_of runs_on_test = ended 3
ended_of runs_fallen_back = ended 4

-- Of a power-up: outcome, count, inner number and place, the reason's number and place.
abbrev pub power_row : Ended → ℕ → Refused → List ℕ
power_row e count why = e.outcome ∷ count ∷ e.inner ∷ e.place ∷ why.number ∷ why.place ∷ []
