-- Demand 3 speaks of something: from every start there is a list that 01 allows, with a refused power-up and a torn copy, that comes to
-- the finish; and an exchange under way can stand anywhere.
use Rattle.std.specs.Prelude.{◌≡◌, List, [], ◌∷◌, ℕ, ◌+◌, ◌*◌, ◌≤◌, length, Some}
use Rattle.numbers.specs.Answer.{numbered}
use Rattle.exchange.specs.Base.{Geometry, UpdateToSwap}
use Rattle.exchange.specs.Base.{geometry, firmware, sector_number, Flash}
use Rattle.exchange.specs.declared.Operation.TheVariants.{Copy}
use Rattle.exchange.specs.Decision.{Check}
use Rattle.exchange.specs.PowerUp.{refusal, power_up, next_after}
use Rattle.exchange.specs.LostPower.{Torn}
use Rattle.exchange.specs.Demand.{Exchange, ReadsFirmware, Starts, Ongoing, Finished, untorn, lost, Event, Allowed, left, flash_after, most}

-- A power-up with a geometry of no sectors, one that loses power after its first operation, and one that nothing disturbs.
abbrev pub rough_list : Geometry → Torn → ℕ → List Event
rough_list g t budget =
    untorn (geometry 0 0) budget ∷ lost g budget 1 t ∷ untorn g budget ∷ []

-- What holds of that list, from the flash f on.
pub record Reached (check : Check) (x : Exchange) (g : Geometry) (f : Flash) (t : Torn) (budget : ℕ) : Type 0 where
  pub first_refused : (power_up check (geometry 0 0) f budget).outcome ≡ refusal (numbered 1 0)
  pub copy_torn : next_after check g f 1 ≡ Some (Copy UpdateToSwap (sector_number 0))
  pub allowed : Allowed check x g f (rough_list g t budget)
  pub finished : Finished x g (flash_after (left check) f (rough_list g t budget))

-- From every start, for all torn bytes and every budget that is enough.
abbrev pub FinishReached : Type 0
FinishReached =
    (check : Check) (x : Exchange) (g : Geometry) (f : Flash) → ReadsFirmware check g → Starts check x g f → (t : Torn) → length t.bytes ≡ g.size
    → (budget : ℕ) → most x (firmware g) + 2 ≤ budget → Reached check x g f t budget

-- And every stage is reached: from every start, 3 a operations make a moves.
abbrev pub StagesReached : Type 0
StagesReached =
    (check : Check) (x : Exchange) (g : Geometry) (f : Flash) → Starts check x g f → (a : ℕ) → a ≤ 3 * firmware g
    → Ongoing check x g f (power_up check g f (3 * a)).flash a
