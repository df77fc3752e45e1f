-- The claims on calls speak of something: for every input there is a call of `mend` that meets its contract, and only one; and from every mended
-- state there are calls of `power_up` that come to the finish.
use Rattle.std.specs.Prelude.{◌≡◌, List, [], ◌∷◌, ℕ, ◌+◌, ◌*◌, ◌≤◌, length}
use Rattle.numbers.specs.Answer.{gives}
use Rattle.flash.specs.declared.Geometry.{Geometry}
use Rattle.flash.specs.Sizes.{geometry, firmware}
use Rattle.flash.specs.Buffers.{Flash}
use Rattle.flash_status.specs.declared.BootStatus.TheVariants.{Success}
use Rattle.flash_status.specs.StatusBytes.{boot_status_at}
use Rattle.exchange.specs.LostPower.{Torn}
use Rattle.exchange.specs.Demand.{update, Finished, Event, untorn, lost, flash_after, most}
use Rattle.mending.specs.declared.Mark.{Mark}
use Rattle.mending.specs.Marks.{moves_of}
use Rattle.mend.specs.Delivered.{MendAnswer, mended_with, MendDelivers}
use Rattle.power_up.specs.declared.PowerUpAnswer.{PowerUpAnswer}
use Rattle.power_up.specs.Delivered.{Delivers}
use Rattle.delivered.specs.Demand.{seen, AllowedCalls}
use Rattle.delivered.specs.Witness.{Called}
use Rattle.delivered_mending.specs.Asked.{left_by}

-- An answer and UPDATE's bytes that meet the contract of `mend`; no other answer and no other bytes do.
pub record MendCalled (n s : ℕ) (f : Flash) : Type 0 where
  pub answer : MendAnswer
  pub bytes : List ℕ
  pub delivers : MendDelivers n s f answer bytes
  pub only : (a : MendAnswer) (u : List ℕ) → MendDelivers n s f a u → (a ≡ answer) × (u ≡ bytes)

abbrev pub EveryMendCalled : Type 0
EveryMendCalled = (n s : ℕ) (f : Flash) → MendCalled n s f

-- A power-up with a geometry of no sectors, one that loses power after j operations with its next one torn, and one that nothing disturbs.
abbrev pub broken_off : Geometry → ℕ → Torn → ℕ → List Event
broken_off g j t budget = untorn (geometry 0 0) budget ∷ lost g budget j t ∷ untorn g budget ∷ []

-- The power-ups of the list es as calls that 01 allows from f, at whose end the update is finished.
pub record FinishCalled (g : Geometry) (f : Flash) (es : List Event) : Type 0 where
  pub called : Called (AllowedCalls update g f) f es
  pub finished : Finished update g (flash_after seen f called.calls)

-- From every mended state, for all torn bytes, and wherever power fails in the legs that the mark leaves to do; where it leaves none, in the
-- first of the closing operations.
abbrev pub MendedFinishes : Type 0
MendedFinishes =
    (n s : ℕ) (f : Flash) (k : Mark) (bytes : ℕ) (u : List ℕ) → MendDelivers n s f (mended_with k bytes) u → (j : ℕ)
    → j + 3 * moves_of (firmware (geometry n s)) k ≤ 9 * firmware (geometry n s) → (t : Torn) → length t.bytes ≡ s → (budget : ℕ)
    → most update (firmware (geometry n s)) + 2 ≤ budget → FinishCalled (geometry n s) (left_by f u) (broken_off (geometry n s) j t budget)

-- The bound of demand 3 could not be smaller: with BOOT SUCCESS, a call of `power_up` on the mended state that nothing disturbs counts three
-- operations less than 9m + 3 for each move that the mended flags have behind them, and no fewer.
abbrev pub MendedBoundReached : Type 0
MendedBoundReached =
    (n s : ℕ) (f : Flash) (k : Mark) (bytes : ℕ) (u : List ℕ) → MendDelivers n s f (mended_with k bytes) u
    → boot_status_at (geometry n s) f.boot ≡ gives Success → (budget : ℕ) → most update (firmware (geometry n s)) ≤ budget → (answer : PowerUpAnswer)
    (f' : Flash) → Delivers n s (left_by f u) budget answer f'
    → answer.count + 3 * moves_of (firmware (geometry n s)) k ≡ most update (firmware (geometry n s))
