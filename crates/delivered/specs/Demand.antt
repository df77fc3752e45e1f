-- Demand 3 of the delivered call. Its lists are made of calls of `power_up` that gave what the contract says (`Delivers`): of an answer and
-- bytes, as a caller gets them. The only premises are where the list starts and what document 01 allows in it.
use Rattle.std.specs.Prelude.{List, ◌≡◌, ℕ, ◌≤◌, length}
use Rattle.flash.specs.declared.Geometry.{Geometry}
use Rattle.flash.specs.Sizes.{geometry}
use Rattle.flash.specs.Buffers.{Flash}
use Rattle.exchange.specs.PowerUp.{next_after}
use Rattle.exchange.specs.LostPower.{Torn, tear_next}
use Rattle.exchange.specs.Along.{Along}
use Rattle.exchange.specs.Demand.{Exchange, Finished, Starts, Ongoing, Left, left_untorn, left_lost, flash_left, Safe}
use Rattle.image.specs.Verdict.{check_of}
use Rattle.power_up.specs.declared.PowerUpAnswer.{PowerUpAnswer}
use Rattle.power_up.specs.Delivered.{answered, Delivers}

-- What a call gave: its answer, and the flash that it left.
pub record Gave : Type 0 where
  pub answer : PowerUpAnswer
  pub flash : Flash

-- A power-up of the list. Each was given its own numbers of sectors and of bytes, which may be wrong, and its own budget.
pub data CallEvent : Type 0 where
  -- it kept its power, and the call gave this
  kept_power : (sectors size budget : ℕ) → Gave → CallEvent
  -- it lost power after k operations: what the call gives with its budget; what the same call gives with the budget k; how the next
  -- operation is torn
  cut_off : (sectors size budget : ℕ) → Gave → (k : ℕ) → Gave → Torn → CallEvent

-- The calls of a power-up that finds the flash f gave what the contract says. Power fails after no more operations than the call counts
-- within its budget, so after none if it is refused; torn bytes fill a sector.
abbrev pub Happens : Geometry → Flash → CallEvent → Type 0
Happens g f (kept_power n s budget whole) = Delivers n s f budget whole.answer whole.flash
Happens g f (cut_off n s budget whole k part t) =
    (Delivers n s f budget whole.answer whole.flash)
    × (Delivers n s f k part.answer part.flash)
    × (k ≤ whole.answer.count)
    × (length t.bytes ≡ g.size)

-- What is seen of it: the answer and the bytes that the call gave; or, after a loss of power, the bytes that the same call gave with the
-- budget k, its next operation torn.
abbrev pub seen : Flash → CallEvent → Left
seen f (kept_power n s budget whole) = left_untorn (geometry n s) budget (answered whole.answer whole.flash)
seen f (cut_off n s budget whole k part t) = left_lost k (tear_next (geometry n s) t (next_after check_of (geometry n s) f k) part.flash)

-- The lists that 01 allows from the flash f: each power-up finds what the last one left, and none comes after the finish.
abbrev pub AllowedCalls : Exchange → Geometry → Flash → List CallEvent → Type 0
AllowedCalls x g f es = Along (flash_left seen) (λ before e after. (¬ Finished x g before) × Happens g before e) f es

-- Demand 3: from every start, every such list is safe. The old sectors are those of the list's first flash.
abbrev pub Demand3 : Type 0
Demand3 =
    (x : Exchange) (g : Geometry) (f : Flash) → Starts check_of x g f → (es : List CallEvent) → AllowedCalls x g f es
    → Safe check_of seen x g f f 0 es

-- The same of an exchange that is under way, a moves along.
abbrev pub Demand3Ongoing : Type 0
Demand3Ongoing =
    (x : Exchange) (g : Geometry) (old f : Flash) (a : ℕ) → Ongoing check_of x g old f a → (es : List CallEvent) → AllowedCalls x g f es
    → Safe check_of seen x g old f a es
