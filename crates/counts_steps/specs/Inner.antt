-- What the functions of this crate require and answer.
use Rattle.std.specs.Prelude.{◌≡◌, List, ℕ, Option, Some, None}
use Rattle.flash.specs.declared.Geometry.{Geometry}
use Rattle.flash.specs.Buffers.{Flash}
use Rattle.exchange.specs.declared.Operation.{Operation}
use Rattle.exchange.specs.declared.Job.{Job}
use Rattle.exchange_front.specs.declared.Progress.{Progress}
use Rattle.exchange_steps.specs.declared.StepAnswer.{StepAnswer}
use Rattle.exchange_steps.specs.Inner.{Steps}
use Rattle.counts.specs.Row.{slot, raise}
use Rattle.counts_row.specs.Inner.{RoomFor}

-- the row after a step: an erase raises its place
abbrev pub raise_next : Geometry → Option Operation → List ℕ → List ℕ
raise_next g None row = row
raise_next g (Some o) row = raise (slot g o) row

-- the place of the next operation can be raised within 32 bits
abbrev pub RoomForNext : Geometry → Option Operation → List ℕ → Type 0
RoomForNext g None row = Unit {0}
RoomForNext g (Some o) row = RoomFor (slot g o) row

-- The contract of `do_next_counted`: the single step, with its own contract, and the row raised by what this step did and by nothing else.
pub record CountedSteps (job : Job) (g : Geometry) (at : Progress) (f : Flash) (row : List ℕ) (r : StepAnswer) (f' : Flash) (row' : List ℕ) : Type 0 where
  pub steps : Steps job g at f r f'
  pub counts : row' ≡ raise_next g r.done row
