-- What the functions of this crate require and answer.
use Rattle.std.specs.Prelude.{◌≡◌, ℕ, ◌-◌, ◌<◌}
use Rattle.flash.specs.declared.Geometry.{Geometry}
use Rattle.flash.specs.Sizes.{firmware}
use Rattle.flash.specs.Buffers.{Flash}
use Rattle.exchange.specs.declared.Job.{Job}
use Rattle.exchange.specs.declared.Operation.{Operation}
use Rattle.exchange.specs.declared.Operation.TheVariants.{Erase, Copy, WriteFlag, EraseBootTrailer, EraseUpdateTrailer, WriteBootStatus, WriteUpdateStatus}
use Rattle.exchange.specs.Order as order
use Rattle.exchange_front.specs.declared.Progress.{Progress}
use Rattle.exchange_front.specs.Inner.{handed_on}
use Rattle.exchange_front.specs.Carried.{progress_scanned, next_at, Current}
use Rattle.exchange_steps.specs.declared.StepAnswer.{StepAnswer}

-- the operation's sector, if it has one, is a firmware sector
abbrev pub SectorWithin : Geometry → Operation → Type 0
SectorWithin g (Erase a i) = i.0 < firmware g
SectorWithin g (Copy leg i) = i.0 < firmware g
SectorWithin g (WriteFlag i v) = i.0 < firmware g
SectorWithin g EraseBootTrailer = Unit {0}
SectorWithin g EraseUpdateTrailer = Unit {0}
SectorWithin g (WriteBootStatus v) = Unit {0}
SectorWithin g (WriteUpdateStatus v) = Unit {0}

-- a step, with the flash that it leaves
abbrev pub stepped : StepAnswer → Flash → order.Step
stepped r f = record { next = r.done; flash = f }

-- a run of steps from a budget, by what is carried at its end, with the flash that it leaves: the count is what the budget has lost
abbrev pub ran : ℕ → Progress → Flash → order.Run
ran budget at f = record { count = budget - at.left; phase = at.phase; flash = f }

-- The contract of `do_next`: handed what is carried and the flash f, it gives this answer and leaves the flash f'.
pub record Steps (job : Job) (g : Geometry) (at : Progress) (f : Flash) (r : StepAnswer) (f' : Flash) : Type 0 where
  -- whatever number is handed over as the front: the next operation is found by the flag there and no other, it is done, and what is handed
  -- on follows from it, with no look at the bytes
  pub found : r.done ≡ next_at job g at f.boot f.update
  pub done : f' ≡ order.perform_next g r.done f
  pub handed : r.progress ≡ handed_on r.done at
  -- handed the true front: it is the step of the rules, and the front that is handed on is what the scan gives of the bytes that are left
  pub ruled : Current g f.update at → stepped r f' ≡ order.step job g at.phase f
  pub scanned : Current g f.update at → r.progress ≡ progress_scanned g f'.update r.done at
