use mathlib.Core.Path.{◌≡◌}
use Prim.Native.Nat.{◌≤◌}
use Rattle.flash.specs.Buffers.{Shaped}
use Rattle.exchange.specs.Order.{run}
use Rattle.exchange_front.specs.Carried.{Current}
use Rattle.exchange_steps.specs.Lent.{bytes, SameFlash}
use Rattle.exchange_steps.proofs.Runs.{run_left}
use Rattle.exchange_steps.proofs.FlashMut.repeat_step.Given as goal

abbrev pub invariant-loop-at : goal.invariant-loop-at
invariant-loop-at l =
    let g = l.initial.self.geometry in
    (l.at.left ≤ l.budget) × (Shaped g (bytes l.self)) × (Current g l.self.update.now l.at)
    × (run_left l.job g l.budget l.at (bytes l.self) ≡ run l.job g l.budget 0 (bytes l.initial.self))
    × (SameFlash l.initial.self l.self)

abbrev pub decreases-loop-at : goal.decreases-loop-at
decreases-loop-at l = l.at.left
