use mathlib.Core.Path.{◌≡◌}
use Prim.Native.Nat.{◌≤◌}
use lib.ListN.{length}
use Rattle.flash.specs.Buffers.{Shaped}
use Rattle.exchange.specs.Order.{run, operations}
use Rattle.exchange_front.specs.Carried.{Current}
use Rattle.exchange_steps.specs.Lent.{bytes, SameFlash}
use Rattle.exchange_steps.proofs.Runs.{run_left}
use Rattle.counts.specs.Row.{raised}
use Rattle.counts_steps.proofs.Counting.{row_to_come}
use Rattle.counts_steps.proofs.repeat_counted.Given as goal

abbrev pub invariant-loop-at : goal.invariant-loop-at
invariant-loop-at l =
    let g = l.initial.f.geometry in
    (l.at.left ≤ l.budget) × (Shaped g (bytes l.f)) × (Current g l.f.update.now l.at)
    × (run_left l.job g l.budget l.at (bytes l.f) ≡ run l.job g l.budget 0 (bytes l.initial.f))
    × (SameFlash l.initial.f l.f) × (length l.row ≡ length l.initial.row)
    × (row_to_come l.job g l.at (bytes l.f) l.row ≡ raised g (operations l.job g l.budget 0 (bytes l.initial.f)) l.initial.row)

abbrev pub decreases-loop-at : goal.decreases-loop-at
decreases-loop-at l = l.at.left
