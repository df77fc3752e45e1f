use Prim.Native.Nat.{ℕ, ◌+◌, ◌-◌, ◌≤◌}
use mathlib.Core.Path.{◌≡◌}
use lib.ListN.{length, get_or}
use Rattle.release_places.proofs.Walking.{Goes}
use Rattle.release_places.proofs.find_values.Given as goal

abbrev pub invariant-loop-at : goal.invariant-loop-at
invariant-loop-at l = (l.at ≤ length l.text + 1) × (l.number ≤ l.at + 1) × (length l.places ≡ 5) × ((i : ℕ) → get_or l.places i 0 ≤ length l.text) × Goes l.text l.places l.at l.number

abbrev pub decreases-loop-at : goal.decreases-loop-at
decreases-loop-at l = length l.text + 1 - l.at
