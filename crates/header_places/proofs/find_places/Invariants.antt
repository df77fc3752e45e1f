use mathlib.Core.Path.{◌≡◌}
use Prim.Native.Nat.{◌-◌}
use lib.ListN.{length}
use Rattle.header_places.specs.Table.{types_of, lengths_of, table}
use Rattle.header_places.specs.Judging.{places_in}
use Rattle.header_places.proofs.Judged.{Goes}
use Rattle.header_places.proofs.find_places.Given as goal

abbrev pub invariant-loop-tag : goal.invariant-loop-tag
invariant-loop-tag l =
    (length l.rows ≡ 6)
    × (length l.places ≡ 6)
    × Goes (table (types_of l.rows) (lengths_of l.rows) l.required) l.places l.h l.at (places_in (table (types_of l.rows) (lengths_of l.rows) l.required) l.h)

abbrev pub decreases-loop-tag : goal.decreases-loop-tag
decreases-loop-tag l = length l.h - l.at
