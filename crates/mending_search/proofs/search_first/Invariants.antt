use mathlib.Core.Path.{◌≡◌}
use Rattle.mending_images.specs.Lent.{lent_flash}
use Rattle.mending_search.specs.Search.{first_from}
use Rattle.mending_search.proofs.search_first.Given as goal

abbrev pub invariant-loop-moves : goal.invariant-loop-moves
invariant-loop-moves l = first_from l.moves l.flash.geometry (lent_flash l.flash) ≡ first_from 0 l.flash.geometry (lent_flash l.flash)
