use mathlib.Core.Path.{◌≡◌}
use Prim.Native.Nat.{◌+◌, ◌/◌}
use Rattle.mending.specs.declared.Mark.TheVariants.{All0}
use Rattle.mending.specs.declared.OldImage.TheVariants.{Boot, Update}
use Rattle.mending_images.specs.Parts.{hash_before}
use Rattle.mending_images.specs.Lent.{lent_flash}
use Rattle.mending_search.specs.Search.{first_from}
use Rattle.mending_search.proofs.search_behind.Given as goal

-- the marks that were tried do not fit; the hash values are those of the sectors before the last of them
abbrev pub invariant-loop-moves : goal.invariant-loop-moves
invariant-loop-moves l =
    (l.d ≡ hash_before l.flash.geometry Update All0 (lent_flash l.flash) l.fn.u (l.moves / 3))
    × (l.e ≡ hash_before l.flash.geometry Boot All0 (lent_flash l.flash) l.fn.b (l.moves / 3))
    × (first_from (l.moves + 1) l.flash.geometry (lent_flash l.flash) ≡ first_from 3 l.flash.geometry (lent_flash l.flash))
