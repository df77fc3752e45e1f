use mathlib.Core.Path.{◌≡◌}
use Prim.Native.Nat.{◌≤◌}
use Rattle.flash.specs.Sizes.{firmware}
use Rattle.mending_images.specs.Lent.{hash_of}
use Rattle.mending_images.proofs.claimed_image.ClaimedImage.hash_rest.Given as goal

abbrev pub invariant-loop-i : goal.invariant-loop-i
invariant-loop-i l = (l.i ≤ firmware l.self.flash.now.geometry) × (l.h ≡ hash_of l.self l.mark l.i)
