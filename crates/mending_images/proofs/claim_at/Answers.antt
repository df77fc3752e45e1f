use native.Mathlib.Omega.{arith}
use lib.Dec.{lit<}
use lib.Seq.{length-take-le}
use Rattle.mending_images.proofs.claim_at.Goals as goal

-- the place of the version lies within the header
pub read_u32-requires-2 : goal.read_u32-requires-2
read_u32-requires-2 c = omega (arith, c.requires.1.fits 0 (lit< tt), length-take-le 256 c.args.first.now c.requires.0)
