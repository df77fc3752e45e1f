use mathlib.Core.Path.{refl}
use native.Mathlib.Omega.{arith}
use lib.Dec.{lit<}
use lib.Seq.{length-take-le}
use Rattle.image.proofs.Verdicts.{wrong_digest_lem, good}
use Rattle.image.proofs.judge_at.Goals as goal

-- the places of the digest and of the signature lie within the header; that the digest's is the one compared is told where it returns
pub slice_bounds-has_digest-end-3 : goal.slice_bounds-has_digest-end-3
slice_bounds-has_digest-end-3 c =
    omega (arith, c.requires.1.fits 2 (lit< tt), c.requires.1.fits 3 (lit< tt), length-take-le 256 c.args.b.now c.requires.0)

pub returns-then-has_digest : goal.returns-then-has_digest
returns-then-has_digest c =
    good c.args.b.now c.args.places c.read_u32-size.ensures (omega arith) refl c.has_digest.ensures c.if-has_digest.true c.read_release.ensures

pub returns : goal.returns
returns c =
    wrong_digest_lem c.args.b.now c.args.places c.read_u32-size.ensures (omega arith) refl c.has_digest.ensures c.if-has_digest.false
