use Rattle.std.proofs.Common.{refl, ap₂, rules}
use Rattle.digest_fips180.specs.Sha256.{◌⊕◌, Σ₁}
use Rattle.digest_rounds.proofs.Bits.{two_rotations}
use Rattle.digest_rounds.proofs.big_sigma1.Goals as goal

pub returns : goal.returns
unfolding Σ₁
returns c = ap₂ ◌⊕◌ (two_rotations c.args.x 6 5 21 refl (search rules) c.rotate_right.ensures c.rotate_right-2.ensures) c.rotate_right-3.ensures
