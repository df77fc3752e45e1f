use Rattle.std.proofs.Common.{refl, ap₂, rules}
use Rattle.digest_fips180.specs.Sha256.{◌⊕◌, Σ₀}
use Rattle.digest_rounds.proofs.Bits.{two_rotations}
use Rattle.digest_rounds.proofs.big_sigma0.Goals as goal

pub returns : goal.returns
unfolding Σ₀
returns c = ap₂ ◌⊕◌ (two_rotations c.args.x 2 11 19 refl (search rules) c.rotate_right.ensures c.rotate_right-2.ensures) c.rotate_right-3.ensures
