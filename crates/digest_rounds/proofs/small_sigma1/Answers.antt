use Rattle.std.proofs.Common.{ℕ, refl, ap, rules}
use Rattle.digest_fips180.specs.Sha256.{◌⊕◌, SHR, σ₁}
use Rattle.digest_rounds.proofs.Bits.{two_rotations}
use Rattle.digest_rounds.proofs.small_sigma1.Goals as goal

pub returns : goal.returns
unfolding σ₁
returns c = ap (λ (r : ℕ). r ⊕ SHR 10 c.args.x) (two_rotations c.args.x 17 2 13 refl (search rules) c.rotate_right.ensures c.rotate_right-2.ensures)
