use Rattle.std.proofs.Common.{ℕ, refl, ap, rules}
use Rattle.digest_fips180.specs.Sha256.{◌⊕◌, SHR, σ₀}
use Rattle.digest_rounds.proofs.Bits.{two_rotations}
use Rattle.digest_rounds.proofs.small_sigma0.Goals as goal

pub returns : goal.returns
unfolding σ₀
returns c = ap (λ (r : ℕ). r ⊕ SHR 3 c.args.x) (two_rotations c.args.x 7 11 14 refl (search rules) c.rotate_right.ensures c.rotate_right-2.ensures)
