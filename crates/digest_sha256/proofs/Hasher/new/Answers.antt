use Rattle.std.proofs.Common.{refl}
use Rattle.digest_sha256.specs.Parts.{state_of, settle}
use Rattle.digest_fips180.specs.Sha256.{hash, H0}
use Rattle.digest_sha256.proofs.Hasher.new.Goals as goal

pub returns : goal.returns
unfolding state_of settle hash H0
returns c = refl
