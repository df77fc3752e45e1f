use Rattle.std.proofs.Common.{◌∙◌}
use Rattle.digest_fips180.specs.Sha256.{H0}
use Rattle.digest_sha256.proofs.Concatenation.{digest_law}
use Rattle.digest_sha256.proofs.digest.Goals as goal

pub returns : goal.returns
unfolding H0
returns c = c.digest_from.ensures ∙ digest_law c.args.message.now
