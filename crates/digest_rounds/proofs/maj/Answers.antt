use Rattle.digest_rounds.proofs.Bits.{maj_by_differences}
use Rattle.digest_rounds.proofs.maj.Goals as goal

pub returns : goal.returns
returns c = maj_by_differences c.args.x c.args.y c.args.z
