use Rattle.std.proofs.Common.{rules}
use Rattle.digest_rounds.proofs.Bits.{ch_by_three}
use Rattle.digest_rounds.proofs.ch.Goals as goal

pub returns : goal.returns
returns c = ch_by_three c.args.x c.args.y c.args.z (search rules) (search rules)
