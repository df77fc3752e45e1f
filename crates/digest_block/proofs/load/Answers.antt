use Rattle.std.proofs.Common.{rules}
use Rattle.digest_fips180.specs.Sha256.{word, words}
use Rattle.digest_fips180.proofs.First.{from_fn_made}
use Rattle.digest_block.proofs.load.Goals as goal

pub returns : goal.returns
unfolding words
returns c = from_fn_made (word c.args.b.now) (λ i x d called. search rules) c.from_fn.ensures.items
