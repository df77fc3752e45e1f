use Rattle.listing_lines.proofs.Putting.{puts_named}
use Rattle.listing_lines.proofs.put_named.Goals as goal

pub returns-clause-puts : goal.returns-clause-puts
returns-clause-puts c = puts_named c.args.n c.decimal-k.result c.decimal-k.ensures.len c.decimal-k.ensures.digits c.put-at.ensures c.put.ensures
