use Rattle.header_writer.proofs.Putting.{puts_end}
use Rattle.header_writer.proofs.put_end.Goals as goal

pub returns : goal.returns
returns c = puts_end c.requires.0 c.requires.1 c.put-behind.ensures (c.fill.ensures.after (λ y e. e))
