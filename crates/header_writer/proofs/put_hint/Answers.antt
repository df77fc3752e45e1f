use Rattle.header_writer.proofs.Putting.{puts_hint, puts_no_hint}
use Rattle.header_writer.proofs.put_hint.Goals as goal

pub returns-then-v : goal.returns-then-v
returns-then-v c = puts_hint c.args.v.hint c.if-v.true c.put_tag.ensures

pub returns-else-v : goal.returns-else-v
returns-else-v c = puts_no_hint c.args.v.hint c.if-v.false
