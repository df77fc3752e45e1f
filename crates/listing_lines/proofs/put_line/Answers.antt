use Rattle.output.proofs.Laws.{puts_then}
use Rattle.listing_lines.proofs.put_line.Goals as goal

pub returns-clause-puts : goal.returns-clause-puts
returns-clause-puts c = puts_then c.put_named-at.ensures.puts c.put.ensures
