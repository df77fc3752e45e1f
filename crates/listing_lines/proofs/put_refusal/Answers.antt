use Rattle.listing_lines.proofs.Putting.{puts_refusal}
use Rattle.listing_lines.proofs.put_refusal.Goals as goal

pub returns-clause-puts : goal.returns-clause-puts
returns-clause-puts c = puts_refusal {q = c.put_named-at.result} {r = c.put_line.result} c.args.number c.args.place c.put_named-at.ensures.puts c.put_line.ensures.puts
