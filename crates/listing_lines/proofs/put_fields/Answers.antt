use Rattle.listing_lines.proofs.Putting.{puts_fields}
use Rattle.listing_lines.proofs.put_fields.Goals as goal

pub returns-clause-puts : goal.returns-clause-puts
returns-clause-puts c =
    puts_fields {p₁ = c.put_line-at.result} {p₂ = c.put_line-at-2.result} {p₃ = c.put_line-at-3.result} {p₄ = c.put_line-at-4.result} {p₅ = c.put_hint.result} c.args.v
    c.put_line-at.ensures.puts c.put_line-at-2.ensures.puts c.put_line-at-3.ensures.puts c.put_line-at-4.ensures.puts c.put_hint.ensures.puts
