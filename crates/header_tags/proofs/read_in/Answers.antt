use mathlib.Core.Path.{◌∙◌}
use native.Mathlib.Omega.{arith}
use Rattle.header_tags.proofs.Laws.{walk_short, walk_header}
use Rattle.header_tags.proofs.read_in.Goals as goal

pub returns-then-s-lt-HEADER_LENGTH : goal.returns-then-s-lt-HEADER_LENGTH
returns-then-s-lt-HEADER_LENGTH c = walk_short _ _ (omega arith)

pub returns : goal.returns
returns c = c.read_tag.ensures ∙ walk_header _ _ (omega arith)
