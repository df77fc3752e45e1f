use Rattle.release_lines.proofs.Reading.{told}
use Rattle.release_lines.proofs.is_hint.Goals as goal

pub returns-then-eq : goal.returns-then-eq
returns-then-eq c = simp (told c.args.s.now c.as_slice.result.now c.eq.ensures c.as_slice.ensures c.if-eq.true) c.if-eq.true

pub returns-else-eq : goal.returns-else-eq
returns-else-eq c = simp (told c.args.s.now c.as_slice.result.now c.eq.ensures c.as_slice.ensures c.if-eq.false) c.is_hex.ensures
