use mathlib.Core.Path.{sym, ◌∙◌}
use native.Mathlib.Omega.{arith}
use Rattle.header_reader.proofs.Answers.{short, no_magic, no_size, by_tags}
use Rattle.header_reader.proofs.locate.Goals as goal

pub returns-then-s-lt-HEADER_LENGTH : goal.returns-then-s-lt-HEADER_LENGTH
returns-then-s-lt-HEADER_LENGTH c = sym (short c.args.s.now (omega arith))

pub returns-then-read_u32-ne-MAGIC : goal.returns-then-read_u32-ne-MAGIC
returns-then-read_u32-ne-MAGIC c = sym (no_magic c.args.s.now (omega arith) c.read_u32.ensures c.if-read_u32-ne-MAGIC.true)

pub returns-then-read_u32-eq0 : goal.returns-then-read_u32-eq0
returns-then-read_u32-eq0 c =
    sym (no_size c.args.s.now (omega arith) c.read_u32.ensures c.if-read_u32-ne-MAGIC.false c.read_u32-2.ensures c.if-read_u32-eq0.true)

pub returns : goal.returns
returns c =
    c.find_places.ensures
    ∙ sym (by_tags c.args.s.now (omega arith) c.read_u32.ensures c.if-read_u32-ne-MAGIC.false c.read_u32-2.ensures c.if-read_u32-eq0.false)
