use Rattle.std.proofs.Common.{◌≡◌, ◌*◌}
use Rattle.digest_rounds.specs.Window.{begin, after}
use Rattle.digest_block.proofs.do_rounds.Given as goal

abbrev pub invariant-loop-i : goal.invariant-loop-i
invariant-loop-i l = l.x ≡ after (begin l.fn.m l.fn.h) (16 * l.i)
