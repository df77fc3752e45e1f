use Rattle.release_digits.proofs.Laws.{Put}
use Rattle.release_digits.proofs.put_hex.Given as goal

abbrev pub invariant-loop-i : goal.invariant-loop-i
invariant-loop-i l = Put l.s l.out l.i
