use Prim.Native.Nat.{◌≤◌}
use Rattle.release_digits.proofs.Laws.{Read}
use Rattle.release_digits.proofs.decimal.Given as goal

abbrev pub invariant-loop-c : goal.invariant-loop-c
invariant-loop-c l = (l.n ≤ l.most) × Read l.s l.n l.c-index
