use Rattle.mending_flags.proofs.Along.{Passed}
use Rattle.mending_flags.proofs.write_flags.Given as goal

abbrev pub invariant-loop-n : goal.invariant-loop-n
invariant-loop-n l = Passed l.g l.mark l.initial.update l.update l.count l.n
