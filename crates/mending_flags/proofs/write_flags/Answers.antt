use native.Mathlib.Omega.{arith}
use Rattle.mending_flags.proofs.Along.{passed_none, passed_more}
use Rattle.mending_flags.proofs.write_flags.Goals as goal

pub loop-n-init : goal.loop-n-init
loop-n-init c = passed_none c.args.g c.args.mark c.args.update.now

pub loop-n-preserved : goal.loop-n-preserved
loop-n-preserved c =
    let l = c.loop-n in
    let a = c.args in
    passed_more a.g a.mark a.update.now c.requires l.update _ l.count _ l.n l.invariant (omega arith) c.write_byte-count.ensures
