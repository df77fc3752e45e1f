use Rattle.std.proofs.Common.{refl, arith}
use Rattle.output.proofs.Laws.{puts_copied}
use Rattle.output.proofs.put.Goals as goal

pub returns : goal.returns
returns c = puts_copied c.args.out.now c.args.b.now _ c.args.at _ _ c.requires (omega arith) refl c.copy_from_slice.ensures.after
