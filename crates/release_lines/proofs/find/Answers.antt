use Rattle.std.proofs.Common.{drop, arith}
use lib.ListN.{length-drop}
use Rattle.release_lines.proofs.Reading.{rest, index_bound}
use Rattle.release_lines.proofs.find.Goals as goal

pub returns-in-None-clause-place : goal.returns-in-None-clause-place
returns-in-None-clause-place c =
    let l = drop c.args.from c.args.text.now in
    let w = rw rest at c.in-None.ensures in
    omega (arith, w, index_bound c.args.b l, length-drop c.args.from c.args.text.now)
