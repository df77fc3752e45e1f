use Rattle.counts_row.proofs.Inside.{inside}
use Rattle.counts_row.proofs.count_done.Goals as goal

pub bounds-row-k : goal.bounds-row-k
bounds-row-k c =
    let q = c.requires in
    inside _ q.0 c.args.op _ q.1 c.in-Some.ensures q.2

pub bounds-row-k-in-Some : goal.bounds-row-k-in-Some
bounds-row-k-in-Some c =
    let q = c.requires in
    inside _ q.0 c.args.op _ q.1 c.in-Some.ensures q.2
