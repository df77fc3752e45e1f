use native.Mathlib.Omega.{arith}
use Rattle.flash.proofs.Answers.{limits_given, partition_outside, partition_unequal, partition_equal}
use Rattle.flash.proofs.check_partition.Goals as goal

pub partition_size-requires : goal.partition_size-requires
partition_size-requires c = let a = c.args in limits_given a.sectors a.size _ c.in_ok-g.ensures

pub returns-then-partition-partition_size : goal.returns-then-partition-partition_size
returns-then-partition-partition_size c =
    let a = c.args in
    partition_unequal a.sectors a.size a.partition.now _ c.in_ok-g.ensures (λ e. omega arith)

pub returns : goal.returns
returns c =
    let a = c.args in
    partition_equal a.sectors a.size a.partition.now _ c.in_ok-g.ensures (omega arith)

pub returns-in_err-g : goal.returns-in_err-g
returns-in_err-g c =
    let a = c.args in
    rw c.from_residual.ensures (partition_outside a.sectors a.size a.partition.now c.in_err-g.ensures)
