use native.Mathlib.Omega.{arith}
use Rattle.flash_sectors.proofs.Lent.{part_copied}
use Rattle.flash_sectors.proofs.copy_to_swap.Goals as goal

pub returns : goal.returns
returns c =
    let o = c.offset_of-start in
    let a = c.args in
    part_copied a.g.size a.partition.now a.swap.now o.ensures.is (omega arith) c.requires.2 c.copy.ensures
