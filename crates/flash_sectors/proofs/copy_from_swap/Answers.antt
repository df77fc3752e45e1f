use mathlib.Core.Path.{sym, ◌∙◌}
use native.Mathlib.Omega.{arith}
use Rattle.flash_sectors.proofs.Lent.{copy_whole, mid_length, part_put}
use Rattle.flash_sectors.proofs.copy_from_swap.Goals as goal

pub returns : goal.returns
returns c =
    let o = c.offset_of-start in
    let a = c.args in
    part_put a.g.size a.partition.now o.ensures.is
    (copy_whole _ _ (mid_length o.result.0 a.g.size a.partition.now (omega arith) ∙ sym c.requires.2) c.copy.ensures) c.requires.2
