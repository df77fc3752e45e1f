use mathlib.Core.Path.{sym, ◌∙◌}
use Prim.Native.Nat.{◌*◌}
use native.Mathlib.Omega.{arith}
use Rattle.flash_sectors.proofs.Lent.{copy_whole, mid_length, part_put, part_read}
use Rattle.flash.proofs.Bytes.{length_part}
use Rattle.flash_sectors.proofs.copy_sector.Goals as goal

pub returns : goal.returns
returns c =
    let o = c.offset_of-start in
    let a = c.args in
    part_put a.g.size a.target.now o.ensures.is
    (copy_whole _ _ (mid_length o.result.0 a.g.size a.target.now (omega arith) ∙ sym (mid_length o.result.0 a.g.size a.source.now (omega arith))) c.copy.ensures
    ∙ part_read a.g.size a.source.now o.ensures.is)
    (length_part (a.i.0 * a.g.size) a.g.size a.source.now (omega arith))
