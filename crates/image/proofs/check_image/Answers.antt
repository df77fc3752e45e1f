use mathlib.Core.Path.{sym, ◌∙◌}
use Rattle.flash.proofs.Answers.{partition_given}
use Rattle.image.proofs.Laws.{inside_is, outside_is}
use Rattle.image.proofs.check_image.Goals as goal

pub returns-in_default : goal.returns-in_default
returns-in_default c = let a = c.args in sym (outside_is a.sectors a.size a.partition.now c.in_default.ensures)

pub firmware_part-requires : goal.firmware_part-requires
firmware_part-requires c = let a = c.args in partition_given a.sectors a.size a.partition.now _ c.in-Some.ensures

pub returns : goal.returns
returns c =
    let a = c.args in
    c.check_firmware.ensures ∙ sym (inside_is a.sectors a.size a.partition.now _ c.in-Some.ensures c.firmware_part.ensures)
