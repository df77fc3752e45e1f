use mathlib.Core.Path.{sym, ◌∙◌}
use native.Mathlib.Omega.{arith}
use Rattle.flash.specs.Sizes.{firmware}
use Rattle.flash.proofs.Checked.{some_firmware}
use Rattle.image.specs.Verdict.{check_of}
use Rattle.mending.specs.OldImages.{fits_mark}
use Rattle.mending_images.specs.Lent.{lent_flash}
use Rattle.mending_search.proofs.Turns.{fits_here, not_here, of_sectors}
use Rattle.mending_search.proofs.search_first.Goals as goal

pub mark_after-mark-requires : goal.mark_after-mark-requires
mark_after-mark-requires c =
    let f = c.args.flash.now in omega (arith, c.firmware_sectors-m.ensures, some_firmware f.geometry f.shaped.limits)

pub returns-then-fits : goal.returns-then-fits
returns-then-fits c =
    let f = c.args.flash.now in
    let n = c.firmware_sectors-m in
    let moves = c.loop-moves.moves in
    let k = c.mark_after-mark.result in
    let w = of_sectors n.result (firmware f.geometry) moves k n.ensures c.mark_after-mark.ensures in
    fits_here (fits_mark check_of f.geometry (lent_flash f)) (firmware f.geometry) moves k w.0 w.1 (sym c.fits.ensures ∙ c.if-fits.true)
    ∙ c.loop-moves.invariant

pub loop-moves-preserved : goal.loop-moves-preserved
loop-moves-preserved c =
    let f = c.args.flash.now in
    let n = c.firmware_sectors-m in
    let moves = c.loop-moves.moves in
    let k = c.mark_after-mark.result in
    let w = of_sectors n.result (firmware f.geometry) moves k n.ensures c.mark_after-mark.ensures in
    not_here (fits_mark check_of f.geometry (lent_flash f)) (firmware f.geometry) moves k w.0 w.1 (sym c.fits.ensures ∙ c.if-fits.false)
    ∙ c.loop-moves.invariant
