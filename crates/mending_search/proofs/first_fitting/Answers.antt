use mathlib.Core.Path.{sym, ap, ◌∙◌}
use native.Mathlib.Omega.{arith}
use Rattle.std.specs.Prelude.{Option}
use Rattle.numbers.specs.Answer.{refused}
use Rattle.flash.specs.Sizes.{firmware}
use Rattle.flash.proofs.Checked.{some_firmware}
use Rattle.image.specs.Verdict.{check_of}
use Rattle.mending.specs.declared.Mark.{Mark}
use Rattle.mending.specs.OldImages.{fits_mark}
use Rattle.mending_images.specs.Lent.{lent_flash}
use Rattle.mending_search.specs.Search.{found_or}
use Rattle.mending_search.proofs.Turns.{none_fits}
use Rattle.mending_search.proofs.Behind.{none_behind}
use Rattle.mending_search.proofs.first_fitting.Goals as goal

pub returns-in_err-u : goal.returns-in_err-u
returns-in_err-u c =
    let f = c.args.flash.now in
    let g = f.geometry in
    ap (λ (r : Option Mark). found_or r (refused 17 0)) c.from_residual.ensures
    ∙ none_fits (fits_mark check_of g (lent_flash f)) (firmware g) 3 (omega (arith, some_firmware g f.shaped.limits))
    (none_behind g (lent_flash f) f.shaped (sym c.in_err-u.was ∙ c.read_claims.ensures))
    ∙ c.in_default.ensures
