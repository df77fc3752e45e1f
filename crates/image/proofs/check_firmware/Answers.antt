use mathlib.Core.Path.{sym, ◌∙◌}
use Rattle.image.proofs.Laws.{handed_on}
use Rattle.image.proofs.Verdicts.{told}
use Rattle.image.proofs.check_firmware.Goals as goal

pub returns-in_err-read_header : goal.returns-in_err-read_header
returns-in_err-read_header c =
    handed_on _ _ c.from_residual-in_err-read_header.ensures.1 ∙ c.in_err-read_header.ensures ∙ sym (told c.args.b.now c.in_ok-judge.ensures)

pub returns : goal.returns
returns c = c.in_ok-read_header.ensures ∙ sym (told c.args.b.now c.in_ok-judge.ensures)
