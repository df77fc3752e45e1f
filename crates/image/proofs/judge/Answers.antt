use mathlib.Core.Path.{sym, ◌∙◌}
use Rattle.header_reader.proofs.Answers.{located}
use Rattle.image.proofs.Laws.{handed_on}
use Rattle.image.proofs.Verdicts.{by_located, bad_header_lem}
use Rattle.image.proofs.judge.Goals as goal

pub returns-in_err-places : goal.returns-in_err-places
returns-in_err-places c = handed_on _ _ c.from_residual.ensures.1 ∙ bad_header_lem c.args.b.now c.in_err-places.ensures

pub judge_at-requires : goal.judge_at-requires
judge_at-requires c =
    let w = located c.args.b.now _ (sym c.in_ok-places.ensures) in
    (w.room, w.within)

pub returns : goal.returns
returns c = by_located c.args.b.now c.in_ok-places.ensures c.judge_at.ensures
