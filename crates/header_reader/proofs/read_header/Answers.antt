use mathlib.Core.Path.{sym, ap, ◌∙◌}
use lib.Seq.{length-take-le}
use Rattle.numbers.specs.Answer.{gives}
use Rattle.header_reader.proofs.Answers.{located, by_places, handed_on}
use Rattle.header_reader.proofs.read_header.Goals as goal

pub returns-in_err-places : goal.returns-in_err-places
returns-in_err-places c = handed_on c.args.s.now _ _ c.from_residual.ensures.1 c.in_err-places.ensures

pub slice_bounds-read_values-end : goal.slice_bounds-read_values-end
slice_bounds-read_values-end c =
    let s = c.args.s.now in
    let w = located s _ (sym c.in_ok-places.ensures) in
    sym (length-take-le 256 s w.room)

pub read_values-requires : goal.read_values-requires
read_values-requires c =
    let s = c.args.s.now in
    let w = located s _ (sym c.in_ok-places.ensures) in
    rw (length-take-le 256 s w.room) w.within

pub returns : goal.returns
returns c = ap gives c.read_values.ensures ∙ sym (by_places c.args.s.now (sym c.in_ok-places.ensures))
