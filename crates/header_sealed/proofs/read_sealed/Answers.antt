use mathlib.Core.Path.{sym, ap, ◌∙◌}
use Rattle.header_sealed.specs.Profile.{sealing}
use Rattle.header_sealed.proofs.Answers.{whole, by_values, handed_on}
use Rattle.header_sealed.proofs.read_sealed.Goals as goal

pub returns-in_err-v : goal.returns-in_err-v
returns-in_err-v c = handed_on c.args.s.now _ _ c.from_residual.ensures.1 c.in_err-v.ensures

pub slice_bounds-differs_at-end : goal.slice_bounds-differs_at-end
slice_bounds-differs_at-end c = sym (whole c.args.s.now c.in_ok-v.v (sym c.in_ok-v.ensures)).long

pub differs_at-requires : goal.differs_at-requires
differs_at-requires c =
    let w = whole c.args.s.now c.in_ok-v.v (sym c.in_ok-v.ensures) in
    (w.long, w.some)

pub returns : goal.returns
returns c =
    c.judge.ensures ∙ ap (sealing c.in_ok-v.v) c.differs_at.ensures.is ∙ sym (by_values c.args.s.now (sym c.in_ok-v.ensures))
