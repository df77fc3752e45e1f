use mathlib.Core.Path.{ap, sym, ◌∙◌}
use Rattle.std.specs.Option.{unwrap_or}
use Rattle.header_sealed.specs.Profile.{first_difference}
use Rattle.header_sealed.proofs.Answers.{form_is, form_taken}
use Rattle.header_sealed.proofs.differs_at.Goals as goal

pub returns-clause-is : goal.returns-clause-is
returns-clause-is c =
    let d = c.first_difference in
    ap (unwrap_or d.result) (sym c.requires.0) ∙ d.ensures.is ∙ ap (first_difference c.args.h.now) (form_is c.args.v c.requires.1 _ c.write_header.ensures)

pub unwrap-requires : goal.unwrap-requires
unwrap-requires c = form_taken c.args.v c.requires.1 c.write_header.result _ c.write_header.ensures
