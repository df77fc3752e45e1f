use mathlib.Core.Path.{◌∙◌}
use Rattle.header_reader.proofs.Answers.{located}
use Rattle.mending_images.proofs.Stated.{taken, places_are, no_places}
use Rattle.mending_images.proofs.read_claim.Goals as goal

pub returns-in_err-places : goal.returns-in_err-places
returns-in_err-places c =
    c.from_residual.ensures ∙ no_places c.args.limit c.args.first.now c.locate.result c.locate.ensures c.in_err-places.ensures.value

pub claim_at-requires : goal.claim_at-requires
claim_at-requires c =
    let h = c.args.first.now in
    let w = located h _ (places_are c.args.limit h c.locate.result _ c.locate.ensures c.in_ok-places.ensures.value) in
    (w.room, w.within)

pub returns : goal.returns
returns c =
    let h = c.args.first.now in
    c.claim_at.ensures ∙ taken c.args.limit h (places_are c.args.limit h c.locate.result _ c.locate.ensures c.in_ok-places.ensures.value)
