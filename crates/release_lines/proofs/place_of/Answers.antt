use Rattle.std.proofs.Common.{eqb, rules, tests}
use Rattle.std.proofs.lemmas.Iterator.{YieldsList-from_slice}
use Rattle.std.proofs.lemmas.Iterator.Search.{position_from_yields_List}
use Rattle.release_lines.proofs.Reading.{found_first, place_is}
use Rattle.release_lines.proofs.place_of.Goals as goal

pub returns : goal.returns
returns c =
    let e = position_from_yields_List (λ k. eqb k c.args.b) _ _ c.position.result c.position.ensures.ran (YieldsList-from_slice _ c.iter.ensures.rest) (λ x k q t. search (rules, tests)) in
    found_first _ _ (rw (place_is c.args.b c.args.text.now) at e)
