use Rattle.std.proofs.Common.{ℕ, List, rules}
use Rattle.std.proofs.lemmas.Iterator.{YieldsList-from_slice}
use Rattle.std.proofs.lemmas.Iterator.Search.{position_from_yields_List}
use denote.Ref.{Bor}
use Rattle.header_tags.specs.Bytes.{same}
use Rattle.release_lines.proofs.Reading.{compared, found_first, row_is}
use Rattle.release_lines.proofs.row_of.Goals as goal

pub returns : goal.returns
returns c =
    let x = c.args.name.now in
    let e = position_from_yields_List (λ (y : Bor (List ℕ)). same x y.now) _ _ c.position.result c.position.ensures.ran (YieldsList-from_slice _ c.iter.ensures.rest) (λ y b q k. search (rules, compared)) in
    found_first _ _ (rw (row_is x _) at e)
