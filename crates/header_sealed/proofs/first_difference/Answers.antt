use borrow.Author.Rules.{rules}
use borrow.Author.Tests.{tests}
use Rattle.std.proofs.lemmas.Iterator.{IsFirst-from_position, YieldsList-from_zip, YieldsList-from_slice}
use Rattle.header_sealed.proofs.Differing.{Same, Differ, found}
use Rattle.header_sealed.proofs.first_difference.Goals as goal

pub returns-clause-is : goal.returns-clause-is
returns-clause-is c =
    let a = c.args.a.now in
    let b = c.args.b.now in
    let pairs = YieldsList-from_zip {s = c.zip.result} (YieldsList-from_slice a cc) (YieldsList-from_slice b cc) in
    found a b c.position.result c.requires
    (IsFirst-from_position c.position.new.self _ _ Differ Same c.position.ensures.ran pairs (λ x q k. search (rules, tests)) (λ x q k. search (rules, tests)))
