use Rattle.std.proofs.Common.{◌∙◌, ltb, length, rules}
use Rattle.std.proofs.lemmas.Iterator.{YieldsList-from_slice}
use Rattle.std.proofs.lemmas.Iterator.Search.{all_from_yields_List}
use borrow.Author.Tests.{eq-eqb}
use Rattle.release_digits.specs.Digits.{all_hex, hex_digit}
use Rattle.release_digits.proofs.Laws.{digit_told}
use Rattle.release_digits.proofs.is_hex.Goals as goal

pub returns-then-s-n : goal.returns-then-s-n
unfolding all_hex
returns-then-s-n c =
    let xs = c.args.s.now in
    let e = all_from_yields_List (λ k. ltb (hex_digit k) 16) _ _ c.all.result c.all.ensures.ran (YieldsList-from_slice xs (cc)) (λ x b q k. search (rules, digit_told)) in
    e ∙ rw (eq-eqb (length xs) c.args.n c.if-s-n.true)
