use Rattle.std.proofs.Common.{◌+◌, ◌-◌, ◌*◌, sym, ◌∙◌, arith}
use lib.ListN.{get_or}
use lib.Dec.{leb}
use borrow.Author.Tests.{leb-true, eqb-false}
use Rattle.numbers.proofs.Tests.{first_of, second_of}
use Rattle.release_digits.proofs.Laws.{one_read, refuses, all_read}
use Rattle.release_digits.specs.Digits.{is_digit}
use Rattle.release_digits.proofs.decimal.Goals as goal

pub returns-in_err-n : goal.returns-in_err-n
returns-in_err-n c =
    rw c.from_residual.ensures (refuses c.loop-c.invariant.1 (omega arith) c.args.most c.in_err-n.ensures)

pub loop-c-preserved : goal.loop-c-preserved
loop-c-preserved c =
    let l = c.loop-c in
    let w = c.in_ok-n.ensures in
    let here = get_or c.args.s.now l.c-index 0 in
    let k = leb-true (10 * l.n + (here - 48)) c.args.most (second_of (is_digit here) (leb (10 * l.n + (here - 48)) c.args.most) w.0) in
    let d = first_of (is_digit here) (leb (10 * l.n + (here - 48)) c.args.most) w.0 in
    rw w.1 (k, one_read l.invariant.1 (omega arith) d)

pub returns : goal.returns
returns c = all_read c.loop-c.invariant.1 (omega arith) c.args.most (omega (arith, eqb-false _ _ (sym c.is_empty.ensures ∙ c.if-is_empty.false))) c.loop-c.invariant.0
