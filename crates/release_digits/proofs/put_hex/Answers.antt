use native.Mathlib.Omega.{arith}
use Prim.Native.Nat.{◌+◌, ◌*◌}
use Rattle.release_digits.proofs.Laws.{one_put, all_put, hex_each, digit_there}
use Rattle.release_digits.proofs.put_hex.Goals as goal

pub unwrap-high-requires : goal.unwrap-high-requires
unwrap-high-requires c = digit_there _ c.hex_digit.ensures (hex_each c.args.s.now (2 * c.loop-i.i) c.requires.1 (omega arith))

pub unwrap-low-requires : goal.unwrap-low-requires
unwrap-low-requires c = digit_there _ c.hex_digit-in-loop-i.ensures (hex_each c.args.s.now (2 * c.loop-i.i + 1) c.requires.1 (omega arith))

pub loop-i-preserved : goal.loop-i-preserved
loop-i-preserved c =
    let high = rw c.unwrap-high.ensures at c.hex_digit.ensures in
    let low = rw c.unwrap-low.ensures at c.hex_digit-in-loop-i.ensures in
    one_put _ c.loop-i.invariant (omega arith) (omega arith) (omega (arith, high.1, low.1))

pub returns : goal.returns
returns c = all_put c.loop-i.invariant (omega arith) (omega arith)
