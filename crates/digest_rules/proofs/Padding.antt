-- The padding is the standard's.
use mathlib.Core.Path.{◌≡◌}
use mathlib.Core.List.{List, ◌++◌}
use Prim.Native.Nat.{ℕ, ◌+◌, ◌*◌, ◌%◌}
use native.Mathlib.Omega.{arith}
use lib.ListN.{length, replicate, length-append, length-replicate}
use Rattle.digest_fips180.specs.Sha256.{zeros, big_endian, padding, pad}
use Rattle.digest_rules.specs.Rules.{ZeroBits, PaddingRule}

bits : (n : ℕ) → ZeroBits (8 * n) (7 + 8 * zeros n)
unfolding zeros
bits n = record { fills = omega arith; smallest = λ j h. omega arith }

length_padding : (n : ℕ) → length (padding n) ≡ zeros n + 9
unfolding padding big_endian
length_padding n =
    let z : length {A = ℕ} (replicate (zeros n) 0) ≡ zeros n = length-replicate (zeros n) 0 in
    let l : length (replicate (zeros n) 0 ++ big_endian 8 (8 * n)) ≡ length {A = ℕ} (replicate (zeros n) 0) + 8 =
    length-append (replicate (zeros n) 0) (big_endian 8 (8 * n)) in
    omega arith

blocks : (m : List ℕ) → length (pad m) % 64 ≡ 0
unfolding pad zeros
blocks m =
    let l : length (m ++ padding (length m)) ≡ length m + length (padding (length m)) = length-append m (padding (length m)) in
    let p : length (padding (length m)) ≡ zeros (length m) + 9 = length_padding (length m) in
    omega arith

pub padding_rule : PaddingRule
padding_rule = record { bits = bits; blocks = blocks }
