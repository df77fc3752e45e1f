-- A buffer that is written whole. Assumes nothing.
use mathlib.Core.Path.{◌≡◌, ap, ◌∙◌}
use Prim.Native.Nat.{ℕ}
use mathlib.Core.List.{List, [], ◌++◌, append-nil}
use native.Mathlib.Omega.{arith}
use lib.ListN.{length, drop, drop_of_length-le}
use Rattle.output.specs.Puts.{Puts}
use Rattle.output.proofs.Laws.{puts_whole}

pub filled : {d e a : List ℕ} {q : ℕ} → Puts d e 0 a q → length d ≡ length a → e ≡ a
filled {d} {e} {a} x l =
    let none : drop (length a) d ≡ [] = drop_of_length-le d {i = length a} (omega arith) in
    puts_whole x (omega arith) ∙ ap (λ (r : List ℕ). a ++ r) none ∙ append-nil a
