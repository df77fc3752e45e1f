-- That each entry of a list is a byte, by a test. Assumes nothing.
use mathlib.Core.Path.{◌≡◌}
use Prim.Native.Nat.{ℕ, zero, suc}
use mathlib.Core.Bool.{Bool, true, ◌&&◌}
use mathlib.Core.List.{List, [], ◌∷◌}
use lib.Dec.{ltb, lit<}
use borrow.Author.Tests.{ltb-true}
use Rattle.numbers.proofs.Tests.{both}
use Rattle.header_tags.specs.Bytes.{AllBytes}

abbrev pub byte_test : List ℕ → Bool
byte_test [] = true
byte_test (b ∷ l) = ltb b 256 && byte_test l

pub tested_bytes : (l : List ℕ) → byte_test l ≡ true → AllBytes l
tested_bytes [] e i = lit< tt
tested_bytes (b ∷ l) e zero = ltb-true b 256 (both (ltb b 256) (byte_test l) e).0
tested_bytes (b ∷ l) e (suc i) = tested_bytes l (both (ltb b 256) (byte_test l) e).1 i
