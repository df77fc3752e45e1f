-- Numbers as bytes and back, once over the width. Assumes nothing.
use mathlib.Core.Path.{◌≡◌, refl, ap}
use Prim.Native.Nat.{ℕ, zero, suc, ◌+◌, ◌*◌, ◌/◌, ◌%◌, ◌^◌, ◌<◌}
use mathlib.Core.List.{List, [], ◌∷◌}
use lib.ListN.{length}
use native.Mathlib.Omega.{arith}
use native.Mathlib.Nat.{pow-suc}
use Rattle.header_tags.specs.Bytes.{AllBytes, little_endian, number}

-- a number that fits n bytes is read back from them
pub number_back : (n v : ℕ) → v < 256 ^ n → number (little_endian n v) ≡ v
number_back zero v h = omega arith
number_back (suc n) v h =
    let e : 256 ^ suc n ≡ 256 ^ n * 256 = pow-suc 256 n in
    omega (arith, number_back n (v / 256) (omega arith))

-- and n bytes from the number that they are
pub bytes_back : (l : List ℕ) (n : ℕ) → AllBytes l → length l ≡ n → little_endian n (number l) ≡ l
bytes_back [] zero h e = refl
bytes_back [] (suc n) h e = absurd (omega arith)
bytes_back (b ∷ l) zero h e = absurd (omega arith)
bytes_back (b ∷ l) (suc n) h e =
    let low : (b + 256 * number l) % 256 ≡ b = omega (arith, h 0) in
    let high : (b + 256 * number l) / 256 ≡ number l = omega (arith, h 0) in
    rw (low, high) (ap (λ (m : List ℕ). b ∷ m) (bytes_back l n (λ i. h (suc i)) (omega arith)))
