-- A number's decimal digits. Assumes nothing.
use mathlib.Core.Path.{◌≡◌, refl, ap}
use Prim.Native.Nat.{ℕ, zero, suc, ◌-◌, ◌/◌, ◌^◌, ◌≤◌, ◌<◌}
use mathlib.Core.Bool.{Bool, true, false}
use native.Mathlib.Omega.{arith}
use native.Mathlib.Nat.{pow-suc, pow-le-pow_right, div-lt_iff_lt-mul, le-div_iff_mul-le, div-lt_self}
use native.Mathlib.Numerals.{unary_clauses}
use borrow.Author.Tests.{ltb-true, ltb-false}
use lib.Dec.{ltb}
use Rattle.io.specs.Digits.{last_digits, IsDigitCount}
use Rattle.listing_lines.specs.Lines.{digits_within, digit_count, FewestDigits, decimal}

-- one digit more than a tenth of the number
more : (n k : ℕ) → 10 ≤ n → IsDigitCount 10 1 (n / 10) k → IsDigitCount 10 1 n (suc k)
more n zero big f = absurd (omega (arith, f.0))
more n (suc zero) big f = (omega arith, omega (arith, f.1), λ h. big)
more n (suc (suc k)) big f =
    let low = (le-div_iff_mul-le {k = 10} {x = 10 ^ (suc (suc k) - 1)} {y = n} (omega arith)).0 (f.2 (omega arith)) in
    let high = (div-lt_iff_lt-mul {k = 10} {x = n} {y = 10 ^ suc (suc k)} (omega arith)).0 f.1 in
    (omega arith, rw (pow-suc 10 (suc (suc k))) high, λ h. simp unary_clauses (simp unary_clauses at low))

within : (most n : ℕ) → n ≤ most → IsDigitCount 10 1 n (digits_within most n)
unfolding digits_within
within zero n le = (omega arith, omega arith, λ h. omega arith)
within (suc most) n le =
    go (ltb n 10) refl (λ big. within most (n / 10) (omega (arith, div-lt_self {n = n} {k = 10} (omega arith) (omega arith))))
  where
    go : (b : Bool) → ltb n 10 ≡ b → (10 ≤ n → IsDigitCount 10 1 (n / 10) (digits_within most (n / 10)))
        → IsDigitCount 10 1 n (elim b [ true ↦ 1 | false ↦ suc (digits_within most (n / 10)) ])
    go true e tenth = let small = ltb-true n 10 e in (omega arith, omega arith, λ h. omega arith)
    go false e tenth = let big = ltb-false n 10 e in more n (digits_within most (n / 10)) big (tenth big)

pub fewest_digits : FewestDigits
fewest_digits n = within n n (omega arith)

-- of two numbers of digits that are the fewest none is larger
larger : (n j k : ℕ) → IsDigitCount 10 1 n j → IsDigitCount 10 1 n k → k < j → ⊥
larger n j k f g h =
    let low = f.2 (omega (arith, g.0)) in
    let grows = pow-le-pow_right {n = 10} (omega arith) {i = k} {j = j - 1} (omega arith) in
    omega (arith, g.1)

pub is_decimal : (n k : ℕ) → IsDigitCount 10 1 n k → last_digits 10 k n ≡ decimal n
unfolding decimal
is_decimal n k f =
    let few = fewest_digits n in
    let same : k ≡ digit_count n = omega (arith, larger n k (digit_count n) f few, larger n (digit_count n) k few f) in
    ap (λ (m : ℕ). last_digits 10 m n) same
