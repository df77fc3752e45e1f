-- The library's bytes of a number, the highest first, are the standard's.
use Rattle.std.proofs.Common.{◌≡◌, ℕ, zero, suc, ◌*◌, ◌/◌, ◌%◌, ◌^◌, ◌∷◌, refl, sym, ap, ap₂, ◌∙◌, pow-add}
use Rattle.std.specs.Int.{byte_at, bytes_high_first}
use Rattle.std.proofs.Math.Nat.{div-one, pow-suc, mul-suc}
use Rattle.digest_fips180.specs.Sha256.{big_endian}

-- a byte has eight bits
bits_of : (n : ℕ) → 256 ^ n ≡ 2 ^ (8 * n)
bits_of zero = refl
bits_of (suc n) = pow-suc 256 n ∙ ap (λ x. x * 256) (bits_of n) ∙ sym (ap (λ x. 2 ^ x) (mul-suc 8 n) ∙ pow-add 2 (8 * n) 8)

byte_is : (i x : ℕ) → byte_at i x ≡ x / 2 ^ (8 * i) % 256
byte_is zero x = ap (λ y. y % 256) (sym (div-one x))
byte_is (suc i) x = ap (λ p. x / p % 256) (bits_of (suc i))

pub bytes_are : (n x : ℕ) → bytes_high_first n x ≡ big_endian n x
unfolding big_endian
bytes_are zero x = refl
bytes_are (suc n) x = ap₂ ◌∷◌ (byte_is n x) (bytes_are n x)
