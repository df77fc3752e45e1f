-- Rules that the standard gives beside its definitions, and its examples, as types. `proofs/` has a value of each.
use Rattle.std.specs.Prelude.{◌≡◌, List, [], ◌∷◌, ℕ, ◌+◌, ◌*◌, ◌%◌, ◌^◌, ◌≤◌, ◌<◌, length}
use Rattle.digest_fips180.specs.Sha256.{◌!◌, K, H0, zeros, pad, sha256}

-- ---- 5.1.1, the padding in bits, as the standard has it.

-- 5.1.1: k is the smallest number of zero bits with l + 1 + k = 448 modulo 512, for a message of l bits.
pub record ZeroBits (l k : ℕ) : Type 0 where
  pub fills : (l + 1 + k) % 512 ≡ 448
  pub smallest : (j : ℕ) → (l + 1 + j) % 512 ≡ 448 → k ≤ j

-- 5.1.1, as our bytes have it: seven zero bits stand in the byte 0x80, and eight in each zero byte; and the padded message is whole
-- blocks.
pub record PaddingRule : Type 0 where
  pub bits : (n : ℕ) → ZeroBits (8 * n) (7 + 8 * zeros n)
  pub blocks : (m : List ℕ) → length (pad m) % 64 ≡ 0

-- ---- 4.2.2 and 5.3.3, the rule of the constants.

-- A prime, as 4.2.2 and 5.3.3 speak of the first ones: p is at least 2, and no number from 2 to p - 1 divides it.
pub record Prime (p : ℕ) : Type 0 where
  pub least : 2 ≤ p
  pub only : (d : ℕ) → 2 ≤ d → d < p → p % d ≡ 0 → ⊥

-- The order of the primes: q is the first prime above p.
pub record NextPrime (p q : ℕ) : Type 0 where
  pub above : p < q
  pub prime : Prime q
  pub none : (d : ℕ) → p < d → d < q → Prime d → ⊥

-- 4.2.2, the first 64 primes.
unfoldable pub primes : List ℕ
primes =
    2 ∷ 3 ∷ 5 ∷ 7 ∷ 11 ∷ 13 ∷ 17 ∷ 19 ∷ 23 ∷ 29 ∷ 31 ∷ 37 ∷ 41 ∷ 43 ∷ 47 ∷ 53 ∷
    59 ∷ 61 ∷ 67 ∷ 71 ∷ 73 ∷ 79 ∷ 83 ∷ 89 ∷ 97 ∷ 101 ∷ 103 ∷ 107 ∷ 109 ∷ 113 ∷ 127 ∷ 131 ∷
    137 ∷ 139 ∷ 149 ∷ 151 ∷ 157 ∷ 163 ∷ 167 ∷ 173 ∷ 179 ∷ 181 ∷ 191 ∷ 193 ∷ 197 ∷ 199 ∷ 211 ∷ 223 ∷
    227 ∷ 229 ∷ 233 ∷ 239 ∷ 241 ∷ 251 ∷ 257 ∷ 263 ∷ 269 ∷ 271 ∷ 277 ∷ 281 ∷ 283 ∷ 293 ∷ 307 ∷ 311 ∷ []

-- They are these: the first prime above 0, and then each time the next.
pub record FirstPrimes : Type 0 where
  pub first : NextPrime 0 (primes ! 0)
  pub next : (t : ℕ) → t < 63 → NextPrime (primes ! t) (primes ! (t + 1))

-- 4.2.2 and 5.3.3: k is the first 32 bits of the fractional part of the e-th root of p: for the root's whole part, whole * 2^32 + k is
-- the root times 2^32, rounded down.
pub record Fraction (e p k : ℕ) : Type 0 where
  pub whole : ℕ
  pub small : k < 2 ^ 32
  pub below : (whole * 2 ^ 32 + k) ^ e ≤ p * (2 ^ 32) ^ e
  pub above : p * (2 ^ 32) ^ e < (whole * 2 ^ 32 + k + 1) ^ e

-- 4.2.2 and 5.3.3: a table of n constants that are the fractions of the e-th roots of the first n primes.
pub record RootTable (e n : ℕ) (table : List ℕ) : Type 0 where
  pub size : length table ≡ n
  pub entry : (t : ℕ) → t < n → Fraction e (primes ! t) (table ! t)

-- 4.2.2: K has the cube roots of the first 64 primes. 5.3.3: H0 has the square roots of the first 8.
pub record ConstantsRule : Type 0 where
  pub primes_rule : FirstPrimes
  pub K-rule : RootTable 3 64 K
  pub H0-rule : RootTable 2 8 H0

-- ---- Published examples: the empty message, "abc", and the message of 448 bits, which takes two blocks.
pub record Examples : Type 0 where
  pub empty : sha256 [] ≡
      0xe3 ∷ 0xb0 ∷ 0xc4 ∷ 0x42 ∷ 0x98 ∷ 0xfc ∷ 0x1c ∷ 0x14 ∷ 0x9a ∷ 0xfb ∷ 0xf4 ∷ 0xc8 ∷ 0x99 ∷ 0x6f ∷ 0xb9 ∷ 0x24 ∷
      0x27 ∷ 0xae ∷ 0x41 ∷ 0xe4 ∷ 0x64 ∷ 0x9b ∷ 0x93 ∷ 0x4c ∷ 0xa4 ∷ 0x95 ∷ 0x99 ∷ 0x1b ∷ 0x78 ∷ 0x52 ∷ 0xb8 ∷ 0x55 ∷ []
  pub abc : sha256 (0x61 ∷ 0x62 ∷ 0x63 ∷ []) ≡
      0xba ∷ 0x78 ∷ 0x16 ∷ 0xbf ∷ 0x8f ∷ 0x01 ∷ 0xcf ∷ 0xea ∷ 0x41 ∷ 0x41 ∷ 0x40 ∷ 0xde ∷ 0x5d ∷ 0xae ∷ 0x22 ∷ 0x23 ∷
      0xb0 ∷ 0x03 ∷ 0x61 ∷ 0xa3 ∷ 0x96 ∷ 0x17 ∷ 0x7a ∷ 0x9c ∷ 0xb4 ∷ 0x10 ∷ 0xff ∷ 0x61 ∷ 0xf2 ∷ 0x00 ∷ 0x15 ∷ 0xad ∷ []
  pub bits448 : sha256 (
      0x61 ∷ 0x62 ∷ 0x63 ∷ 0x64 ∷ 0x62 ∷ 0x63 ∷ 0x64 ∷ 0x65 ∷ 0x63 ∷ 0x64 ∷ 0x65 ∷ 0x66 ∷ 0x64 ∷ 0x65 ∷ 0x66 ∷ 0x67 ∷
      0x65 ∷ 0x66 ∷ 0x67 ∷ 0x68 ∷ 0x66 ∷ 0x67 ∷ 0x68 ∷ 0x69 ∷ 0x67 ∷ 0x68 ∷ 0x69 ∷ 0x6a ∷ 0x68 ∷ 0x69 ∷ 0x6a ∷ 0x6b ∷
      0x69 ∷ 0x6a ∷ 0x6b ∷ 0x6c ∷ 0x6a ∷ 0x6b ∷ 0x6c ∷ 0x6d ∷ 0x6b ∷ 0x6c ∷ 0x6d ∷ 0x6e ∷ 0x6c ∷ 0x6d ∷ 0x6e ∷ 0x6f ∷
      0x6d ∷ 0x6e ∷ 0x6f ∷ 0x70 ∷ 0x6e ∷ 0x6f ∷ 0x70 ∷ 0x71 ∷ []) ≡
      0x24 ∷ 0x8d ∷ 0x6a ∷ 0x61 ∷ 0xd2 ∷ 0x06 ∷ 0x38 ∷ 0xb8 ∷ 0xe5 ∷ 0xc0 ∷ 0x26 ∷ 0x93 ∷ 0x0c ∷ 0x3e ∷ 0x60 ∷ 0x39 ∷
      0xa3 ∷ 0x3c ∷ 0xe4 ∷ 0x59 ∷ 0x64 ∷ 0xff ∷ 0x21 ∷ 0x67 ∷ 0xf6 ∷ 0xec ∷ 0xed ∷ 0xd4 ∷ 0x19 ∷ 0xdb ∷ 0x06 ∷ 0xc1 ∷ []
