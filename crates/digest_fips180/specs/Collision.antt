-- FIPS 180-4, section 1: what the standard means to rule out in practice.
use Rattle.std.specs.Prelude.{◌≡◌, ◌≢◌, List, ℕ, ◌*◌, ◌^◌, ◌<◌, length, get_or}
use Rattle.digest_fips180.specs.Sha256.{sha256}

-- A message as the standard takes it: bytes, and fewer than 2^64 bits.
pub record Message (m : List ℕ) : Type 0 where
  pub bytes : (i : ℕ) → get_or m i 0 < 256
  pub short : 8 * length m < 2 ^ 64

-- A collision: two messages that differ and have the same digest.
pub record Collision (x y : List ℕ) : Type 0 where
  pub first : Message x
  pub second : Message y
  pub differ : x ≢ y
  pub digest : sha256 x ≡ sha256 y
