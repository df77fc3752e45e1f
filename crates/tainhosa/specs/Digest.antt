-- What a C caller of `tainhosa_sha256` gets.
use Rattle.std.specs.Prelude.{ℕ, cond, List, eqb, length}
use Rattle.digest_fips180.specs.Sha256.{sha256}

-- The number that the call answers, and the bytes of the caller's buffer as it returns.
pub record Answered : Type 0 where
  pub answer : ℕ
  pub bytes : List ℕ

-- The call answers r and leaves the bytes b.
abbrev pub after_digest : ℕ → List ℕ → Answered
after_digest r b = record { answer = r; bytes = b }

-- For the message m and the buffer d: 0 and the digest of m where d has 32 bytes; else 1, a length outside the rules, and d as
-- it was.
abbrev pub sha256_answer : List ℕ → List ℕ → Answered
sha256_answer m d =
    cond (eqb (length d) 32) (after_digest 0 (sha256 m)) (after_digest 1 d)
