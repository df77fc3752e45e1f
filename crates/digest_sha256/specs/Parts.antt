-- SHA-256 of a message that is absorbed in parts: what a `Hasher` is worth. The standard has whole messages only; the sections of FIPS
-- 180-4 named here are those that a state carries out in part.
use Rattle.std.specs.Prelude.{ℕ, ◌+◌, ◌-◌, ◌*◌, ◌/◌, ◌%◌, ◌^◌, List, [], ◌∷◌, ◌++◌, length, take, drop, replicate}
use Rattle.digest_sha256.specs.declared.Hasher.{Hasher}
use Rattle.digest_fips180.specs.Sha256.{H0, padding, hash, bytes}

-- 6.2.2 in part: the hash value after the whole blocks of b, from h on; and the bytes of b behind them.
abbrev pub hash_over : List ℕ → List ℕ → List ℕ
hash_over h b = hash h b (length b / 64)

abbrev pub left_of : List ℕ → List ℕ
left_of b = drop (64 * (length b / 64)) b

-- The bytes b, and zeros behind them up to 64.
abbrev pub zeroed : List ℕ → List ℕ
zeroed b = b ++ replicate (64 - length b) 0

-- 6.2.2 in part: the state that takes the hash value h over the whole blocks of b, keeps the bytes after them, with zeros up to 64, and
-- has counted n bytes.
unfoldable pub settle : List ℕ → List ℕ → ℕ → Hasher
settle h b n =
    record {
      words = hash_over h b;
      pending = left_of b ++ replicate (64 - length b % 64) 0;
      count = n % 2 ^ 64;
    }

-- 5.3.3 and 6.2.2: the state that has absorbed the message m from the initial hash value on, and nothing else.
unfoldable pub state_of : List ℕ → Hasher
state_of m = settle H0 m (length m)

-- The bytes that d has absorbed and not hashed. (Its 64 pending bytes are enough; the zeros give a meaning to any list.)
unfoldable pub waiting : Hasher → List ℕ
waiting d = take (d.count % 64) (d.pending ++ replicate 64 0)

-- 6.2.2 in part: the state d after it absorbs p.
unfoldable pub absorb_of : Hasher → List ℕ → Hasher
absorb_of d p = settle d.words (waiting d ++ p) (d.count + length p)

-- The state d after it absorbs each of the parts, in order.
unfoldable pub absorb_all : Hasher → List (List ℕ) → Hasher
absorb_all d [] = d
absorb_all d (p ∷ ps) = absorb_all (absorb_of d p) ps

-- The parts as one message.
unfoldable pub joined : List (List ℕ) → List ℕ
joined [] = []
joined (p ∷ ps) = p ++ joined ps

-- 5.1.1 and 6.2.2: the digest of what d has absorbed: d absorbs the padding, and its words are the digest.
unfoldable pub finish_of : Hasher → List ℕ
finish_of d = bytes (absorb_of d (padding d.count)).words

-- 5.1.1 and 6.2.2: the digest of a message of n bytes whose whole blocks give the hash value h, and leave the bytes b: these are padded
-- and hashed.
unfoldable pub digest_after : List ℕ → List ℕ → ℕ → List ℕ
digest_after h b n = bytes (hash_over h (b ++ padding n))
