-- What is claimed of a message in parts, as types. `proofs/` has a value of each.
use Rattle.std.specs.Prelude.{◌≡◌, ℕ, List, [], ◌++◌}
use Rattle.digest_sha256.specs.declared.Hasher.{Hasher}
use Rattle.digest_fips180.specs.Sha256.{sha256}
use Rattle.digest_sha256.specs.Parts.{state_of, absorb_of, absorb_all, finish_of, joined}

-- A state that absorbs a and then b becomes what it becomes when it absorbs a and b as one part.
abbrev pub ConcatenationLaw : Type 0
ConcatenationLaw = (d : Hasher) (a b : List ℕ) → absorb_of (absorb_of d a) b ≡ absorb_of d (a ++ b)

-- The state of m that absorbs p is the state of m and p.
abbrev pub AbsorbLaw : Type 0
AbsorbLaw = (m p : List ℕ) → absorb_of (state_of m) p ≡ state_of (m ++ p)

-- The state of m finishes with the digest of m.
abbrev pub FinishLaw : Type 0
FinishLaw = (m : List ℕ) → finish_of (state_of m) ≡ sha256 m

-- However a message is cut into parts, from the empty state on, the digest is that of the whole message.
abbrev pub PartsLaw : Type 0
PartsLaw = (ps : List (List ℕ)) → finish_of (absorb_all (state_of []) ps) ≡ sha256 (joined ps)
