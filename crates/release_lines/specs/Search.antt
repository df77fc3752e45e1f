-- The first place of a byte in a text.
use Rattle.std.specs.Prelude.{ℕ, suc, List, [], ◌∷◌, Bool, true, false, eqb}

-- A place in a text that has one byte in front: 0 where that byte is the one searched for, and else one more than n, the place behind it.
abbrev pub index_after : Bool → ℕ → ℕ
index_after true n = 0
index_after false n = suc n

-- The first place at which b stands in l, or l's length where it does not.
unfoldable pub index_of : ℕ → List ℕ → ℕ
index_of b [] = 0
index_of b (c ∷ l) = index_after (eqb c b) (index_of b l)
