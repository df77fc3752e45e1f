-- Lists of calls, one after the other, on any state: `next` gives the state that a call leaves.
use Rattle.std.specs.Prelude.{List, [], ◌∷◌, ℕ, ◌+◌}

-- The state after a list of calls.
abbrev pub state_after : {S C : Type 0} → (S → C → S) → S → List C → S
state_after next s [] = s
state_after next s (c ∷ cs) = state_after next (next s c) cs

-- P holds of every call of a list, together with the state before it and the state after it.
abbrev pub Along : {S C : Type 0} → (S → C → S) → (S → C → S → Type 0) → S → List C → Type 0
Along next P s [] = Unit {0}
Along next P s (c ∷ cs) = P s c (next s c) × Along next P (next s c) cs

-- A number of each call, by the state before it, summed over a list.
abbrev pub summed : {S C : Type 0} → (S → C → S) → (S → C → ℕ) → S → List C → ℕ
summed next n s [] = 0
summed next n s (c ∷ cs) = n s c + summed next n (next s c) cs
