-- Document 01, "Numbers given back": a call gives what was asked for, or refuses.
use Rattle.std.specs.Prelude.{ℕ}

-- `gives a`: what was asked for. `refused n p`: the refusal with number n of 01's table, at the place p; where 01 names no place, p is 0.
pub data Answer (A : Type 0) : Type 0 where
  gives : A → Answer A
  refused : ℕ → ℕ → Answer A

-- goes on with what was given; a refusal stays what it is
abbrev pub then : {A B : Type 0} → Answer A → (A → Answer B) → Answer B
then (gives a) f = f a
then (refused n p) f = refused n p

-- A refusal of power-up. `numbered n p`: number n, at the place p. `inside n m p`: number n (12 or 13), which tells of a bad image and
-- carries the own number m and place p of that image.
pub data Refusal : Type 0 where
  numbered : ℕ → ℕ → Refusal
  inside : ℕ → ℕ → ℕ → Refusal

-- Its number of 01's table.
abbrev pub number_of : Refusal → ℕ
number_of (numbered n p) = n
number_of (inside n m p) = n

-- Why an update was turned down: a number and its place. Other power-ups have no reason.
pub data Reason : Type 0 where
  no_reason : Reason
  because : ℕ → ℕ → Reason
