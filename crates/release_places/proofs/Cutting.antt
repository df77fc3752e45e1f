-- A text cut into its first line and the rest, and values by their places. Assumes nothing.
use mathlib.Core.Path.{◌≡◌, refl, ap, ◌∙◌}
use Prim.Native.Nat.{ℕ, zero, suc, ◌+◌, ◌-◌, ◌≤◌, ◌<◌}
use mathlib.Core.List.{List, [], ◌∷◌}
use mathlib.Core.Option.{none, some}
use mathlib.Core.Bool.{Bool, true, false, cond, not}
use native.Mathlib.Omega.{arith}
use native.Mathlib.Decide.{ℕ_discrete}
use lib.ListN.{length, get_or, take, drop, set, replicate, drop_of_length-le}
use lib.Seq.{get_or-set_same, get_or-set_other}
use lib.Dec.{eqb}
use Rattle.std.specs.List.{position_or_len}
use Rattle.numbers.specs.Answer.{Answer, gives, refused, then}
use Rattle.release_lines.specs.Search.{index_after, index_of}
use Rattle.release_lines.specs.Lines.{in_front, lines, line_of}
use Rattle.release_places.specs.Judging.{Seen, put, missing_row, judge, rest_of_line, values_at}

-- ---- lines

-- the lines behind the first
others : List ℕ → List (List ℕ)
others [] = []
others (c ∷ t) = elim (eqb c 10) [ true ↦ lines t | false ↦ others t ]

cut : (t : List ℕ) → lines t ≡ take (index_of 10 t) t ∷ others t
unfolding lines index_of others
cut [] = refl
cut (c ∷ t) = go (eqb c 10) (cut t)
  where
    go : (b : Bool) → lines t ≡ take (index_of 10 t) t ∷ others t
        → ◌≡◌ {A = List (List ℕ)} (elim b [ true ↦ [] ∷ lines t | false ↦ in_front c (lines t) ])
        (take (index_after b (index_of 10 t)) (c ∷ t) ∷ elim b [ true ↦ lines t | false ↦ others t ])
    go true e = refl
    go false e = ap (in_front c) e

-- an empty line behind the last changes nothing
same_others : (s : Seen) (n : ℕ) (t : List ℕ) → judge s n (others t) ≡ judge s n (lines (drop (suc (index_of 10 t)) t))
unfolding judge lines line_of index_of missing_row others
same_others s n [] = refl
same_others s n (c ∷ t) = go (eqb c 10) (same_others s n t)
  where
    go : (b : Bool) → judge s n (others t) ≡ judge s n (lines (drop (suc (index_of 10 t)) t))
        → judge s n (elim b [ true ↦ lines t | false ↦ others t ]) ≡ judge s n (lines (drop (suc (index_after b (index_of 10 t))) (c ∷ t)))
    go true e = refl
    go false e = e

-- what follows may be said in other words
pub then_same : {A B : Type 0} (a : Answer A) {f g : A → Answer B} → ((x : A) → f x ≡ g x) → then a f ≡ then a g
then_same (gives x) h = h x
then_same (refused n p) h = refl

-- the first line, and what follows behind its end
pub line_first : (s : Seen) (n : ℕ) (t : List ℕ)
    → judge s n (lines t) ≡ then (then (line_of n (take (index_of 10 t) t)) (λ e. put s n e)) (λ u. judge u (suc n) (lines (drop (suc (index_of 10 t)) t)))
unfolding judge
line_first s n t =
    ap (judge s n) (cut t)
    ∙ then_same (then (line_of n (take (index_of 10 t) t)) (λ e. put s n e)) (λ u. same_others u (suc n) t)

-- no line is left
pub nothing_left : (s : Seen) (n : ℕ) (t : List ℕ) (at : ℕ) → length t ≤ at → judge s n (lines (drop at t)) ≡ judge s n []
unfolding judge lines line_of missing_row
nothing_left s n t at le = rw (drop_of_length-le t le)

-- a part of the text from a place to the end that a search found
pub line_to : (text : List ℕ) (at : ℕ) {e : ℕ} → e ≡ at + index_of 10 (drop at text) → take (e - at) (drop at text) ≡ rest_of_line text at
line_to text at {e} end =
    let k : e - at ≡ index_of 10 (drop at text) = omega (arith, end) in
    ap (λ (i : ℕ). take i (drop at text)) k

-- a line's rest from a place within it
pub rest_of : (t : List ℕ) (k : ℕ) → k ≤ index_of 10 t → drop k (take (index_of 10 t) t) ≡ take (index_of 10 (drop k t)) (drop k t)
unfolding index_of
rest_of t zero le = refl
rest_of [] (suc k) le = refl
rest_of (c ∷ t) (suc k) le = go (eqb c 10) le (λ h. rest_of t k h)
  where
    go : (b : Bool) → suc k ≤ index_after b (index_of 10 t) → (k ≤ index_of 10 t → drop k (take (index_of 10 t) t) ≡ take (index_of 10 (drop k t)) (drop k t))
        → drop (suc k) (take (index_after b (index_of 10 t)) (c ∷ t)) ≡ take (index_of 10 (drop k t)) (drop k t)
    go true le h = absurd (omega arith)
    go false le h = h (omega arith)

-- ---- values by their places

-- the first place that is 0 is the first row without a value
pub missing_is : (text places : List ℕ) → position_or_len (λ p. eqb p 0) places ≡ missing_row (values_at text places)
unfolding missing_row
missing_is text [] = refl
missing_is text (p ∷ ps) = go (eqb p 0) (missing_is text ps)
  where
    go : (b : Bool) → position_or_len (λ q. eqb q 0) ps ≡ missing_row (values_at text ps)
        → cond (not b) (1 + position_or_len (λ q. eqb q 0) ps) 0 ≡ missing_row (cond b none (some (rest_of_line text p)) ∷ values_at text ps)
    go true e = refl
    go false e = omega (arith, e)

pub zeros : (k i : ℕ) → ◌≡◌ {A = ℕ} (get_or (replicate k 0) i 0) 0
zeros zero i = refl
zeros (suc k) zero = refl
zeros (suc k) (suc i) = zeros k i

-- each place lies within the text, also with one more
pub within_set : (l : List ℕ) (r q n : ℕ) → ((i : ℕ) → get_or l i 0 ≤ n) → r < length l → q ≤ n → (i : ℕ) → get_or (set l r q) i 0 ≤ n
within_set l r q n w lt le i = go (ℕ_discrete i r)
  where
    go : Dec (i ≡ r) → get_or (set l r q) i 0 ≤ n
    go (yes e) = rw (e, get_or-set_same l r q 0 lt) le
    go (no e) = rw (get_or-set_other l r i q 0 e) (w i)
