-- A release sheet: its lines in their order, and which value each of the five names has.
use Rattle.std.specs.Prelude.{◌≡◌, ℕ, suc, ◌≤◌, List, [], ◌∷◌, map, cond, length, get_or, set, take, drop, replicate, eqb, ltb, Result, Ok}
use Rattle.std.proofs.Math.Option.{Option, none, some}
use Rattle.numbers.specs.Answer.{Answer, gives, refused, then}
use Rattle.numbers.specs.GivenBack.{sheet_answer}
use Rattle.numbers.specs.declared.SheetRefusal.{SheetRefusal}
use Rattle.release_lines.specs.Search.{index_of}
use Rattle.release_lines.specs.Lines.{lines, types, Entry, nothing, value, line_of}

-- The value that each row of the table of names has so far, or none.
abbrev pub Seen : Type 0
Seen = List (Option (List ℕ))

-- A value for a row that has none yet is kept; for a row that has one the line, number n, is refused with 104.
abbrev pub keep : Seen → ℕ → ℕ → List ℕ → Option (List ℕ) → Answer Seen
keep seen n row v none = gives (set seen row (some v))
keep seen n row v (some w) = refused 104 n

abbrev pub put : Seen → ℕ → Entry → Answer Seen
put seen n nothing = gives seen
put seen n (value row v) = keep seen n row v (get_or seen row none)

-- The first row without a value, or the number of rows.
unfoldable pub missing_row : Seen → ℕ
missing_row [] = 0
missing_row (none ∷ rows) = 0
missing_row (some v ∷ rows) = suc (missing_row rows)

-- Behind the last line a name without a value is 105, with its type: the smallest type, since the types rise.
abbrev pub complete : Seen → Answer Seen
complete seen =
    let row = missing_row seen in
    cond (ltb row 5) (refused 105 (get_or types row 0)) (gives seen)

-- The lines from number n on. The first that is refused decides.
unfoldable pub judge : Seen → ℕ → List (List ℕ) → Answer Seen
judge seen n [] = complete seen
judge seen n (l ∷ ls) = then (then (line_of n l) (λ e. put seen n e)) (λ s. judge s (suc n) ls)

-- A sheet's five values: its lines from number 1 on, with none seen before.
unfoldable pub judged : List ℕ → Answer Seen
judged text = judge (replicate 5 none) 1 (lines text)

-- ---- values by their places

-- The rest of a line, from a place of the text on.
abbrev pub rest_of_line : List ℕ → ℕ → List ℕ
rest_of_line text p = take (index_of 10 (drop p text)) (drop p text)

-- The value at a place of the text. No value begins at 0, where a name stands: there 0 stands for none.
abbrev pub value_at : List ℕ → ℕ → Option (List ℕ)
value_at text p = cond (eqb p 0) none (some (rest_of_line text p))

abbrev pub values_at : List ℕ → List ℕ → Seen
values_at text places = map (λ p. value_at text p) places

-- What a search for the values promises: what the lines come to, with the values at the places that it finds; and that these lie within
-- the text.
pub record Finds (text : List ℕ) (r : Result (List ℕ) SheetRefusal) : Type 0 where
  pub answer : then (sheet_answer r) (λ places. gives (values_at text places)) ≡ judged text
  pub within : (places : List ℕ) → r ≡ Ok places → (row : ℕ) → get_or places row 0 ≤ length text
