-- What a C caller of `tainhosa_next_tag` gets.
use Rattle.std.specs.Prelude.{ℕ, cond, List, eqb, length}
use Rattle.numbers.specs.Answer.{Answer}
use Rattle.header_tags.specs.Walk.{Item, walk_at, place_behind}
use Rattle.numbers.specs.GivenBack.{refusal_of}
use Rattle.c_headers.specs.Rows.{tag_row}

-- The answer, and the caller's row as the call returns.
pub record Walked : Type 0 where
  pub answer : ℕ
  pub row : List ℕ

-- The call answers r and leaves the row.
abbrev pub after_tag : ℕ → List ℕ → Walked
after_tag r row = record { answer = r; row = row }

-- What a walk on from p answers: 0 or the refusal's number; and the row of the tag, which ends with the place to go on from.
abbrev pub walked : Answer Item → ℕ → Walked
walked a p = after_tag (refusal_of a).number (tag_row a (place_behind a p))

-- The row has 6 numbers; else 1, and it stays as it was.
abbrev pub tag_answer : List ℕ → ℕ → List ℕ → Walked
tag_answer s p row = cond (eqb (length row) 6) (walked (walk_at s p) p) (after_tag 1 row)
