-- Document 01, "The header", with document 02, "Tags that must be understood": what the table makes of a tag, whatever was seen and
-- whatever follows, and the numbers that it gives. Each statement is proved in proofs/.
use Rattle.std.specs.Prelude.{◌≡◌, ℕ, ◌≤◌, ◌<◌, List, ◌≢◌, length, get_or, set}
use Rattle.numbers.specs.Answer.{gives, refused}
use Rattle.header_tags.specs.Walk.{Tags, ended, broken, more}
use Rattle.header_places.specs.Table.{TagTable}
use Rattle.header_places.specs.Judging.{judge, places_in}

-- Type t stands in row r of the table, and in no row before.
pub record InRow (T : TagTable) (t r : ℕ) : Type 0 where
  pub row : r < length T.types
  pub here : get_or T.types r 0 ≡ t
  pub before : (i : ℕ) → i < r → get_or T.types i 0 ≢ t

-- Type t is known: it stands in some row.
pub record Known (T : TagTable) (t : ℕ) : Type 0 where
  pub row : ℕ
  pub below : row < length T.types
  pub here : get_or T.types row 0 ≡ t

abbrev pub Unknown : TagTable → ℕ → Type 0
Unknown T t = Known T t → ⊥

-- The tag at q, of type t and length n, with `seen` before it and `rest` behind it.
pub record TagJudged (T : TagTable) (seen : List ℕ) (q t n : ℕ) (rest : Tags) : Type 0 where
  -- A type that is not known changes nothing below the bound, and is 18 from there up.
  pub other : Unknown T t → t < T.critical → judge T seen (more q t n rest) ≡ judge T seen rest
  pub critical : Unknown T t → T.critical ≤ t → judge T seen (more q t n rest) ≡ refused 18 q
  -- One of the table whose value has another length than its row says is 5, also if it came before.
  pub wrong_length : (r : ℕ) → InRow T t r → n ≢ get_or T.lengths r 0 → judge T seen (more q t n rest) ≡ refused 5 q
  -- One whose row has a place already is 6.
  pub repeated : (r : ℕ) → InRow T t r → n ≡ get_or T.lengths r 0 → get_or seen r 0 ≢ 0 → judge T seen (more q t n rest) ≡ refused 6 q
  -- Otherwise its place is kept in its row.
  pub taken : (r : ℕ) → InRow T t r → n ≡ get_or T.lengths r 0 → get_or seen r 0 ≡ 0
      → judge T seen (more q t n rest) ≡ judge T (set seen r q) rest

abbrev pub TagsAreJudged : Type 0
TagsAreJudged = (T : TagTable) (seen : List ℕ) (q t n : ℕ) (rest : Tags) → TagJudged T seen q t n rest

-- The end, with `seen` before it: a place for each row, or 0.
pub record EndJudged (T : TagTable) (seen : List ℕ) : Type 0 where
  -- A required row without a place is 8 with its type; the first such row counts, which has the smallest type, since the types rise.
  pub missing : (r : ℕ) → r < T.required → get_or seen r 0 ≡ 0 → ((i : ℕ) → i < r → get_or seen i 0 ≢ 0)
      → judge T seen ended ≡ refused 8 (get_or T.types r 0)
  -- If every required row has a place, the places are given, whatever stands in the other rows.
  pub whole : ((r : ℕ) → r < T.required → get_or seen r 0 ≢ 0) → judge T seen ended ≡ gives seen

abbrev pub EndIsJudged : Type 0
EndIsJudged = (T : TagTable) (seen : List ℕ) → T.required ≤ length seen → EndJudged T seen

-- Where the walk breaks, its number is told, whatever was seen.
abbrev pub BreakIsJudged : Type 0
BreakIsJudged = (T : TagTable) (seen : List ℕ) (n p : ℕ) → judge T seen (broken n p) ≡ refused n p

-- The numbers that the tags of a header of l bytes give: 4, 5, 6 and 18 at some place, 7 at l, and 8 with a required type for the place.
pub data TagNumber (T : TagTable) (l : ℕ) : ℕ → ℕ → Type 0 where
  does_not_fit : (p : ℕ) → TagNumber T l 4 p
  wrong_length : (p : ℕ) → TagNumber T l 5 p
  repeated : (p : ℕ) → TagNumber T l 6 p
  not_understood : (p : ℕ) → TagNumber T l 18 p
  no_end : TagNumber T l 7 l
  missing : (r : ℕ) → r < T.required → TagNumber T l 8 (get_or T.types r 0)

abbrev pub TagsGiveTheirNumbers : Type 0
TagsGiveTheirNumbers = (T : TagTable) (h : List ℕ) (n p : ℕ) → places_in T h ≡ refused n p → TagNumber T (length h) n p
