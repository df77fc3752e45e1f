-- Document 01, "The header", with document 02, "Tags that must be understood": the tags in their order, judged by the table.
use Rattle.std.specs.Prelude.{ℕ, suc, ◌+◌, ◌≤◌, ◌<◌, List, [], ◌∷◌, true, false, cond, length, get_or, set, take, replicate, ltb, eqb}
use Rattle.numbers.specs.Answer.{Answer, gives, refused}
use Rattle.header_tags.specs.Walk.{first_tag, Tags, ended, broken, more, tags_at}
use Rattle.header_places.specs.Table.{TagTable}

-- The first row at which x stands, or the number of rows.
unfoldable pub row_of : List ℕ → ℕ → ℕ
row_of [] x = 0
row_of (y ∷ l) x = elim (eqb y x) [ true ↦ 0 | false ↦ suc (row_of l x) ]

-- `seen` has the place of each row's tag, 0 where none was seen: no tag stands at 0.
-- After the end, the smallest required type that was not seen is refusal 8; the types rise, so it is the first.
abbrev pub complete : TagTable → List ℕ → Answer (List ℕ)
complete T seen =
    let r = row_of (take T.required seen) 0 in
    cond (ltb r T.required) (refused 8 (get_or T.types r 0)) (gives seen)

-- The tags in their order. A type of the table: a wrong length is refusal 5, then a type seen before 6. Another type is skipped below the
-- bound, and from the bound up it is refusal 18 (document 02, five). A tag that does not fit does not come here: it is 4.
unfoldable pub judge : TagTable → List ℕ → Tags → Answer (List ℕ)
judge T seen ended = complete T seen
judge T seen (broken n p) = refused n p
judge T seen (more q t n rest) =
    let r = row_of T.types t in
    let skipped = judge T seen rest in
    let taken = judge T (set seen r q) rest in
    let unknown = cond (ltb t T.critical) skipped (refused 18 q) in
    cond (ltb r (length T.types))
    (cond (eqb n (get_or T.lengths r 0)) (cond (eqb (get_or seen r 0) 0) taken (refused 6 q)) (refused 5 q))
    unknown

-- The places of a header's tags by a table.
unfoldable pub places_in : TagTable → List ℕ → Answer (List ℕ)
places_in T h = judge T (replicate (length T.types) 0) (tags_at h first_tag)

-- A value of each row's length fits, behind type and length, at each row's place of a header of n bytes.
pub record TagsFit (T : TagTable) (places : List ℕ) (n : ℕ) : Type 0 where
  pub fits : (r : ℕ) → r < length T.types → get_or places r 0 + 4 + get_or T.lengths r 0 ≤ n
