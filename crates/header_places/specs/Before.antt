-- Document 01, "The header": what the places of a header's tags say of its bytes, and which bytes decide them.
-- A place of 0 is that of a row whose tag was not seen. Each statement is proved in proofs/.
use Rattle.std.specs.Prelude.{◌≡◌, ℕ, ◌+◌, ◌≤◌, ◌<◌, List, length, get_or, take, drop}
use Rattle.numbers.specs.Answer.{gives}
use Rattle.header_tags.specs.Walk.{first_tag, tags_at}
use Rattle.header_tags.specs.Standing.{TagStands, Walked}
use Rattle.header_places.specs.Table.{TagTable}
use Rattle.header_places.specs.Judging.{places_in}
use Rattle.header_places.specs.RuledOut.{InRow}

-- At a row's place stands the row's tag: the walk gives it there, behind the front of the header, with the row's type and the row's length,
-- and its value ends within the header.
pub record RowStands (T : TagTable) (h : List ℕ) (row place : ℕ) : Type 0 where
  pub begins : first_tag ≤ place
  pub stands : TagStands h place (get_or T.types row 0) (get_or T.lengths row 0)
  pub walked : Walked (tags_at h first_tag) place (get_or T.types row 0)

abbrev pub PlacesAreTags : Type 0
PlacesAreTags = (T : TagTable) (h places : List ℕ) (q : ℕ) → places_in T h ≡ gives places → 0 < get_or places q 0
    → RowStands T h q (get_or places q 0)

-- And the other way: a tag of a row's type that the walk gives stands at the row's place.
abbrev pub TagsHavePlaces : Type 0
TagsHavePlaces = (T : TagTable) (h places : List ℕ) (q t r : ℕ) → places_in T h ≡ gives places → Walked (tags_at h first_tag) q t → InRow T t r
    → get_or places r 0 ≡ q

-- A header that is not refused has a tag of each required row.
abbrev pub RequiredAreSeen : Type 0
RequiredAreSeen = (T : TagTable) (h places : List ℕ) (r : ℕ) → places_in T h ≡ gives places → T.required ≤ length T.types → r < T.required
    → 0 < get_or places r 0

-- Tags do not overlap: the value of a tag that begins before another ends before it.
abbrev pub TagEnds : Type 0
TagEnds = (T : TagTable) (h places : List ℕ) (q r : ℕ) → places_in T h ≡ gives places → 0 < get_or places q 0
    → get_or places q 0 < get_or places r 0 → get_or places q 0 + 4 + get_or T.lengths q 0 ≤ get_or places r 0

-- Row q has the same tag in two headers: at the same place, with the same value behind type and length.
pub record SameTag (T : TagTable) (h h' places places' : List ℕ) (q : ℕ) : Type 0 where
  pub place : get_or places' q 0 ≡ get_or places q 0
  pub value : take (get_or T.lengths q 0) (drop (get_or places' q 0 + 4) h') ≡ take (get_or T.lengths q 0) (drop (get_or places q 0 + 4) h)

-- What stands before a row's tag is decided by the bytes before that tag: each tag of the table that stands before row r's stands also in
-- any other header with the same bytes there, wherever that one has its tag of row r. Said both ways round: two headers with the tag of row
-- r at one place and the same bytes before it have the same tags of the table before it.
abbrev pub TagsBefore : Type 0
TagsBefore = (T : TagTable) (h h' places places' : List ℕ) (q r : ℕ) → places_in T h ≡ gives places → places_in T h' ≡ gives places'
    → take (get_or places r 0) h ≡ take (get_or places r 0) h' → 0 < get_or places q 0 → get_or places q 0 < get_or places r 0
    → SameTag T h h' places places' q
