-- Document 01, "The header": what holds of the walk, whatever the bytes are. Each statement is proved in proofs/.
use Rattle.std.specs.Prelude.{◌≡◌, ℕ, ◌+◌, ◌<◌, List, length, get_or}
use Rattle.numbers.specs.Answer.{refused}
use Rattle.header_tags.specs.Walk.{next_item, tags_at}

-- Padding may stand anywhere, before a tag, between two, and as much as there is room for: from a padding byte on the walk
-- finds what it finds from the next byte on, the next item and all that follow.
pub record Passes (h : List ℕ) (p : ℕ) : Type 0 where
  pub item : next_item h p ≡ next_item h (p + 1)
  pub tags : tags_at h p ≡ tags_at h (p + 1)

abbrev pub PaddingIsPassed : Type 0
PaddingIsPassed = (h : List ℕ) (p : ℕ) → p < length h → get_or h p 0 ≡ 0xFF → Passes h p

-- The numbers that break the walk over a header of l bytes: 4 at some place, or 7 at l.
pub data WalkNumber (l : ℕ) : ℕ → ℕ → Type 0 where
  does_not_fit : (p : ℕ) → WalkNumber l 4 p
  no_end : WalkNumber l 7 l

abbrev pub WalkGivesItsNumbers : Type 0
WalkGivesItsNumbers = (h : List ℕ) (p n q : ℕ) → next_item h p ≡ refused n q → WalkNumber (length h) n q
