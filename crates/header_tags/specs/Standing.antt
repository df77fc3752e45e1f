-- Document 01, "The header": what a tag that the walk finds says of the bytes, and the bytes of the walk. Each statement is proved in
-- proofs/.
use Rattle.std.specs.Prelude.{◌≡◌, ◌≢◌, ℕ, ◌+◌, ◌≤◌, ◌<◌, List, length, get_or, take}
use Rattle.numbers.specs.Answer.{gives}
use Rattle.header_tags.specs.Walk.{first_tag, type_at, length_at, tag, next_item, Tags, ended, broken, more, tags_at}

-- At q stands a tag of type t whose value has n bytes, and it ends within the header. Type 0000 is no tag's: it is the end.
pub record TagStands (h : List ℕ) (q t n : ℕ) : Type 0 where
  pub type : type_at h q ≡ t
  pub size : length_at h q ≡ n
  pub no_end : t ≢ 0x0000
  pub fits : q + 4 + n ≤ length h

-- Among the tags that a walk gives is one of type t at the place q.
pub data Walked : Tags → ℕ → ℕ → Type 0 where
  here : (q t n : ℕ) (rest : Tags) → Walked (more q t n rest) q t
  behind : (q t p k n : ℕ) (rest : Tags) → Walked rest q t → Walked (more p k n rest) q t

-- In the header at the front of b a tag of type t stands at the place q: the walk from the first tag's place on comes by it.
abbrev pub TagAt : List ℕ → ℕ → ℕ → Type 0
TagAt b q t = Walked (tags_at (take 256 b) first_tag) q t

-- A tag that the walk finds from p on stands there, at p or behind.
abbrev pub FoundTagsStand : Type 0
FoundTagsStand = (h : List ℕ) (p q t n : ℕ) → next_item h p ≡ gives (tag q t n) → (p ≤ q) × TagStands h q t n

-- And the other way: what stands at p the walk finds, whatever its type is, and behind it all the rest. Padding is passed
-- (`PaddingIsPassed`).
pub record Finds (h : List ℕ) (p : ℕ) : Type 0 where
  -- A tag that fits, and the end.
  pub tag : (t n : ℕ) → get_or h p 0 ≢ 0xFF → TagStands h p t n → tags_at h p ≡ more p t n (tags_at h (p + 4 + n))
  pub end : p + 2 ≤ length h → type_at h p ≡ 0x0000 → tags_at h p ≡ ended
  -- What is neither, nor padding, is 4; and 7 comes where nothing is left.
  pub misfit : p < length h → get_or h p 0 ≢ 0xFF → (p + 2 ≤ length h → type_at h p ≢ 0x0000) → (p + 4 ≤ length h → length h < p + 4 + length_at h p)
      → tags_at h p ≡ broken 4 p
  pub none : length h ≤ p → tags_at h p ≡ broken 7 (length h)

abbrev pub FindsWhatStands : Type 0
FindsWhatStands = (h : List ℕ) (p : ℕ) → Finds h p

-- The bytes before a tag's end decide that it is found: a header with the same bytes before a place behind it has the same tag next.
abbrev pub FoundBySameBytes : Type 0
FoundBySameBytes = (h h' : List ℕ) (p q t n behind : ℕ) → take behind h ≡ take behind h' → q + 4 + n ≤ behind
    → next_item h p ≡ gives (tag q t n) → next_item h' p ≡ gives (tag q t n)
