-- Document 01, "Numbers given back": in which order the reader refuses; and document 02, "Tags that must be understood". Proved in proofs/.
use Rattle.std.specs.Prelude.{◌≡◌, ℕ, ◌≤◌, ◌<◌, List, ◌↔◌, length, get_or, take}
use Rattle.numbers.specs.Answer.{refused, gives, then}
use Rattle.header_tags.specs.Bytes.{AllBytes}
use Rattle.header_tags.specs.Standing.{TagStands, TagAt}
use Rattle.header_places.specs.Table.{document_table}
use Rattle.header_places.specs.Judging.{places_in}
use Rattle.header_places.specs.Understood.{NotUnderstood, RefusedUpTo}
use Rattle.header_reader.specs.declared.Header.{Header}
use Rattle.header_reader.specs.Reading.{values_at, read_header}

-- The first four bytes are the magic; the four behind them, the size, are 0.
abbrev pub HasMagic : List ℕ → Type 0
HasMagic s = (get_or s 0 0 ≡ 0x43) × (get_or s 1 0 ≡ 0x45) × (get_or s 2 0 ≡ 0x52) × (get_or s 3 0 ≡ 0x54)

abbrev pub HasSizeZero : List ℕ → Type 0
HasSizeZero s = (get_or s 4 0 ≡ 0) × (get_or s 5 0 ≡ 0) × (get_or s 6 0 ≡ 0) × (get_or s 7 0 ≡ 0)

-- Of every buffer: 16 exactly if it is shorter than a header; else 2 exactly if it has not the magic; else 3 exactly if its size is 0;
-- else what the walk over its first 256 bytes, judged by the table, refuses or finds.
pub record ReaderRefuses (s : List ℕ) : Type 0 where
  pub short : (read_header s ≡ refused 16 0) ↔ (length s < 256)
  pub magic : (read_header s ≡ refused 2 0) ↔ ((256 ≤ length s) × (HasMagic s → ⊥))
  pub zero : (read_header s ≡ refused 3 4) ↔ ((256 ≤ length s) × HasMagic s × HasSizeZero s)
  pub walk : 256 ≤ length s → HasMagic s → (HasSizeZero s → ⊥)
      → read_header s ≡ then (places_in document_table (take 256 s)) (λ places. gives (values_at (take 256 s) places))

-- Of every lent buffer: each of its entries is a byte.
abbrev pub WhenReaderRefuses : Type 0
WhenReaderRefuses = (s : List ℕ) → AllBytes s → ReaderRefuses s

-- ---- document 02, "Tags that must be understood": 01's table has no type from 8000 up, so the reader knows none

-- A tag of a type from 8000 up stands at q in the header at the front of a lent buffer, whole, and none before it.
pub record CriticalTag (s : List ℕ) (q : ℕ) : Type 0 where
  pub type : ℕ
  pub size : ℕ
  pub tag : TagAt s q type
  pub whole : TagStands (take 256 s) q type size
  pub high : 0x8000 ≤ type
  pub first : (p t : ℕ) → TagAt s p t → p < q → t < 0x8000

-- Of every buffer.
pub record ReaderUnderstands (s : List ℕ) : Type 0 where
  -- A header that is taken has no such tag.
  pub taken : (v : Header) (q t : ℕ) → read_header s ≡ gives v → TagAt s q t → t < 0x8000
  -- 18 is told exactly if the tests before the walk find nothing, and the first tag that is not passed is such a tag: at its place.
  pub exactly : (q : ℕ)
      → (read_header s ≡ refused 18 q) ↔ ((256 ≤ length s) × HasMagic s × (HasSizeZero s → ⊥) × NotUnderstood document_table (take 256 s) q)
  pub tells : (q : ℕ) → read_header s ≡ refused 18 q → CriticalTag s q
  -- Where one stands at q, nothing that the walk would find behind it is told, and neither 4, 7 nor 8.
  pub refuses : (q t : ℕ) → 256 ≤ length s → HasMagic s → (HasSizeZero s → ⊥) → TagAt s q t → 0x8000 ≤ t → RefusedUpTo q (read_header s)

abbrev pub WhatIsUnderstood : Type 0
WhatIsUnderstood = (s : List ℕ) → AllBytes s → ReaderUnderstands s
