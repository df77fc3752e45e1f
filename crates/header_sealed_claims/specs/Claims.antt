-- Document 02, "Sealed headers": what holds of the sealed reader and the sealed writer. Each statement is proved in proofs/.
-- `read_sealed s` is what a call of the sealed reader says of the bytes s, `write_sealed v out` all that a call of the sealed writer leaves,
-- each by its contract.
use Rattle.std.specs.Prelude.{◌≡◌, ◌≢◌, ◌↔◌, ◌⊎◌, ℕ, ◌≤◌, ◌<◌, List, ◌++◌, true, false, length, get_or, take, drop}
use Rattle.numbers.specs.Answer.{gives, refused}
use Rattle.header_tags.specs.Bytes.{AllBytes}
use Rattle.header_tags.specs.Walk.{first_tag, Tags, ended, more, tags_at}
use Rattle.header_reader.specs.declared.Header.{Header}
use Rattle.header_reader.specs.Reading.{read_header}
use Rattle.header_reader.specs.Refusing.{HasMagic, HasSizeZero}
use Rattle.header_writer.specs.Writing.{Write, write, write_header}
use Rattle.header_round_trips.specs.RoundTrips.{Holdable, RoundTrip}
use Rattle.header_sealed.specs.Profile.{read_sealed, write_sealed}

-- ---- the sealed form

-- The six tags of 01's table in its order, by place, type and length, and no other. Each begins where the one before it ends: there is no
-- padding before a tag.
abbrev pub six_tags : Tags
six_tags = more 8 0x0001 4 (more 16 0x0002 8 (more 28 0x0003 32 (more 64 0x0020 64 (more 132 0x0030 2 (more 138 0x1000 32 ended)))))

-- The sealed form, told without the writer: a header with the magic and a size that is not 0, whose tags are these six. The end, type
-- 0000, stands just behind the last of them, so that there is no padding before it either; and FF from byte 176 to 255.
pub record SealedForm (s : List ℕ) : Type 0 where
  pub room : 256 ≤ length s
  pub magic : HasMagic s
  pub some : HasSizeZero s → ⊥
  pub tags : tags_at (take 256 s) first_tag ≡ six_tags
  pub end : (get_or s 174 0 ≡ 0x00) × (get_or s 175 0 ≡ 0x00)
  pub filled : (i : ℕ) → 176 ≤ i → i < 256 → get_or s i 0 ≡ 0xFF

-- The sealed reader takes a buffer exactly if it begins with this form.
abbrev pub TakesTheSealedForm : Type 0
TakesTheSealedForm = (s : List ℕ) → AllBytes s → ((v : Header) × (read_sealed s ≡ gives v)) ↔ SealedForm s

-- ---- the sealed reader

-- The bytes h and w are the same before the place p.
abbrev pub SameBefore : List ℕ → List ℕ → ℕ → Type 0
SameBefore h w p = (i : ℕ) → i < p → get_or h i 0 ≡ get_or w i 0

-- Where a header h that carries v is not sealed, w being the written form of v: at the first byte that differs, if v has a hint or that
-- byte stands before 138; at 138 if v has no hint and nothing earlier differs.
pub data NotSealedAt (v : Header) (h w : List ℕ) : ℕ → Type 0 where
  hinted : (p : ℕ) → v.has_hint ≡ true → p < 256 → get_or h p 0 ≢ get_or w p 0 → SameBefore h w p → NotSealedAt v h w p
  hintless : (p : ℕ) → v.has_hint ≡ false → p < 138 → get_or h p 0 ≢ get_or w p 0 → SameBefore h w p → NotSealedAt v h w p
  no_hint : v.has_hint ≡ false → SameBefore h w 138 → NotSealedAt v h w 138

-- Of every buffer s, and every output in which the writer writes what was read.
pub record SealedReads (s : List ℕ) : Type 0 where
  -- The ordinary reader's refusals come first.
  pub first : (n p : ℕ) → read_header s ≡ refused n p → read_sealed s ≡ refused n p
  -- A sealed header gives the ordinary reader's values.
  pub values : (v : Header) → read_sealed s ≡ gives v → read_header s ≡ gives v
  -- A header that the ordinary reader takes is sealed exactly if its 256 bytes are what the writer makes of its values, with a hint.
  pub sealed : (v : Header) → read_header s ≡ gives v → (out : List ℕ) → 256 ≤ length out
      → (read_sealed s ≡ gives v) ↔ ((v.has_hint ≡ true) × (take 256 s ≡ take 256 (write_header v out).bytes))
  -- Else it is 21.
  pub either : (v : Header) → read_header s ≡ gives v → (read_sealed s ≡ gives v) ⊎ ((p : ℕ) × (read_sealed s ≡ refused 21 p))
  -- 21 is told exactly of a header that the ordinary reader takes and that is not sealed at this place.
  pub not_sealed : (p : ℕ) (out : List ℕ) → 256 ≤ length out
      → (read_sealed s ≡ refused 21 p)
      ↔ ((v : Header) × (read_header s ≡ gives v) × NotSealedAt v (take 256 s) (take 256 (write_header v out).bytes) p)
  -- Magic and size never differ: 21 stands at 8 or behind.
  pub behind_size : (p : ℕ) → read_sealed s ≡ refused 21 p → (8 ≤ p) × (p < 256)

abbrev pub WhatIsSealed : Type 0
WhatIsSealed = (s : List ℕ) → AllBytes s → SealedReads s

-- Two sealed headers carry the same values and size exactly if their 256 bytes are equal.
abbrev pub SameValuesSameBytes : Type 0
SameValuesSameBytes =
    (s t : List ℕ) → AllBytes s → AllBytes t → (u v : Header) → read_sealed s ≡ gives u → read_sealed t ≡ gives v
    → (u ≡ v) ↔ (take 256 s ≡ take 256 t)

-- ---- the sealed writer

-- The sealed writer, called with v and the output `out`, has left w: the sealed form, with what holds of the ordinary writer
-- (`RoundTrip`); and the sealed reader takes what was written, whatever stands behind it.
pub record SealedTrip (w : Write) (out : List ℕ) (v : Header) : Type 0 where
  pub form : SealedForm w.bytes
  pub trip : RoundTrip w out v v
  pub back : read_sealed w.bytes ≡ gives v
  pub alone : (rest : List ℕ) → read_sealed (take 256 w.bytes ++ rest) ≡ gives v

-- What the sealed writer writes the sealed reader takes: of every header that can be held and has a hint, in every output that has room.
abbrev pub WriteThenReadSealed : Type 0
WriteThenReadSealed = (v : Header) → Holdable v → v.has_hint ≡ true → (out : List ℕ) → 256 ≤ length out → SealedTrip (write_sealed v out) out v

-- What the sealed reader gave, once the sealed writer writes it, is the same 256 bytes again.
abbrev pub ReadThenWriteSealed : Type 0
ReadThenWriteSealed =
    (s : List ℕ) → AllBytes s → (v : Header) → read_sealed s ≡ gives v → (out : List ℕ) → 256 ≤ length out
    → write_sealed v out ≡ write (gives tt) (take 256 s ++ drop 256 out)

-- When the sealed writer refuses, and that a refusal changes no byte: 16 exactly if the output is shorter than a header; else 3 exactly if
-- the size is 0; else 21 at 138 exactly if there is no hint; else the header is taken, and what is left is what the writer leaves.
pub record SealedWriterRefuses (v : Header) (out : List ℕ) : Type 0 where
  pub short : (write_sealed v out ≡ write (refused 16 0) out) ↔ (length out < 256)
  pub zero : (write_sealed v out ≡ write (refused 3 4) out) ↔ ((256 ≤ length out) × (v.size ≡ 0))
  pub no_hint : (write_sealed v out ≡ write (refused 21 138) out) ↔ ((256 ≤ length out) × (v.size ≢ 0) × (v.has_hint ≡ false))
  pub taken : ((write_sealed v out).answer ≡ gives tt) ↔ ((256 ≤ length out) × (v.size ≢ 0) × (v.has_hint ≡ true))
  pub same : (write_sealed v out).answer ≡ gives tt → write_sealed v out ≡ write_header v out

abbrev pub WhenSealedWriterRefuses : Type 0
WhenSealedWriterRefuses = (v : Header) (out : List ℕ) → SealedWriterRefuses v out
