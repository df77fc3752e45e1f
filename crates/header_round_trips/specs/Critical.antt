-- Document 02, "Tags that must be understood": that the writer makes no such tag, and cases of the rule. Proved in proofs/.
use Rattle.std.specs.Prelude.{◌≡◌, ℕ, ◌≤◌, ◌<◌, List, [], ◌∷◌, ◌++◌, length, take, replicate}
use Rattle.numbers.specs.Every.{Every}
use Rattle.header_tags.specs.Bytes.{little_endian, tag_bytes}
use Rattle.header_tags.specs.Standing.{TagAt}
use Rattle.header_places.specs.Table.{document_table, bounded_by}
use Rattle.header_places.specs.Judging.{places_in}
use Rattle.header_places.specs.RuledOut.{Known}
use Rattle.header_reader.specs.declared.Header.{Header}
use Rattle.header_writer.specs.Writing.{write_header}
use Rattle.header_round_trips.specs.RoundTrips.{Holdable}
use Rattle.header_round_trips.specs.Cases.{HeaderCase, HeaderCaseHolds, refusing}

-- The writer has left b: each tag in it is known, and none is of a type from 8000 up. So the rule does not touch the reading of it: with
-- any other bound, also one above every type, its tags stand at the same places.
pub record AllKnown (b : List ℕ) : Type 0 where
  pub known : (q t : ℕ) → TagAt b q t → Known document_table t
  pub low : (q t : ℕ) → TagAt b q t → t < 0x8000
  pub untouched : (bound : ℕ) → places_in (bounded_by bound document_table) (take 256 b) ≡ places_in document_table (take 256 b)

-- Of every header that can be held, in every output that has room for it; `PremisesMet` has such headers.
abbrev pub WritesNoCritical : Type 0
WritesNoCritical = (v : Header) → Holdable v → (out : List ℕ) → 256 ≤ length out → AllKnown (write_header v out).bytes

-- A tag of type t whose value has n bytes, all 0; and padding.
abbrev pub tag_of : ℕ → ℕ → List ℕ
tag_of t n = tag_bytes t (replicate n 0)

abbrev pub padding : ℕ → List ℕ
padding n = replicate n 0xFF

-- Headers with these bytes from 8 on:
abbrev pub critical_cases : List HeaderCase
critical_cases =
    -- 8000, and a version of length 3 behind it: 18. The other way round: 5.
    refusing (tag_of 0x8000 0 ++ (tag_of 0x0001 3 ++ padding 237)) 18 8
    ∷ refusing (tag_of 0x0001 3 ++ (tag_of 0x8000 0 ++ padding 237)) 5 8
    -- Padding, and FFFE twice, without an end: the first one is told.
    ∷ refusing (padding 1 ++ (tag_of 0xFFFE 2 ++ (tag_of 0xFFFE 2 ++ padding 235))) 18 9
    -- 8000 whose value ends at 256, and one that would end at 257: 4.
    ∷ refusing (tag_of 0x8000 244) 18 8
    ∷ refusing (little_endian 2 0x8000 ++ (little_endian 2 245 ++ replicate 244 0)) 4 8
    -- In the last four bytes; with two bytes left: 4.
    ∷ refusing (padding 244 ++ tag_of 0x8000 0) 18 252
    ∷ refusing (padding 246 ++ little_endian 2 0x8000) 4 254
    -- Behind a version and 7FFE, which are passed. Behind two versions: 6.
    ∷ refusing (tag_of 0x0001 4 ++ (tag_of 0x7FFE 0 ++ (tag_of 0x8000 0 ++ padding 232))) 18 20
    ∷ refusing (tag_of 0x0001 4 ++ (tag_of 0x0001 4 ++ (tag_of 0x8000 0 ++ padding 228))) 6 16
    -- 7FFE twice, and the end: they are skipped, and the version is missing. The end, and 8000: it is not read.
    ∷ refusing (tag_of 0x7FFE 0 ++ (tag_of 0x7FFE 0 ++ (0 ∷ 0 ∷ padding 238))) 8 0x0001
    ∷ refusing (0 ∷ 0 ∷ tag_of 0x8000 0 ++ padding 242) 8 0x0001
    ∷ []

-- All of them, as one claim.
abbrev pub CriticalCases : Type 0
CriticalCases = Every HeaderCaseHolds critical_cases
