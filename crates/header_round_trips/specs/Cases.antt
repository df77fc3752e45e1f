-- Document 01, "Marked cases", 7 to 9, as kinds of case that one list can hold.
use Rattle.std.specs.Prelude.{◌≡◌, ℕ, ◌^◌, ◌≤◌, ◌<◌, List, [], ◌∷◌, ◌++◌, Bool, true, false, length, take, replicate}
use Rattle.numbers.specs.Answer.{gives, refused}
use Rattle.numbers.specs.Every.{Every}
use Rattle.header_tags.specs.Walk.{first_tag, end, item_at, Tags, ended, more, tags_at}
use Rattle.header_tags.specs.Bytes.{little_endian}
use Rattle.header_reader.specs.declared.Header.{Header}
use Rattle.header_reader.specs.Reading.{magic, read_header}
use Rattle.header_writer.specs.Writing.{write_header}
use Rattle.header_round_trips.specs.RoundTrips.{Holdable}

pub data HeaderCase : Type 0 where
  -- every header that is written, with or without hint, into an output that has room has just these tags (place, type, length), and its
  -- end at this place
  written : Bool → Tags → ℕ → HeaderCase
  -- every header with these bytes from 8 on is this refusal, at this place
  refusing : List ℕ → ℕ → ℕ → HeaderCase

-- What a case says. The written header is the first 256 bytes of what the writer leaves.
abbrev pub HeaderCaseHolds : HeaderCase → Type 0
HeaderCaseHolds (written hint tags place) =
    (v : Header) → Holdable v → v.has_hint ≡ hint → (out : List ℕ) → 256 ≤ length out
    → ((write_header v out).answer ≡ gives tt)
    × (tags_at (take 256 (write_header v out).bytes) first_tag ≡ tags)
    × (item_at (take 256 (write_header v out).bytes) place ≡ gives end)
HeaderCaseHolds (refusing bytes number place) =
    (size : ℕ) → 0 < size → size < 2 ^ 32 → read_header (magic ++ (little_endian 4 size ++ bytes)) ≡ refused number place

-- Case 9's two version tags: one of length 4, then one of length 3, then padding.
abbrev pub two_versions : List ℕ
two_versions = 0x01 ∷ 0x00 ∷ 4 ∷ 0 ∷ 7 ∷ 0 ∷ 0 ∷ 0 ∷ 0x01 ∷ 0x00 ∷ 3 ∷ 0 ∷ 7 ∷ 0 ∷ 0 ∷ replicate 233 0xFF

-- Lines 7 (without and with hint), 8 (FF, and 01 at 255) and 9.
abbrev pub header_cases : List HeaderCase
header_cases =
    written false (more 8 0x0001 4 (more 16 0x0002 8 (more 28 0x0003 32 (more 64 0x0020 64 (more 132 0x0030 2 ended))))) 138
    ∷ written true
    (more 8 0x0001 4 (more 16 0x0002 8 (more 28 0x0003 32 (more 64 0x0020 64 (more 132 0x0030 2 (more 138 0x1000 32 ended))))))
    174
    ∷ refusing (replicate 248 0xFF) 7 256
    ∷ refusing (replicate 247 0xFF ++ 0x01 ∷ []) 4 255
    ∷ refusing two_versions 5 16
    ∷ []

-- All of them, as one claim.
abbrev pub HeaderCases : Type 0
HeaderCases = Every HeaderCaseHolds header_cases
