-- Document 01, "The header": "then the end, then FF to 256". Proved in proofs/.
use Rattle.std.specs.Prelude.{◌≡◌, ◌≢◌, ℕ, ◌+◌, ◌≤◌, ◌<◌, List, Bool, true, false, length, get_or}
use Rattle.header_reader.specs.declared.Header.{Header}
use Rattle.header_writer.specs.Writing.{write_header}

-- Where the end stands: behind the five required tags, or behind the hint's (marked case 7).
abbrev pub end_place : Bool → ℕ
end_place false = 138
end_place true = 174

-- The bytes l have the end at p, type 0000 in two bytes, and nothing but FF behind it up to 256.
pub record EndsFilled (l : List ℕ) (p : ℕ) : Type 0 where
  pub low : get_or l p 0 ≡ 0x00
  pub high : get_or l (p + 1) 0 ≡ 0x00
  pub filled : (i : ℕ) → p + 2 ≤ i → i < 256 → get_or l i 0 ≡ 0xFF

-- Of every header that the writer takes, whose byte strings have the table's lengths, and every output that has room.
abbrev pub FillsTo256 : Type 0
FillsTo256 =
    (v : Header) → v.size ≢ 0 → length v.digest ≡ 32 → length v.signature ≡ 64 → length v.hint ≡ 32
    → (out : List ℕ) → 256 ≤ length out → EndsFilled (write_header v out).bytes (end_place v.has_hint)
