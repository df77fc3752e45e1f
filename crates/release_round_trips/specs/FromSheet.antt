-- From a release sheet and a firmware to a good image: two calls, one behind the other, by what their contracts say. Proved in proofs/.
use Rattle.std.specs.Prelude.{◌≡◌, ℕ, ◌^◌, ◌≤◌, ◌<◌, List, Result, Ok, length, replicate}
use Rattle.numbers.specs.declared.WriteRefusal.{WriteRefusal}
use Rattle.numbers.specs.GivenBack.{sheet_answer, writer_answer}
use Rattle.header_writer.specs.Writing.{write}
use Rattle.release_lines.specs.Lines.{lines}
use Rattle.release_values.specs.declared.Stated.{Stated}
use Rattle.release_sheet.specs.Reading.{read_sheet}
use Rattle.release_claims.specs.FromLines.{FromLines}
use Rattle.release_claims.specs.Witness.{listed}
use Rattle.release_header.specs.Making.{header_for, make_header}
use Rattle.release_round_trips.specs.Made.{MadeGood, example_firmware}

-- A call of `read_sheet` was lent the text, and a call of `make_header` its values v, a firmware and the output `out`.
pub record Released (text : List ℕ) (v : Stated) (firmware out : List ℕ) (o : Result (Unit {0}) WriteRefusal) (left : List ℕ) : Type 0 where
  -- The first accepted the sheet, and gave v.
  pub reads : sheet_answer (Ok v) ≡ read_sheet text
  -- The second answered o, and left these bytes of the output.
  pub makes : write (writer_answer o) left ≡ make_header v firmware out
  -- Four bytes can count the firmware, and the output has room for a header.
  pub some : 0 < length firmware
  pub countable : length firmware < 2 ^ 32
  pub room : 256 ≤ length out

-- The image that is made is good, with the firmware's size and the digest of header and firmware, and each other value is the one that stands
-- on its line of the sheet.
pub record ReleaseGood (text : List ℕ) (v : Stated) (firmware out : List ℕ) (o : Result (Unit {0}) WriteRefusal) (left : List ℕ) : Type 0 where
  pub image : MadeGood (write (writer_answer o) left) v firmware out
  pub stated : FromLines (lines text) v

abbrev pub SheetToImage : Type 0
SheetToImage =
    (text : List ℕ) (v : Stated) (firmware out : List ℕ) (o : Result (Unit {0}) WriteRefusal) (left : List ℕ)
    → Released text v firmware out o left → ReleaseGood text v firmware out o left

-- The digest can be taken of a sheet before its signature is known: two sheets that are accepted, with the same version and timestamp, have one
-- digest with a firmware, whatever else stands on them.
abbrev pub SignedAfterwards : Type 0
SignedAfterwards =
    (text text' : List ℕ) (v v' : Stated) (firmware : List ℕ) → sheet_answer (Ok v) ≡ read_sheet text → sheet_answer (Ok v') ≡ read_sheet text'
    → v.version ≡ v'.version → v.timestamp ≡ v'.timestamp → (header_for v firmware).digest ≡ (header_for v' firmware).digest

-- The premise can be met: by the sheet of 01's listing and a firmware of 256 bytes.
pub record SheetMet : Type 0 where
  pub values : Stated
  pub answer : Result (Unit {0}) WriteRefusal
  pub left : List ℕ
  pub released : Released listed values example_firmware (replicate 256 0) answer left
