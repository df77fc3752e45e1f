-- A release sheet made from values reads back to them. Proved in proofs/.
use Rattle.std.specs.Prelude.{◌≡◌, ℕ, ◌<◌, List, [], ◌∷◌, ◌++◌, Bool, true, false, get_or}
use Rattle.numbers.specs.Answer.{gives}
use Rattle.numbers.specs.Every.{Every}
use Rattle.io.specs.Digits.{last_digits}
use Rattle.listing_lines.specs.Lines.{line, decimal}
use Rattle.release_values.specs.declared.Stated.{Stated}
use Rattle.release_values.specs.Stated.{Statable}
use Rattle.release_lines.specs.Lines.{lines, names, no_hint}
use Rattle.release_sheet.specs.Reading.{read_sheet}
use Rattle.release_claims.specs.FromLines.{named, OnlyLine, Known}

-- ---- the sheet of values

-- Bytes as hexadecimal digits: two small ones for each, the high one first.
unfoldable pub hex_text : List ℕ → List ℕ
hex_text [] = []
hex_text (b ∷ l) = last_digits 16 2 b ++ hex_text l

abbrev pub hint_text : Bool → List ℕ → List ℕ
hint_text true h = hex_text h
hint_text false h = no_hint

-- The value of each row as text.
abbrev pub texts : Stated → List (List ℕ)
texts v =
    decimal v.version
    ∷ decimal v.timestamp
    ∷ hex_text v.signature
    ∷ decimal v.auth_type
    ∷ hint_text v.has_hint v.hint
    ∷ []

-- The line of a row.
abbrev pub row_line : Stated → ℕ → List ℕ
row_line v row = line (named (get_or names row []) (get_or (texts v) row []))

-- Version, timestamp, auth type, signature, hint, each on a line of its own.
unfoldable pub sheet_of : Stated → List ℕ
sheet_of v = row_line v 0 ++ (row_line v 1 ++ (row_line v 3 ++ (row_line v 2 ++ row_line v 4)))

-- ---- what it reads as

-- The values that the code's type holds, with bytes for a signature and a hint.
pub record Writable (v : Stated) : Type 0 where
  pub statable : Statable v
  pub signature : Every (λ b. b < 256) v.signature
  pub hint : Every (λ b. b < 256) v.hint

abbrev pub SheetReadsBack : Type 0
SheetReadsBack = (v : Stated) → Writable v → read_sheet (sheet_of v) ≡ gives v

-- A text that states v in any order, with empty lines and comments: each row's name has one line with the row's text, and there are
-- no lines but known ones.
pub record SheetFor (v : Stated) (text : List ℕ) : Type 0 where
  pub rows : (row : ℕ) → row < 5 → OnlyLine (lines text) (get_or names row []) (get_or (texts v) row [])
  pub others : Every Known (lines text)

abbrev pub EverySheetReadsBack : Type 0
EverySheetReadsBack = (v : Stated) → Writable v → (text : List ℕ) → SheetFor v text → read_sheet text ≡ gives v

-- What is read can be written again: it has the values of the code's type. So its sheet, by the first claim, reads as the same.
abbrev pub ReadIsWritable : Type 0
ReadIsWritable = (text : List ℕ) (v : Stated) → read_sheet text ≡ gives v → Writable v
