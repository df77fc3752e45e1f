-- What a C caller of `tainhosa_read_sheet` and `tainhosa_make_header` gets.
use Rattle.std.specs.Prelude.{ℕ, Bool, cond, ◌&&◌, List, eqb, length}
use Rattle.numbers.specs.declared.Refused.{Refused}
use Rattle.numbers.specs.GivenBack.{refusal_of}
use Rattle.header_reader.specs.Reading.{bytes_at}
use Rattle.release_values.specs.declared.Stated.{Stated}
use Rattle.release_header.specs.Making.{make_header}
use Rattle.release_sheet.specs.Reading.{read_sheet, stated_of}
use Rattle.c_release.specs.Rows.{sheet_numbers, sheet_bytes}
use Rattle.tainhosa.specs.Headers.{Given, after_header, Wrote, wrote_from}

-- A refusal or none, and what a sheet states, in buffers of 5 numbers and 96 bytes; else 1, and both stay as they were.
abbrev pub sheet_given : Refused → Stated → List ℕ → List ℕ → Given
sheet_given x v n b =
    cond (eqb (length n) 5 && eqb (length b) 96)
    (after_header x.number (sheet_numbers x.place v) (sheet_bytes v))
    (after_header 1 n b)

-- What the reader of a sheet says of a text: 0 and the values, or a refusal, its line, and blank values.
abbrev pub sheet_read : List ℕ → List ℕ → List ℕ → Given
sheet_read text n b = sheet_given (refusal_of (read_sheet text)) (stated_of (read_sheet text)) n b

-- What the caller states: the numbers, and signature and hint as they stand in b.
abbrev pub stated_from : ℕ → ℕ → ℕ → Bool → List ℕ → Stated
stated_from version timestamp auth hint b =
    record {
      version = version;
      timestamp = timestamp;
      auth_type = auth;
      signature = bytes_at b 0 64;
      has_hint = hint;
      hint = bytes_at b 64 32;
    }

-- The header that is made for a firmware with the values v, of which 96 bytes are lent.
abbrev pub make_answer : List ℕ → List ℕ → Stated → List ℕ → List ℕ → Wrote
make_answer out firmware v b row = wrote_from 96 (make_header v firmware out) out b row
