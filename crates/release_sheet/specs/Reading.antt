-- A release sheet: what its text states.
use Rattle.std.specs.Prelude.{◌≡◌, ℕ, ◌≤◌, ◌<◌, List, [], true, not, cond, length, get_or, replicate}
use Rattle.std.proofs.Math.Option.{Option, none, some}
use Rattle.numbers.specs.Answer.{Answer, gives, refused, then}
use Rattle.release_values.specs.declared.Stated.{Stated}
use Rattle.release_values.specs.Stated.{blank}
use Rattle.release_digits.specs.Digits.{decimal, hex_bytes}
use Rattle.header_tags.specs.Bytes.{same}
use Rattle.release_lines.specs.Lines.{no_hint, well_formed}
use Rattle.release_places.specs.Judging.{Seen, judged, rest_of_line}

-- The value of a row.
abbrev pub value_of : Option (List ℕ) → List ℕ
value_of none = []
value_of (some v) = v

abbrev pub value_in : Seen → ℕ → List ℕ
value_in seen row = value_of (get_or seen row none)

-- The bytes of a hint's value; with "no" they are 0.
abbrev pub hint_bytes : List ℕ → List ℕ
hint_bytes v = cond (same v no_hint) (replicate 32 0) (hex_bytes v)

-- What the five values state, by their rows: version, timestamp, signature, auth type, hint.
abbrev pub stated_in : Seen → Stated
stated_in seen =
    record {
      version = decimal (value_in seen 0);
      timestamp = decimal (value_in seen 1);
      signature = hex_bytes (value_in seen 2);
      auth_type = decimal (value_in seen 3);
      has_hint = not (same (value_in seen 4) no_hint);
      hint = hint_bytes (value_in seen 4);
    }

-- The reader of a sheet: the refusals in the order of the lines, or what is stated.
unfoldable pub read_sheet : List ℕ → Answer Stated
read_sheet text = then (judged text) (λ seen. gives (stated_in seen))

-- The values that the C call hands out: blank beside a refusal.
abbrev pub stated_of : Answer Stated → Stated
stated_of (gives v) = v
stated_of (refused n p) = blank

-- Inside: every row has a place within the text, and the value there passes the row's test.
pub record ValuesFit (text places : List ℕ) : Type 0 where
  pub seen : (row : ℕ) → row < 5 → get_or places row 0 ≡ 0 → ⊥
  pub within : (row : ℕ) → get_or places row 0 ≤ length text
  pub tested : (row : ℕ) → row < 5 → well_formed row (rest_of_line text (get_or places row 0)) ≡ true
