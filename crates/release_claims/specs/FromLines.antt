-- A release sheet that is read: no value without its line. Proved in proofs/.
use Rattle.std.specs.Prelude.{◌≡◌, ℕ, ◌<◌, List, [], ◌∷◌, ◌++◌, true, not, ◌≢◌, ◌⊎◌, get_or}
use Rattle.numbers.specs.Answer.{gives}
use Rattle.numbers.specs.Every.{Every}
use Rattle.release_values.specs.declared.Stated.{Stated}
use Rattle.release_digits.specs.Digits.{decimal, hex_bytes}
use Rattle.header_tags.specs.Bytes.{same}
use Rattle.release_lines.specs.Lines.{lines, names, no_hint, well_formed, passed_over}
use Rattle.release_sheet.specs.Reading.{hint_bytes, read_sheet}

-- A name, a space and a value.
abbrev pub named : List ℕ → List ℕ → List ℕ
named name v = name ++ (32 ∷ v)

-- Of the lines ls one has this name, with the value v; none before or behind it has the name, with whatever value.
pub record OnlyLine (ls : List (List ℕ)) (name v : List ℕ) : Type 0 where
  pub before : List (List ℕ)
  pub behind : List (List ℕ)
  pub is : ls ≡ before ++ (named name v ∷ behind)
  pub alone : Every (λ l. (w : List ℕ) → l ≢ named name w) (before ++ behind)

-- A line that is passed over, or has a name of the table, with whatever value.
abbrev pub Known : List ℕ → Type 0
Known l = (passed_over l ≡ true) ⊎ ((row : ℕ) × (row < 5) × ((w : List ℕ) × (l ≡ named (get_or names row []) w)))

-- The name of a row has one line of ls; its value passes the row's test, and Q holds of it.
pub record HasLine (ls : List (List ℕ)) (row : ℕ) (Q : List ℕ → Type 0) : Type 0 where
  pub value : List ℕ
  pub line : OnlyLine ls (get_or names row []) value
  pub tested : well_formed row value ≡ true
  pub stated : Q value

-- Each value of v stands on the one line of its name, and no line is there but these and the ones that are passed over.
pub record FromLines (ls : List (List ℕ)) (v : Stated) : Type 0 where
  pub version : HasLine ls 0 (λ x. v.version ≡ decimal x)
  pub timestamp : HasLine ls 1 (λ x. v.timestamp ≡ decimal x)
  pub signature : HasLine ls 2 (λ x. v.signature ≡ hex_bytes x)
  pub auth_type : HasLine ls 3 (λ x. v.auth_type ≡ decimal x)
  pub hint : HasLine ls 4 (λ x. (v.has_hint ≡ not (same x no_hint)) × (v.hint ≡ hint_bytes x))
  pub others : Every Known ls

abbrev pub NoValueWithoutItsLine : Type 0
NoValueWithoutItsLine = (text : List ℕ) (v : Stated) → read_sheet text ≡ gives v → FromLines (lines text) v
