-- A release sheet's lines: how a text is cut into them, and what one line says. Text is ASCII codes.
use Rattle.std.specs.Prelude.{◌≡◌, ℕ, suc, ◌+◌, ◌-◌, ◌^◌, ◌≤◌, ◌<◌, List, [], ◌∷◌, Bool, true, false, cond, ◌||◌, length, get_or, take, drop, eqb, Option, Some, None, Result, Ok}
use Rattle.header_tags.specs.Bytes.{same}
use Rattle.numbers.specs.Answer.{Answer, gives, refused, then}
use Rattle.numbers.specs.GivenBack.{sheet_answer}
use Rattle.numbers.specs.declared.SheetRefusal.{SheetRefusal}
use Rattle.release_digits.specs.Digits.{decimal_up_to, hex_digits}
use Rattle.release_lines.specs.Search.{index_of}
use Rattle.release_lines.specs.declared.Value.{Value}

-- ---- lines

-- c in front of the first line.
abbrev pub in_front : ℕ → List (List ℕ) → List (List ℕ)
in_front c [] = (c ∷ []) ∷ []
in_front c (l ∷ ls) = (c ∷ l) ∷ ls

-- A text is cut at each line feed (10), which belongs to no line. What stands behind the last one is a line too, if only an empty one.
unfoldable pub lines : List ℕ → List (List ℕ)
lines [] = [] ∷ []
lines (c ∷ text) = elim (eqb c 10) [ true ↦ [] ∷ lines text | false ↦ in_front c (lines text) ]

-- ---- the table of names

-- "version"
abbrev pub version : List ℕ
version = 118 ∷ 101 ∷ 114 ∷ 115 ∷ 105 ∷ 111 ∷ 110 ∷ []

-- "timestamp"
abbrev pub timestamp : List ℕ
timestamp = 116 ∷ 105 ∷ 109 ∷ 101 ∷ 115 ∷ 116 ∷ 97 ∷ 109 ∷ 112 ∷ []

-- "signature"
abbrev pub signature : List ℕ
signature = 115 ∷ 105 ∷ 103 ∷ 110 ∷ 97 ∷ 116 ∷ 117 ∷ 114 ∷ 101 ∷ []

-- "auth"
abbrev pub auth : List ℕ
auth = 97 ∷ 117 ∷ 116 ∷ 104 ∷ []

-- "hint"
abbrev pub hint : List ℕ
hint = 104 ∷ 105 ∷ 110 ∷ 116 ∷ []

-- "no", the value of a sheet without a hint
abbrev pub no_hint : List ℕ
no_hint = 110 ∷ 111 ∷ []

-- The five names, in the order of the types that their values have in a header.
abbrev pub names : List (List ℕ)
names = version ∷ timestamp ∷ signature ∷ auth ∷ hint ∷ []

abbrev pub types : List ℕ
types = 0x0001 ∷ 0x0002 ∷ 0x0020 ∷ 0x0030 ∷ 0x1000 ∷ []

-- A hint's value: "no", or 32 bytes.
abbrev pub is_hint : List ℕ → Bool
is_hint v = same v no_hint || hex_digits 64 v

-- The test of each row's value: numbers within 32, 64 and 16 bits, a signature of 64 bytes, a hint.
abbrev pub tests : List (List ℕ → Bool)
tests =
    (λ v. decimal_up_to (2 ^ 32 - 1) v)
    ∷ (λ v. decimal_up_to (2 ^ 64 - 1) v)
    ∷ (λ v. hex_digits 128 v)
    ∷ (λ v. decimal_up_to (2 ^ 16 - 1) v)
    ∷ (λ v. is_hint v)
    ∷ []

abbrev pub well_formed : ℕ → List ℕ → Bool
well_formed row v = get_or tests row (λ w. false) v

-- The first row at which a name stands, or the number of rows.
unfoldable pub row_named : List (List ℕ) → List ℕ → ℕ
row_named [] x = 0
row_named (y ∷ rows) x = elim (same x y) [ true ↦ 0 | false ↦ suc (row_named rows x) ]

-- ---- what a line says

-- Nothing, where it is passed over; or the value of a row.
pub data Entry : Type 0 where
  nothing : Entry
  value : ℕ → List ℕ → Entry

-- An empty line, and one that begins with "#", is passed over.
abbrev pub passed_over : List ℕ → Bool
passed_over [] = true
passed_over (c ∷ l) = eqb c 35

-- Line number n. It is cut at its first space (32): the name stands before it, the value behind it. Without a space it is not
-- understood, 101; a name that stands in no row is 102; a value that does not pass its row's test is 103.
unfoldable pub line_of : ℕ → List ℕ → Answer Entry
line_of n l =
    let space = index_of 32 l in
    let row = row_named names (take space l) in
    let behind = drop (space + 1) l in
    cond (passed_over l) (gives nothing)
    (cond (eqb space (length l)) (refused 101 n)
    (cond (eqb row 5) (refused 102 n)
    (cond (well_formed row behind) (gives (value row behind))
    (refused 103 n))))

-- ---- what the reader of a line hands out

-- Nothing, or a value's row and at which place of the line it begins.
abbrev pub entry_of : List ℕ → Option Value → Entry
entry_of l None = nothing
entry_of l (Some v) = value v.row (drop v.from l)

-- Of line number n, l: what it says, and that a value begins within the line, behind its first byte.
pub record LineRead (n : ℕ) (l : List ℕ) (r : Result (Option Value) SheetRefusal) : Type 0 where
  pub says : then (sheet_answer r) (λ v. gives (entry_of l v)) ≡ line_of n l
  pub within : (v : Value) → r ≡ Ok (Some v) → (v.row < 5) × (0 < v.from) × (v.from ≤ length l)
