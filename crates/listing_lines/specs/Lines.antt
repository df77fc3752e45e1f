-- Document 01, the listing program: the lines that it prints, byte by byte, as ASCII codes.
use Rattle.std.specs.Prelude.{ℕ, zero, suc, ◌/◌, List, [], ◌∷◌, ◌++◌, Bool, true, false, ltb}
use Rattle.io.specs.Digits.{last_digits, IsDigitCount}
use Rattle.header_reader.specs.declared.Header.{Header}

-- How many decimal digits a number has: one if it is below 10, else one more than its tenth. The first argument bounds the count.
unfoldable pub digits_within : ℕ → ℕ → ℕ
digits_within zero n = 1
digits_within (suc most) n = elim (ltb n 10) [ true ↦ 1 | false ↦ suc (digits_within most (n / 10)) ]

-- No number has more digits than the number itself, save 0, which has one.
abbrev pub digit_count : ℕ → ℕ
digit_count n = digits_within n n

-- A value's digits are the fewest that hold it, and at least one.
abbrev pub FewestDigits : Type 0
FewestDigits = (n : ℕ) → IsDigitCount 10 1 n (digit_count n)

-- Values, numbers and places are printed in decimal: at least one digit, and no zero in front of another.
unfoldable pub decimal : ℕ → List ℕ
decimal n = last_digits 10 (digit_count n) n

-- Words with a number behind them.
abbrev pub named : List ℕ → ℕ → List ℕ
named words n = words ++ decimal n

-- Text with a line end behind it.
abbrev pub line : List ℕ → List ℕ
line text = text ++ 10 ∷ []

-- The names of the four numbers. "size "
abbrev pub size : List ℕ
size = 115 ∷ 105 ∷ 122 ∷ 101 ∷ 32 ∷ []

-- "version "
abbrev pub version : List ℕ
version = 118 ∷ 101 ∷ 114 ∷ 115 ∷ 105 ∷ 111 ∷ 110 ∷ 32 ∷ []

-- "timestamp "
abbrev pub timestamp : List ℕ
timestamp = 116 ∷ 105 ∷ 109 ∷ 101 ∷ 115 ∷ 116 ∷ 97 ∷ 109 ∷ 112 ∷ 32 ∷ []

-- "auth "
abbrev pub auth : List ℕ
auth = 97 ∷ 117 ∷ 116 ∷ 104 ∷ 32 ∷ []

-- "hint yes" where the header has a hint, "hint no" where it has none.
abbrev pub hint : Bool → List ℕ
hint true = 104 ∷ 105 ∷ 110 ∷ 116 ∷ 32 ∷ 121 ∷ 101 ∷ 115 ∷ []
hint false = 104 ∷ 105 ∷ 110 ∷ 116 ∷ 32 ∷ 110 ∷ 111 ∷ []

-- "refused ", before a refusal's number
abbrev pub refused_word : List ℕ
refused_word = 114 ∷ 101 ∷ 102 ∷ 117 ∷ 115 ∷ 101 ∷ 100 ∷ 32 ∷ []

-- " at ", before its place
abbrev pub at_word : List ℕ
at_word = 32 ∷ 97 ∷ 116 ∷ 32 ∷ []

-- A header's five fields, each by name and value on a line of its own, the hint as yes or no.
unfoldable pub fields : Header → List ℕ
fields v =
    line (named size v.size)
    ++ (line (named version v.version)
    ++ (line (named timestamp v.timestamp) ++ (line (named auth v.auth_type) ++ line (hint v.has_hint))))

-- A refusal is one line: its number, and its place.
unfoldable pub refusal : ℕ → ℕ → List ℕ
refusal n p = line (named refused_word n ++ named at_word p)
