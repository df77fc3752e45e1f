-- A release sheet's values: decimal numbers, and bytes in hexadecimal digits. Digits are ASCII codes.
use Rattle.std.specs.Prelude.{ℕ, ◌+◌, ◌-◌, ◌*◌, List, [], ◌∷◌, Bool, cond, ◌&&◌, length, ltb, leb, eqb}
use Rattle.std.specs.List.{list_all}

-- c is one of the codes from a to b.
abbrev pub between : ℕ → ℕ → ℕ → Bool
between a b c = leb a c && leb c b

-- ---- decimal numbers

-- "0" to "9"
abbrev pub is_digit : ℕ → Bool
is_digit c = between 48 57 c

unfoldable pub all_digits : List ℕ → Bool
all_digits l = list_all is_digit l

-- The number of the digits l behind digits that stand for n: each digit is worth a tenth of the one before.
unfoldable pub number_from : ℕ → List ℕ → ℕ
number_from n [] = n
number_from n (c ∷ l) = number_from (10 * n + (c - 48)) l

abbrev pub decimal : List ℕ → ℕ
decimal l = number_from 0 l

-- A decimal number of at most `most`: one digit or more and nothing else, so no sign and no space. Zeros in front are taken.
abbrev pub decimal_up_to : ℕ → List ℕ → Bool
decimal_up_to most l = ltb 0 (length l) && (all_digits l && leb (decimal l) most)

-- ---- bytes in hexadecimal digits

-- What a hexadecimal digit is worth, small or capital; 16 stands for no digit.
abbrev pub hex_digit : ℕ → ℕ
hex_digit c = cond (is_digit c) (c - 48) (cond (between 97 102 c) (c - 87) (cond (between 65 70 c) (c - 55) 16))

unfoldable pub all_hex : List ℕ → Bool
all_hex l = list_all (λ c. ltb (hex_digit c) 16) l

-- Exactly n hexadecimal digits.
abbrev pub hex_digits : ℕ → List ℕ → Bool
hex_digits n l = eqb (length l) n && all_hex l

-- The bytes, each of two digits, the high one first.
unfoldable pub hex_bytes : List ℕ → List ℕ
hex_bytes [] = []
hex_bytes (a ∷ []) = []
hex_bytes (a ∷ b ∷ l) = (16 * hex_digit a + hex_digit b) ∷ hex_bytes l
