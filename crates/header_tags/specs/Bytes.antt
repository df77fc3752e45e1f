-- Numbers and tags as bytes, and bytes that are the same.
use Rattle.std.specs.Prelude.{ℕ, zero, suc, ◌+◌, ◌*◌, ◌/◌, ◌%◌, ◌<◌, Bool, true, false, ◌&&◌, List, [], ◌∷◌, ◌++◌, eqb, length, get_or}

-- Each entry is a byte.
abbrev pub AllBytes : List ℕ → Type 0
AllBytes s = (i : ℕ) → get_or s i 0 < 256

-- Source 000 stores the numbers of a header with the low byte first: v in n bytes, and the number that bytes are.
abbrev pub little_endian : ℕ → ℕ → List ℕ
little_endian zero v = []
little_endian (suc n) v = v % 256 ∷ little_endian n (v / 256)

abbrev pub number : List ℕ → ℕ
number [] = 0
number (b ∷ l) = b + 256 * number l

-- A tag to write: its type and its value.
pub record Field : Type 0 where
  pub type : ℕ
  pub value : List ℕ

-- A tag as source 000 lays it out: the type in two bytes, the length of the value in two bytes, the value.
abbrev pub tag_bytes : ℕ → List ℕ → List ℕ
tag_bytes t v = little_endian 2 t ++ (little_endian 2 (length v) ++ v)

-- Tags one behind another, without padding.
unfoldable pub field_bytes : List Field → List ℕ
field_bytes [] = []
field_bytes (f ∷ l) = tag_bytes f.type f.value ++ field_bytes l

-- Two strings of bytes are the same, or not.
unfoldable pub same : List ℕ → List ℕ → Bool
same [] [] = true
same [] (y ∷ ys) = false
same (x ∷ xs) [] = false
same (x ∷ xs) (y ∷ ys) = eqb x y && same xs ys
