-- The rows of numbers and bytes of a header and a tag.
use Rattle.std.specs.Prelude.{ℕ, Bool, true, false, List, [], ◌∷◌, ◌++◌}
use Rattle.numbers.specs.Answer.{Answer, gives, refused}
use Rattle.header_reader.specs.declared.Header.{Header}
use Rattle.header_reader.specs.Reading.{bytes_at}
use Rattle.header_tags.specs.Walk.{Item, tag, end}

-- A bool as a number.
abbrev pub bit_of : Bool → ℕ
bit_of true = 1
bit_of false = 0

-- A header's numbers, behind the place of a refusal.
abbrev pub header_numbers : ℕ → Header → List ℕ
header_numbers place v =
    place ∷ v.size ∷ v.version ∷ v.timestamp ∷ v.auth_type ∷ bit_of v.has_hint ∷ []

-- A header's bytes: digest, signature and hint, one behind another.
abbrev pub bytes_of : Header → List ℕ
bytes_of v = v.digest ++ (v.signature ++ v.hint)

-- Of a tag: the place of a refusal; 1 for a tag; the tag's place, type and length; and the place to go on from.
abbrev pub tag_row : Answer Item → ℕ → List ℕ
tag_row (gives (tag q t n)) next = 0 ∷ 1 ∷ q ∷ t ∷ n ∷ next ∷ []
tag_row (gives end) next = 0 ∷ 0 ∷ 0 ∷ 0 ∷ 0 ∷ next ∷ []
tag_row (refused m q) next = q ∷ 0 ∷ 0 ∷ 0 ∷ 0 ∷ next ∷ []

-- The values to write: the numbers, and digest, signature and hint as they stand in b.
abbrev pub values_from : ℕ → ℕ → ℕ → ℕ → Bool → List ℕ → Header
values_from size version timestamp auth hint b =
    record {
      size = size;
      version = version;
      timestamp = timestamp;
      digest = bytes_at b 0 32;
      signature = bytes_at b 32 64;
      auth_type = auth;
      has_hint = hint;
      hint = bytes_at b 96 32;
    }
