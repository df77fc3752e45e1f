-- Document 02, "Sealed headers": cases. Each is computed; proved in proofs/.
use Rattle.std.specs.Prelude.{◌≡◌, ℕ, List, [], ◌∷◌, ◌++◌, true}
use Rattle.numbers.specs.Answer.{gives, refused}
use Rattle.numbers.specs.Every.{Every}
use Rattle.header_tags.specs.Bytes.{AllBytes}
use Rattle.header_reader.specs.declared.Header.{Header}
use Rattle.header_reader.specs.Reading.{magic}
use Rattle.header_writer.specs.Writing.{header_bytes}
use Rattle.header_round_trips.specs.RoundTrips.{Holdable, example}
use Rattle.header_round_trips.specs.Critical.{tag_of, padding}
use Rattle.header_sealed.specs.Profile.{read_sealed}

-- A header of a firmware of 256 bytes, with these bytes from 8 on: it is sealed, or it is refused with this number at this place.
pub data SealedCase : Type 0 where
  sealed : List ℕ → SealedCase
  refusing : List ℕ → ℕ → ℕ → SealedCase

abbrev pub header_of : List ℕ → List ℕ
header_of bytes = magic ++ (0 ∷ 1 ∷ 0 ∷ 0 ∷ bytes)

abbrev pub SealedCaseHolds : SealedCase → Type 0
SealedCaseHolds (sealed bytes) = (v : Header) × (read_sealed (header_of bytes) ≡ gives v)
SealedCaseHolds (refusing bytes number place) = read_sealed (header_of bytes) ≡ refused number place

-- The tags of the table, with values that are all 0.
abbrev pub version : List ℕ
version = tag_of 0x0001 4

abbrev pub timestamp : List ℕ
timestamp = tag_of 0x0002 8

abbrev pub digest : List ℕ
digest = tag_of 0x0003 32

abbrev pub signature : List ℕ
signature = tag_of 0x0020 64

abbrev pub auth : List ℕ
auth = tag_of 0x0030 2

abbrev pub hint : List ℕ
hint = tag_of 0x1000 32

-- In the table's order: three tags, the required ones, and all six.
abbrev pub digest_to_auth : List ℕ
digest_to_auth = digest ++ (signature ++ auth)

abbrev pub required : List ℕ
required = version ++ (timestamp ++ digest_to_auth)

abbrev pub six : List ℕ
six = required ++ hint

-- The end, and n bytes of FF.
abbrev pub end_and : ℕ → List ℕ
end_and n = 0 ∷ 0 ∷ padding n

abbrev pub sealed_cases : List SealedCase
sealed_cases =
    -- The form itself.
    sealed (six ++ end_and 80)
    -- A byte of padding before the first tag, before the hint, before the end.
    ∷ refusing (padding 1 ++ (six ++ end_and 79)) 21 8
    ∷ refusing (required ++ (padding 1 ++ (hint ++ end_and 79))) 21 138
    ∷ refusing (six ++ (padding 1 ++ end_and 79)) 21 174
    -- A tag that the reader skips, in front and behind. Where its type begins with the byte that the form has there, the next one differs.
    ∷ refusing (tag_of 0x7FFE 0 ++ (six ++ end_and 76)) 21 8
    ∷ refusing (six ++ (tag_of 0x7FFE 0 ++ end_and 76)) 21 174
    ∷ refusing (tag_of 0x0101 0 ++ (six ++ end_and 76)) 21 9
    ∷ refusing (required ++ (tag_of 0x1100 0 ++ (hint ++ end_and 76))) 21 139
    ∷ refusing (six ++ (tag_of 0x0100 0 ++ end_and 76)) 21 175
    -- Two tags exchanged; the hint as the first tag, and before the last one.
    ∷ refusing (timestamp ++ (version ++ (digest_to_auth ++ (hint ++ end_and 80)))) 21 8
    ∷ refusing (hint ++ (required ++ end_and 80)) 21 8
    ∷ refusing (version ++ (timestamp ++ (digest ++ (signature ++ (hint ++ (auth ++ end_and 80)))))) 21 132
    -- A byte that is not FF behind the end: the first, the last, and both.
    ∷ refusing (six ++ (0 ∷ 0 ∷ 0 ∷ padding 79)) 21 176
    ∷ refusing (six ++ (0 ∷ 0 ∷ padding 79 ++ 0 ∷ [])) 21 255
    ∷ refusing (six ++ (0 ∷ 0 ∷ 0 ∷ padding 78 ++ 0 ∷ [])) 21 176
    -- No hint: 138, also if a byte behind it differs too; the byte that differs, if it stands before.
    ∷ refusing (required ++ end_and 116) 21 138
    ∷ refusing (required ++ (0 ∷ 0 ∷ padding 115 ++ 0 ∷ [])) 21 138
    ∷ refusing (required ++ (tag_of 0x1100 0 ++ end_and 112)) 21 138
    ∷ refusing (required ++ (padding 1 ++ end_and 115)) 21 138
    ∷ refusing (version ++ (timestamp ++ (digest ++ (signature ++ (tag_of 0x0130 0 ++ (auth ++ end_and 112)))))) 21 133
    ∷ refusing (version ++ (padding 1 ++ (timestamp ++ (digest_to_auth ++ end_and 115)))) 21 16
    -- The ordinary reader's refusals come first: behind padding a wrong length, a repeated tag, a tag that must be understood, one that
    -- does not fit, no end; and a missing timestamp, with the hint in front.
    ∷ refusing (padding 1 ++ (tag_of 0x0001 3 ++ (timestamp ++ (digest_to_auth ++ (hint ++ end_and 80))))) 5 9
    ∷ refusing (padding 1 ++ (six ++ (version ++ end_and 71))) 6 175
    ∷ refusing (padding 1 ++ (six ++ (tag_of 0x8000 0 ++ end_and 75))) 18 175
    ∷ refusing (padding 1 ++ (six ++ (padding 80 ++ 0 ∷ []))) 4 255
    ∷ refusing (padding 1 ++ (six ++ padding 81)) 7 256
    ∷ refusing (hint ++ (version ++ (digest_to_auth ++ end_and 92))) 8 0x0002
    ∷ []

-- All of them, as one claim.
abbrev pub SealedCases : Type 0
SealedCases = Every SealedCaseHolds sealed_cases

-- The premises of the statements can be met: a header that can be held, with a hint, whose written form is a sealed buffer of bytes.
pub record SealedMet (v : Header) : Type 0 where
  pub holdable : Holdable v
  pub bytes : AllBytes (header_bytes v)
  pub sealed : read_sealed (header_bytes v) ≡ gives v

abbrev pub SealedPremisesMet : Type 0
SealedPremisesMet = SealedMet (example true)
