-- Release sheets byte by byte, and what they read as. Proved in proofs/.
use Rattle.std.specs.Prelude.{◌≡◌, ℕ, List, [], ◌∷◌, ◌++◌, true, false, replicate}
use Rattle.numbers.specs.Answer.{gives, refused}
use Rattle.numbers.specs.Every.{Every}
use Rattle.release_values.specs.declared.Stated.{Stated}
use Rattle.release_sheet.specs.Reading.{read_sheet}
use Rattle.release_claims.specs.ReadsBack.{Writable}

-- ---- sheets that are read

-- The values of 01's listing: a comment, "version 7", "timestamp 1700000000", "auth 512", an empty line, "signature" with 128
-- times "a", "hint no".
abbrev pub listed : List ℕ
listed =
    35 ∷ 32 ∷ 114 ∷ 101 ∷ 108 ∷ 101 ∷ 97 ∷ 115 ∷ 101 ∷ 32 ∷ 55 ∷ 10
    ∷ 118 ∷ 101 ∷ 114 ∷ 115 ∷ 105 ∷ 111 ∷ 110 ∷ 32 ∷ 55 ∷ 10
    ∷ 116 ∷ 105 ∷ 109 ∷ 101 ∷ 115 ∷ 116 ∷ 97 ∷ 109 ∷ 112 ∷ 32 ∷ 49 ∷ 55 ∷ 48 ∷ 48 ∷ 48 ∷ 48 ∷ 48 ∷ 48 ∷ 48 ∷ 48 ∷ 10
    ∷ 97 ∷ 117 ∷ 116 ∷ 104 ∷ 32 ∷ 53 ∷ 49 ∷ 50 ∷ 10
    ∷ 10
    ∷ 115 ∷ 105 ∷ 103 ∷ 110 ∷ 97 ∷ 116 ∷ 117 ∷ 114 ∷ 101 ∷ 32
    ∷ (replicate 128 97
    ++ (10
    ∷ 104 ∷ 105 ∷ 110 ∷ 116 ∷ 32 ∷ 110 ∷ 111 ∷ 10
    ∷ []))

abbrev pub listed_values : Stated
listed_values =
    record {
      version = 7;
      timestamp = 1700000000;
      auth_type = 512;
      signature = replicate 64 0xAA;
      has_hint = false;
      hint = replicate 32 0;
    }

-- Another order: a hint in capital digits, a signature of zeros, "auth 0512", the largest timestamp, "#", and the largest version
-- without a line feed behind it.
abbrev pub largest : List ℕ
largest =
    104 ∷ 105 ∷ 110 ∷ 116 ∷ 32 ∷ 70 ∷ 70 ∷ 70 ∷ 69 ∷ 70 ∷ 68 ∷ 70 ∷ 67 ∷ 70 ∷ 66 ∷ 70 ∷ 65 ∷ 70 ∷ 57 ∷ 70 ∷ 56 ∷ 70
    ∷ 55 ∷ 70 ∷ 54 ∷ 70 ∷ 53 ∷ 70 ∷ 52 ∷ 70 ∷ 51 ∷ 70 ∷ 50 ∷ 70 ∷ 49 ∷ 70 ∷ 48 ∷ 69 ∷ 70 ∷ 69 ∷ 69 ∷ 69 ∷ 68 ∷ 69 ∷ 67
    ∷ 69 ∷ 66 ∷ 69 ∷ 65 ∷ 69 ∷ 57 ∷ 69 ∷ 56 ∷ 69 ∷ 55 ∷ 69 ∷ 54 ∷ 69 ∷ 53 ∷ 69 ∷ 52 ∷ 69 ∷ 51 ∷ 69 ∷ 50 ∷ 69 ∷ 49 ∷ 69
    ∷ 48 ∷ 10
    ∷ 115 ∷ 105 ∷ 103 ∷ 110 ∷ 97 ∷ 116 ∷ 117 ∷ 114 ∷ 101 ∷ 32
    ∷ (replicate 128 48
    ++ (10
    ∷ 97 ∷ 117 ∷ 116 ∷ 104 ∷ 32 ∷ 48 ∷ 53 ∷ 49 ∷ 50 ∷ 10
    ∷ 116 ∷ 105 ∷ 109 ∷ 101 ∷ 115 ∷ 116 ∷ 97 ∷ 109 ∷ 112 ∷ 32 ∷ 49 ∷ 56 ∷ 52 ∷ 52 ∷ 54 ∷ 55 ∷ 52 ∷ 52 ∷ 48 ∷ 55 ∷ 51
    ∷ 55 ∷ 48 ∷ 57 ∷ 53 ∷ 53 ∷ 49 ∷ 54 ∷ 49 ∷ 53 ∷ 10
    ∷ 35 ∷ 10
    ∷ 118 ∷ 101 ∷ 114 ∷ 115 ∷ 105 ∷ 111 ∷ 110 ∷ 32 ∷ 52 ∷ 50 ∷ 57 ∷ 52 ∷ 57 ∷ 54 ∷ 55 ∷ 50 ∷ 57 ∷ 53
    ∷ []))

abbrev pub largest_values : Stated
largest_values =
    record {
      version = 4294967295;
      timestamp = 18446744073709551615;
      auth_type = 512;
      signature = replicate 64 0;
      has_hint = true;
      hint =
          255 ∷ 254 ∷ 253 ∷ 252 ∷ 251 ∷ 250 ∷ 249 ∷ 248 ∷ 247 ∷ 246 ∷ 245 ∷ 244 ∷ 243 ∷ 242 ∷ 241 ∷ 240
          ∷ 239 ∷ 238 ∷ 237 ∷ 236 ∷ 235 ∷ 234 ∷ 233 ∷ 232 ∷ 231 ∷ 230 ∷ 229 ∷ 228 ∷ 227 ∷ 226 ∷ 225 ∷ 224
          ∷ [];
    }

-- ---- sheets that are refused

-- A text, and the number and the place of its refusal.
pub record Case : Type 0 where
  pub text : List ℕ
  pub number : ℕ
  pub place : ℕ

abbrev pub case : List ℕ → ℕ → ℕ → Case
case t n p = record { text = t; number = n; place = p }

-- "version 7", "auth"
abbrev pub not_understood : List ℕ
not_understood =
    118 ∷ 101 ∷ 114 ∷ 115 ∷ 105 ∷ 111 ∷ 110 ∷ 32 ∷ 55 ∷ 10
    ∷ 97 ∷ 117 ∷ 116 ∷ 104 ∷ 10
    ∷ []

-- "#", an empty line, "Version 7"
abbrev pub unknown_name : List ℕ
unknown_name =
    35 ∷ 10
    ∷ 10
    ∷ 86 ∷ 101 ∷ 114 ∷ 115 ∷ 105 ∷ 111 ∷ 110 ∷ 32 ∷ 55
    ∷ []

-- "version 4294967296", which is 2 ^ 32
abbrev pub out_of_range : List ℕ
out_of_range =
    118 ∷ 101 ∷ 114 ∷ 115 ∷ 105 ∷ 111 ∷ 110 ∷ 32 ∷ 52 ∷ 50 ∷ 57 ∷ 52 ∷ 57 ∷ 54 ∷ 55 ∷ 50 ∷ 57 ∷ 54 ∷ 10
    ∷ []

-- "auth +5"
abbrev pub signed : List ℕ
signed =
    97 ∷ 117 ∷ 116 ∷ 104 ∷ 32 ∷ 43 ∷ 53 ∷ 10
    ∷ []

-- "hint no" with a carriage return before the line feed
abbrev pub carriage_return : List ℕ
carriage_return =
    104 ∷ 105 ∷ 110 ∷ 116 ∷ 32 ∷ 110 ∷ 111 ∷ 13 ∷ 10
    ∷ []

-- "version 7", "version x": malformed before repeated
abbrev pub malformed_twice : List ℕ
malformed_twice =
    118 ∷ 101 ∷ 114 ∷ 115 ∷ 105 ∷ 111 ∷ 110 ∷ 32 ∷ 55 ∷ 10
    ∷ 118 ∷ 101 ∷ 114 ∷ 115 ∷ 105 ∷ 111 ∷ 110 ∷ 32 ∷ 120 ∷ 10
    ∷ []

-- "version 7", "version 8"
abbrev pub repeated : List ℕ
repeated =
    118 ∷ 101 ∷ 114 ∷ 115 ∷ 105 ∷ 111 ∷ 110 ∷ 32 ∷ 55 ∷ 10
    ∷ 118 ∷ 101 ∷ 114 ∷ 115 ∷ 105 ∷ 111 ∷ 110 ∷ 32 ∷ 56 ∷ 10
    ∷ []

-- "version 7", "hint no", "timestamp 1": the signature's type is smaller than that of the auth type
abbrev pub no_signature : List ℕ
no_signature =
    118 ∷ 101 ∷ 114 ∷ 115 ∷ 105 ∷ 111 ∷ 110 ∷ 32 ∷ 55 ∷ 10
    ∷ 104 ∷ 105 ∷ 110 ∷ 116 ∷ 32 ∷ 110 ∷ 111 ∷ 10
    ∷ 116 ∷ 105 ∷ 109 ∷ 101 ∷ 115 ∷ 116 ∷ 97 ∷ 109 ∷ 112 ∷ 32 ∷ 49 ∷ 10
    ∷ []

-- An empty text lacks every name: the smallest type is told.
abbrev pub cases : List Case
cases =
    case not_understood 101 2
    ∷ case unknown_name 102 3
    ∷ case out_of_range 103 1
    ∷ case signed 103 1
    ∷ case carriage_return 103 1
    ∷ case malformed_twice 103 2
    ∷ case repeated 104 2
    ∷ case [] 105 1
    ∷ case no_signature 105 0x20
    ∷ []

-- ---- the claim

-- The values of both sheets also meet the premise of the theorems that a sheet reads back.
pub record Witnesses : Type 0 where
  pub listing : read_sheet listed ≡ gives listed_values
  pub largest : read_sheet largest ≡ gives largest_values
  pub listing_writable : Writable listed_values
  pub largest_writable : Writable largest_values
  pub refusals : Every (λ c. read_sheet c.text ≡ refused c.number c.place) cases
