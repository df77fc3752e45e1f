-- Document 01's examples of the listing, as statements. Each is proved in proofs/.
use Rattle.std.specs.Prelude.{◌≡◌, ℕ, ◌-◌, ◌<◌, List, [], ◌∷◌, ◌++◌, false, length, take, replicate}
use Rattle.numbers.specs.Answer.{gives, refused}
use Rattle.header_tags.specs.Bytes.{little_endian, tag_bytes}
use Rattle.header_reader.specs.declared.Header.{Header}
use Rattle.header_reader.specs.Reading.{magic}
use Rattle.listing.specs.Listing.{listing, listing_of}

-- Size 256, version 7, timestamp 1700000000, auth type 512 and no hint, with any digest, signature and bytes of a hint.
abbrev pub example_header : List ℕ → List ℕ → List ℕ → Header
example_header digest signature hint =
    record {
      size = 256;
      version = 7;
      timestamp = 1700000000;
      digest = digest;
      signature = signature;
      auth_type = 512;
      has_hint = false;
      hint = hint;
    }

-- The whole text of that header.
-- size 256
-- version 7
-- timestamp 1700000000
-- auth 512
-- hint no
abbrev pub example_text : List ℕ
example_text =
    115 ∷ 105 ∷ 122 ∷ 101 ∷ 32 ∷ 50 ∷ 53 ∷ 54 ∷ 10
    ∷ 118 ∷ 101 ∷ 114 ∷ 115 ∷ 105 ∷ 111 ∷ 110 ∷ 32 ∷ 55 ∷ 10
    ∷ 116 ∷ 105 ∷ 109 ∷ 101 ∷ 115 ∷ 116 ∷ 97 ∷ 109 ∷ 112 ∷ 32 ∷ 49 ∷ 55 ∷ 48 ∷ 48 ∷ 48 ∷ 48 ∷ 48 ∷ 48 ∷ 48 ∷ 48 ∷ 10
    ∷ 97 ∷ 117 ∷ 116 ∷ 104 ∷ 32 ∷ 53 ∷ 49 ∷ 50 ∷ 10
    ∷ 104 ∷ 105 ∷ 110 ∷ 116 ∷ 32 ∷ 110 ∷ 111 ∷ 10
    ∷ []

-- Those values give that text.
abbrev pub ListsExample : Type 0
ListsExample = (digest signature hint : List ℕ) → listing (gives (example_header digest signature hint)) ≡ example_text

-- refused 8 at 1
abbrev pub missing_text : List ℕ
missing_text = 114 ∷ 101 ∷ 102 ∷ 117 ∷ 115 ∷ 101 ∷ 100 ∷ 32 ∷ 56 ∷ 32 ∷ 97 ∷ 116 ∷ 32 ∷ 49 ∷ 10 ∷ []

-- Refusal 8 with the type 1, the version's, gives that line.
abbrev pub MissingVersion : Type 0
MissingVersion = listing (refused 8 1) ≡ missing_text

-- A header of 256 bytes: the magic, the size 256, these tags, the end, and padding.
abbrev pub header_of : List ℕ → List ℕ
header_of tags = magic ++ (little_endian 4 256 ++ (tags ++ (0 ∷ 0 ∷ replicate (246 - length tags) 0xFF)))

-- Version 7.
abbrev pub version_tag : List ℕ
version_tag = tag_bytes 0x0001 (little_endian 4 7)

-- The example's other tags; digest and signature are zeros.
abbrev pub other_tags : List ℕ
other_tags =
    tag_bytes 0x0002 (little_endian 8 1700000000)
    ++ (tag_bytes 0x0003 (replicate 32 0) ++ (tag_bytes 0x0020 (replicate 64 0) ++ tag_bytes 0x0030 (little_endian 2 512)))

-- Both texts from a header's bytes: with the version's tag, and without it.
abbrev pub ListsBytes : Type 0
ListsBytes = (listing_of (header_of (version_tag ++ other_tags)) ≡ example_text) × (listing_of (header_of other_tags) ≡ missing_text)

-- refused 16 at 0, for all that is shorter than a header
abbrev pub TooShort : Type 0
TooShort =
    (s : List ℕ) → length s < 256
    → listing_of s ≡ 114 ∷ 101 ∷ 102 ∷ 117 ∷ 115 ∷ 101 ∷ 100 ∷ 32 ∷ 49 ∷ 54 ∷ 32 ∷ 97 ∷ 116 ∷ 32 ∷ 48 ∷ 10 ∷ []

-- Only the first 256 bytes count.
abbrev pub FirstBytesOnly : Type 0
FirstBytesOnly = (s : List ℕ) → listing_of (take 256 s) ≡ listing_of s
