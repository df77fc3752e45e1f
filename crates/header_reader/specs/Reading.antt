-- Document 01, "The header": what the reader makes of bytes.
use Rattle.std.specs.Prelude.{ℕ, ◌+◌, List, [], ◌∷◌, false, cond, not, length, get_or, take, drop, replicate, ltb, eqb}
use Rattle.numbers.specs.Answer.{Answer, gives, refused, then}
use Rattle.header_tags.specs.Bytes.{number}
use Rattle.header_places.specs.Table.{document_table}
use Rattle.header_places.specs.Judging.{places_in}
use Rattle.header_reader.specs.declared.Header.{Header}

-- The bytes 0 to 3 of a header. Source 000 names no value; this one is document 01's.
abbrev pub magic : List ℕ
magic = 0x43 ∷ 0x45 ∷ 0x52 ∷ 0x54 ∷ []

-- n bytes from p on.
abbrev pub bytes_at : List ℕ → ℕ → ℕ → List ℕ
bytes_at h p n = take n (drop p h)

-- The value of the tag of a row: behind type and length, as long as the table says.
abbrev pub value : List ℕ → List ℕ → ℕ → List ℕ
value h places row = bytes_at h (get_or places row 0 + 4) (get_or document_table.lengths row 0)

-- The values of a header whose tags stand at these places. Numbers are little-endian; digest, signature and hint are bytes as they stand.
-- Without a hint the answer says so, and the hint's bytes are 0.
abbrev pub values_at : List ℕ → List ℕ → Header
values_at h places =
    let hintless = eqb (get_or places 5 0) 0 in
    record {
      size = number (bytes_at h 4 4);
      version = number (value h places 0);
      timestamp = number (value h places 1);
      digest = value h places 2;
      signature = value h places 3;
      auth_type = number (value h places 4);
      has_hint = not hintless;
      hint = cond hintless (replicate 32 0) (value h places 5);
    }

-- The reader's refusals in their order; of 3 only a size of 0 is told here. The header is the first 256 bytes. What is given are the
-- places of its tags, by the rows of the table.
unfoldable pub tag_places : List ℕ → Answer (List ℕ)
tag_places s =
    let h = take 256 s in
    cond (ltb (length s) 256) (refused 16 0)
    (cond (not (eqb (number (bytes_at h 0 4)) (number magic))) (refused 2 0)
    (cond (eqb (number (bytes_at h 4 4)) 0) (refused 3 4)
    (places_in document_table h)))

-- The reader: the values at these places.
unfoldable pub read_header : List ℕ → Answer Header
read_header s = then (tag_places s) (λ places. gives (values_at (take 256 s) places))

-- The values beside a refusal: blank, so that none comes from an earlier image.
abbrev pub blank : Header
blank =
    record {
      size = 0;
      version = 0;
      timestamp = 0;
      digest = replicate 32 0;
      signature = replicate 64 0;
      auth_type = 0;
      has_hint = false;
      hint = replicate 32 0;
    }

abbrev pub values_of : Answer Header → Header
values_of (gives v) = v
values_of (refused n p) = blank
