-- Document 01, "The header": what the writer leaves.
use Rattle.std.specs.Prelude.{ℕ, ◌+◌, ◌-◌, List, [], ◌∷◌, ◌++◌, Bool, true, false, cond, ltb, eqb, length, drop, replicate}
use Rattle.numbers.specs.Answer.{Answer, gives, refused}
use Rattle.header_tags.specs.Bytes.{little_endian, Field, field_bytes}
use Rattle.header_reader.specs.declared.Header.{Header}
use Rattle.header_reader.specs.Reading.{magic}

-- Bytes 0 to 3 are the magic, bytes 4 to 7 the firmware's size.
abbrev pub front : Header → List ℕ
front v = magic ++ little_endian 4 v.size

abbrev pub field : ℕ → List ℕ → Field
field t b = record { type = t; value = b }

-- The required tags, in the table's order.
abbrev pub required_fields : Header → List Field
required_fields v =
    field 0x0001 (little_endian 4 v.version)
    ∷ field 0x0002 (little_endian 8 v.timestamp)
    ∷ field 0x0003 v.digest
    ∷ field 0x0020 v.signature
    ∷ field 0x0030 (little_endian 2 v.auth_type)
    ∷ []

-- The hint's tag, if there is a hint.
abbrev pub hint_fields : Bool → List ℕ → List Field
hint_fields true hint = field 0x1000 hint ∷ []
hint_fields false hint = []

-- The end, type 0000, at a place p, then FF up to 256.
abbrev pub ending : ℕ → List ℕ
ending p = 0 ∷ 0 ∷ replicate (254 - p) 0xFF

-- The 256 bytes: the front, the tags without padding, the end.
unfoldable pub header_bytes : Header → List ℕ
header_bytes v =
    let tags = field_bytes (required_fields v ++ hint_fields v.has_hint v.hint) in
    front v ++ (tags ++ ending (8 + length tags))

-- Where the digest's tag begins there, behind the front and the tags of version and timestamp (marked case 7).
abbrev pub digest_tag : ℕ
digest_tag = 28

-- What a call of the writer leaves: its answer, and every byte of the lent output.
pub record Write : Type 0 where
  pub answer : Answer (Unit {0})
  pub bytes : List ℕ

abbrev pub write : Answer (Unit {0}) → List ℕ → Write
write a l = record { answer = a; bytes = l }

-- 16 comes before a size of 0, which is 3; both leave the output alone. Else its first 256 bytes are the header, and the rest stays.
unfoldable pub write_header : Header → List ℕ → Write
write_header v out =
    cond (ltb (length out) 256) (write (refused 16 0) out)
    (cond (eqb v.size 0) (write (refused 3 4) out) (write (gives tt) (header_bytes v ++ drop 256 out)))
