-- Document 01, "Image check", and document 02, "The digest must cover the header": the check's order, and the numbers that it gives. Each
-- statement is proved in proofs/.
use Rattle.std.specs.Prelude.{◌≡◌, ◌≢◌, ℕ, ◌+◌, ◌-◌, ◌≤◌, ◌<◌, List, length, get_or}
use Rattle.numbers.specs.Answer.{gives, refused}
use Rattle.digest_fips180.specs.Sha256.{sha256}
use Rattle.header_reader.specs.declared.Header.{Header}
use Rattle.header_tags.specs.Standing.{TagAt}
use Rattle.header_places.specs.Table.{document_table}
use Rattle.header_places.specs.RuledOut.{TagNumber}
use Rattle.header_reader.specs.Reading.{read_header}
use Rattle.flash.specs.declared.Geometry.{Geometry}
use Rattle.flash.specs.Sectors.{firmware_of}
use Rattle.flash.specs.Buffers.{partition_of}
use Rattle.image.specs.Check.{covered, image_in, check_image}

-- `message` is what the digest of the image b covers, byte by byte, where the digest tag begins at `at` and the firmware has `size` bytes:
-- first the header's bytes before the tag, all of them and no other; then the firmware's, which begin at 256.
pub record Covers (b : List ℕ) (at size : ℕ) (message : List ℕ) : Type 0 where
  pub extent : length message ≡ at + size
  pub header : (i : ℕ) → i < at → get_or message i 0 ≡ get_or b i 0
  pub firmware : (i : ℕ) → i < size → get_or message (at + i) 0 ≡ get_or b (256 + i) 0

-- One list is that, and it is the one of the rules.
abbrev pub CoversOne : Type 0
CoversOne =
    (b : List ℕ) (at size : ℕ) → at ≤ length b → size ≤ length b - 256
    → Covers b at size (covered b at size) × ((message : List ℕ) → Covers b at size message → message ≡ covered b at size)

-- A header that the reader takes has one digest tag, type 0003, and it lies within the header, with its 32 bytes.
pub record DigestTag (b : List ℕ) : Type 0 where
  pub at : ℕ
  pub stands : TagAt b at 0x0003
  pub one : (q : ℕ) → TagAt b q 0x0003 → q ≡ at
  pub behind : 8 ≤ at
  pub within : at + 36 ≤ 256

abbrev pub EachHasDigestTag : Type 0
EachHasDigestTag = (b : List ℕ) (v : Header) → read_header b ≡ gives v → DigestTag b

-- The three tests of an image, one after the other: its header, its size, its digest over the header before the digest tag and the firmware.
-- b has the bytes of the firmware sectors, m × S of them.
pub record CheckOrdered (b : List ℕ) : Type 0 where
  -- What the reader refuses, the check refuses, whatever the size and the digest are.
  pub reader : (n p : ℕ) → read_header b ≡ refused n p → image_in b ≡ refused n p
  -- What the reader takes is 3 if it is too large, whatever the digest is.
  pub large : (v : Header) → read_header b ≡ gives v → length b - 256 < v.size → image_in b ≡ refused 3 4
  -- What fits is 9 if the digest of what it covers differs, and good if not.
  pub differs : (at : ℕ) (message : List ℕ) (v : Header) → read_header b ≡ gives v → TagAt b at 0x0003 → v.size ≤ length b - 256
      → Covers b at v.size message → sha256 message ≢ v.digest → image_in b ≡ refused 9 256
  pub good : (at : ℕ) (message : List ℕ) (v : Header) → read_header b ≡ gives v → TagAt b at 0x0003 → v.size ≤ length b - 256
      → Covers b at v.size message → sha256 message ≡ v.digest → image_in b ≡ gives v

abbrev pub ChecksInOrder : Type 0
ChecksInOrder = (b : List ℕ) → CheckOrdered b

-- So a good image has no tag of a type from 8000 up (document 02, "Tags that must be understood").
abbrev pub GoodIsUnderstood : Type 0
GoodIsUnderstood = (b : List ℕ) (v : Header) (q t : ℕ) → image_in b ≡ gives v → TagAt b q t → t < 0x8000

-- A partition's check: its geometry and length first, and then the image in its firmware sectors, whatever that check says.
pub record PartitionOrdered (n s : ℕ) (l : List ℕ) : Type 0 where
  pub outside : (m p : ℕ) → partition_of n s l ≡ refused m p → check_image n s l ≡ refused m p
  pub inside : (g : Geometry) → partition_of n s l ≡ gives g → check_image n s l ≡ image_in (firmware_of g l)

abbrev pub ChecksPartitions : Type 0
ChecksPartitions = (n s : ℕ) (l : List ℕ) → PartitionOrdered n s l

-- The numbers of a bad image, with their places: those of the tests before the walk, those of the header's tags, and the digest's.
pub data ImageNumber : ℕ → ℕ → Type 0 where
  too_short : ImageNumber 16 0
  wrong_magic : ImageNumber 2 0
  wrong_size : ImageNumber 3 4
  of_tags : {n p : ℕ} → TagNumber document_table 256 n p → ImageNumber n p
  wrong_digest : ImageNumber 9 256

abbrev pub ChecksGiveTheirNumbers : Type 0
ChecksGiveTheirNumbers = (b : List ℕ) (n p : ℕ) → image_in b ≡ refused n p → ImageNumber n p
