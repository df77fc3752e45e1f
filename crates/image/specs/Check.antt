-- Document 01, "Image check", and document 02, "The digest must cover the header".
use Rattle.std.specs.Prelude.{ℕ, ◌-◌, cond, List, ◌++◌, ltb, length, get_or, take, drop}
use Rattle.header_tags.specs.Bytes.{same}
use Rattle.numbers.specs.Answer.{Answer, gives, refused, then}
use Rattle.digest_fips180.specs.Sha256.{sha256}
use Rattle.header_reader.specs.declared.Header.{Header}
use Rattle.header_reader.specs.Reading.{tag_places, values_at}
use Rattle.flash.specs.Sectors.{firmware_of}
use Rattle.flash.specs.Buffers.{partition_of}

-- "The header": the values of the one at the front of the bytes b, whose tags stand at these places.
abbrev pub values_in : List ℕ → List ℕ → Header
values_in b places = values_at (take 256 b) places

-- "The digest must cover the header", "the header bytes before the digest tag, then the firmware": of the bytes b of an image those from 0 to
-- at − 1, where `at` is the place of the digest tag's first byte: magic, size, padding and skipped tags with them; then `size` bytes from
-- 256 on.
abbrev pub covered : List ℕ → ℕ → ℕ → List ℕ
covered b at size = take at b ++ take size (drop 256 b)

-- What the digest covers of the image b, whose tags stand at these places: the digest's, type 0003, is in row 2 of the table; the firmware is
-- as long as the header says.
abbrev pub covered_in : List ℕ → List ℕ → List ℕ
covered_in b places = covered b (get_or places 2 0) (values_in b places).size

-- "Image check", behind the reader: the header of b has its tags at these places. A firmware that the bytes behind the header cannot
-- hold is 3, another digest is 9.
abbrev pub judged : List ℕ → List ℕ → Answer Header
judged b places =
    let v = values_in b places in
    cond (ltb (length b - 256) v.size) (refused 3 4) (cond (same (sha256 (covered_in b places)) v.digest) (gives v) (refused 9 256))

-- "Image check", without check 1: the image in the bytes b of the firmware sectors, all of the reader's refusals first.
unfoldable pub image_in : List ℕ → Answer Header
image_in b = then (tag_places b) (judged b)

-- "Image check" of a partition: check 1 first; then the image in its firmware sectors, so that the trailer sector has no say.
unfoldable pub check_image : ℕ → ℕ → List ℕ → Answer Header
check_image n s l = then (partition_of n s l) (λ g. image_in (firmware_of g l))
