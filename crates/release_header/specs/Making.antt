-- Document 01, "The header", as it is made for a firmware, and document 02, "The digest must cover the header": the size is the firmware's,
-- the digest covers header and firmware, and the other values are as they are stated.
use Rattle.std.specs.Prelude.{ℕ, ◌^◌, List, ◌++◌, cond, ◌||◌, ltb, leb, eqb, length, replicate}
use Rattle.numbers.specs.Answer.{refused}
use Rattle.digest_fips180.specs.Sha256.{sha256}
use Rattle.header_reader.specs.declared.Header.{Header}
use Rattle.header_writer.specs.Writing.{Write, write, header_bytes, digest_tag, write_header}
use Rattle.image.specs.Check.{covered}
use Rattle.release_values.specs.declared.Stated.{Stated}

-- The values: how many bytes the firmware has, and this digest; the rest is what is stated.
abbrev pub header_with : Stated → List ℕ → List ℕ → Header
header_with v firmware digest =
    record {
      size = length firmware;
      version = v.version;
      timestamp = v.timestamp;
      digest = digest;
      signature = v.signature;
      auth_type = v.auth_type;
      has_hint = v.has_hint;
      hint = v.hint;
    }

-- "The digest must cover the header": the SHA-256 digest of what a digest covers, of the image that is made. The digest tag is not covered, so
-- that it does not matter which 32 bytes stand in it: here zeros.
unfoldable pub digest_for : Stated → List ℕ → List ℕ
digest_for v firmware =
    sha256 (covered (header_bytes (header_with v firmware (replicate 32 0)) ++ firmware) digest_tag (length firmware))

-- The values of the header that is made.
abbrev pub header_for : Stated → List ℕ → Header
header_for v firmware = header_with v firmware (digest_for v firmware)

-- The writer's refusals in the writer's order: an output below 256 bytes is 16; then a firmware without a byte, or of 2 ^ 32 bytes or more,
-- which the header's four bytes cannot count, is 3. Both leave the output alone. Else the output is what the writer makes of these values.
unfoldable pub make_header : Stated → List ℕ → List ℕ → Write
make_header v firmware out =
    cond (ltb (length out) 256) (write (refused 16 0) out)
    (cond (eqb (length firmware) 0 || leb (2 ^ 32) (length firmware)) (write (refused 3 4) out) (write_header (header_for v firmware) out))
