-- Document 01, "Image check", and document 02, "The digest must cover the header", of a header that was made for a firmware. Each statement
-- is proved in proofs/.
-- `make_header v firmware out` is all that a call of `make_header` leaves, by its contract: its answer, and every byte of the lent output.
use Rattle.std.specs.Prelude.{◌≡◌, ◌⊎◌, ℕ, ◌-◌, ◌*◌, ◌^◌, ◌≤◌, ◌<◌, List, ◌++◌, Bool, false, length, take, drop, replicate}
use Rattle.numbers.specs.Answer.{gives}
use Rattle.digest_fips180.specs.Sha256.{sha256}
use Rattle.digest_fips180.specs.Collision.{Collision}
use Rattle.flash.specs.Taken.{InRules}
use Rattle.header_tags.specs.Bytes.{AllBytes}
use Rattle.header_writer.specs.Writing.{Write, header_bytes}
use Rattle.image.specs.Check.{image_in, check_image}
use Rattle.release_values.specs.declared.Stated.{Stated}
use Rattle.release_values.specs.Stated.{Statable}
use Rattle.release_header.specs.Making.{header_for, make_header}

-- What a header can be made of: values that can be stated, a firmware whose size four bytes can count, and an output with room.
pub record Makable (v : Stated) (firmware out : List ℕ) : Type 0 where
  pub values : Statable v
  pub some : 0 < length firmware
  pub countable : length firmware < 2 ^ 32
  pub room : 256 ≤ length out

-- l is a partition of n sectors of s bytes, by the rules of a geometry. It begins with the header, and then the firmware, which is at most
-- the largest that the firmware sectors hold behind a header: m × S − 256 bytes, with m = n − 1.
pub record Placed (header firmware : List ℕ) (n s : ℕ) (l : List ℕ) : Type 0 where
  pub rules : InRules n s
  pub whole : length l ≡ n * s
  pub rest : List ℕ
  pub begins : l ≡ header ++ (firmware ++ rest)
  pub holds : length firmware ≤ (n - 1) * s - 256

-- A call with v, the firmware and the output `out` has left w: a header, and the header before the firmware is a good image.
pub record MadeGood (w : Write) (v : Stated) (firmware out : List ℕ) : Type 0 where
  -- The call does not refuse.
  pub taken : w.answer ≡ gives tt
  -- It changes no byte behind the header: from 256 on, and in its length, the output is as it was.
  pub others : drop 256 w.bytes ≡ drop 256 out
  pub extent : length w.bytes ≡ length out
  -- The digest that is made is that of the header's own bytes before the digest tag, which the writer puts at 28, and of the firmware.
  pub digest : (header_for v firmware).digest ≡ sha256 (take 28 w.bytes ++ firmware)
  -- Every partition that begins with the 256 bytes and the firmware, and holds it, is good. The check gives the firmware's own size, this
  -- digest, and every other value as it was stated.
  pub in_partition : (n s : ℕ) (l : List ℕ) → Placed (take 256 w.bytes) firmware n s l → check_image n s l ≡ gives (header_for v firmware)
  -- So are the bytes of the firmware sectors, whatever stands behind the firmware; and a file of the two alone.
  pub in_sectors : (rest : List ℕ) → image_in (take 256 w.bytes ++ (firmware ++ rest)) ≡ gives (header_for v firmware)
  pub in_file : image_in (take 256 w.bytes ++ firmware) ≡ gives (header_for v firmware)

-- What is made checks: of all values that can be stated, every firmware that a header can count and every output with room.
abbrev pub MadeChecks : Type 0
MadeChecks = (v : Stated) (firmware out : List ℕ) → Makable v firmware out → MadeGood (make_header v firmware out) v firmware out

-- What is to be signed is known before it is signed: of what is stated, only version and timestamp have a say in the digest.
abbrev pub DigestBeforeSigning : Type 0
DigestBeforeSigning =
    (v u : Stated) (firmware : List ℕ) → Statable v → Statable u → v.version ≡ u.version → v.timestamp ≡ u.timestamp
    → (header_for v firmware).digest ≡ (header_for u firmware).digest

-- What is signed: the bytes that the digest of a header that is made covers.
abbrev pub signed_bytes : Stated → List ℕ → List ℕ
signed_bytes v firmware = take 28 (header_bytes (header_for v firmware)) ++ firmware

-- Two releases that have one digest are one: the same version, timestamp and firmware. Or what is signed collides.
pub record SameRelease (v u : Stated) (f f' : List ℕ) : Type 0 where
  pub version : v.version ≡ u.version
  pub timestamp : v.timestamp ≡ u.timestamp
  pub firmware : f ≡ f'

abbrev pub OneDigestOneRelease : Type 0
OneDigestOneRelease =
    (v u : Stated) (firmware firmware' : List ℕ) → Statable v → Statable u → AllBytes firmware → AllBytes firmware'
    → length firmware < 2 ^ 32 → length firmware' < 2 ^ 32 → (header_for v firmware).digest ≡ (header_for u firmware').digest
    → SameRelease v u firmware firmware' ⊎ Collision (signed_bytes v firmware) (signed_bytes u firmware')

-- No value comes from elsewhere: the 256 bytes are the same, whatever stood in the output, and however long it is.
abbrev pub OutputHasNoSay : Type 0
OutputHasNoSay =
    (v : Stated) (firmware out out' : List ℕ) → Makable v firmware out → Makable v firmware out'
    → take 256 (make_header v firmware out).bytes ≡ take 256 (make_header v firmware out').bytes

-- Values without a hint may come with any bytes in its place: they have no say, and the call is the one with 0 there, which can be stated.
abbrev pub without_hint : Stated → Stated
without_hint v =
    record {
      version = v.version;
      timestamp = v.timestamp;
      auth_type = v.auth_type;
      signature = v.signature;
      has_hint = false;
      hint = replicate 32 0;
    }

abbrev pub UnstatedHintHasNoSay : Type 0
UnstatedHintHasNoSay =
    (v : Stated) (firmware out : List ℕ) → v.has_hint ≡ false → make_header v firmware out ≡ make_header (without_hint v) firmware out

-- The premises above can be met: by the values of 01's listing, without a hint and with one, and by a firmware of 256 bytes, the largest
-- for two sectors of 512. Behind it stands an erased trailer sector.
abbrev pub example_stated : Bool → Stated
example_stated hint =
    record {
      version = 7;
      timestamp = 1700000000;
      auth_type = 512;
      signature = replicate 64 0;
      has_hint = hint;
      hint = replicate 32 0;
    }

abbrev pub example_firmware : List ℕ
example_firmware = replicate 256 7

pub record Met (v : Stated) (firmware out : List ℕ) (n s : ℕ) : Type 0 where
  pub makable : Makable v firmware out
  pub partition : List ℕ
  pub placed : Placed (take 256 (make_header v firmware out).bytes) firmware n s partition

abbrev pub PremisesMet : Type 0
PremisesMet = (hint : Bool) → Met (example_stated hint) example_firmware (replicate 256 0) 2 512
