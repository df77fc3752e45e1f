-- Demand 3 is not empty: a flash on which the delivered check accepts an update, one on which it finds a fallback good, and from each
-- a list with a refused power-up, a torn copy, an early end and the finish.
use Rattle.std.specs.Prelude.{◌≡◌, false, List, [], ◌∷◌, ◌++◌, map, ℕ, ◌+◌, ◌≤◌, length, take, replicate}
use Rattle.digest_fips180.specs.Sha256.{sha256}
use Rattle.header_reader.specs.declared.Header.{Header}
use Rattle.header_writer.specs.Writing.{header_bytes}
use Rattle.flash.specs.declared.Geometry.{Geometry}
use Rattle.flash.specs.Sizes.{geometry}
use Rattle.flash.specs.Buffers.{Flash, flash}
use Rattle.exchange.specs.LostPower.{Torn}
use Rattle.exchange.specs.Demand.{Exchange, update, fallback, Starts, Ongoing, Event, untorn, lost, left, flash_after, Allowed, most}
use Rattle.exchange.specs.Cases.{three}
use Rattle.exchange.specs.Reached.{rough_list, Reached}
use Rattle.image.specs.Verdict.{check_of}
use Rattle.delivered.specs.Demand.{CallEvent, kept_power, cut_off, seen, AllowedCalls}

-- An image of a version, over a firmware of one byte, in two sectors of 256; and a trailer sector with a status byte. The digest is that of
-- the header's bytes before the digest tag, which the writer puts at 28, and of the firmware.
abbrev pub header_stating : ℕ → List ℕ → Header
header_stating version digest =
    record {
      size = 1;
      version = version;
      timestamp = 1700000000;
      digest = digest;
      signature = replicate 64 0;
      auth_type = 512;
      has_hint = false;
      hint = replicate 32 0;
    }

abbrev pub header_of : ℕ → Header
header_of version = header_stating version (sha256 (take 28 (header_bytes (header_stating version (replicate 32 0))) ++ version ∷ []))

unfoldable pub image_partition : ℕ → ℕ → List ℕ
image_partition version status = header_bytes (header_of version) ++ (version ∷ replicate 255 0) ++ (replicate 255 0xFF ++ status ∷ [])

-- Version 8 armed over version 7; and version 7 on test, with version 6 to fall back to.
unfoldable pub armed : Flash
armed = flash (image_partition 7 0x00) (image_partition 8 0x70) (replicate 256 0)

unfoldable pub on_test : Flash
on_test = flash (image_partition 7 0x10) (image_partition 6 0xFF) (replicate 256 0)

-- A power-up of the calls as the rules have it: the same geometry, budget, loss of power and tear.
abbrev pub ruled : CallEvent → Event
ruled (kept_power n s budget whole) = untorn (geometry n s) budget
ruled (cut_off n s budget whole k part t) = lost (geometry n s) budget k t

-- A list of calls that is allowed: they are the power-ups of the list es, one for one, and leave what the rules have of it, from f on.
pub record Called (allowed : List CallEvent → Type 0) (f : Flash) (es : List Event) : Type 0 where
  pub calls : List CallEvent
  pub are : map ruled calls ≡ es
  pub allows : allowed calls
  pub leaves : flash_after seen f calls ≡ flash_after (left check_of) f es

-- The calls are there for every list: wherever an exchange is under way, for each list that the rules allow there are answers and bytes that
-- meet the contract of `power_up`.
abbrev pub EveryListCalled : Type 0
EveryListCalled =
    (x : Exchange) (g : Geometry) (old f : Flash) (a : ℕ) → Ongoing check_of x g old f a → (es : List Event) → Allowed check_of x g f es
    → Called (AllowedCalls x g f) f es

-- A start, and from there a list with a refused power-up, a torn copy and the finish: by the rules, and as calls.
pub record Witness (x : Exchange) (f : Flash) : Type 0 where
  pub starts : Starts check_of x three f
  pub finishes : (t : Torn) → length t.bytes ≡ 256 → (budget : ℕ) → most x 2 + 2 ≤ budget → Reached check_of x three f t budget
  pub called : (t : Torn) → length t.bytes ≡ 256 → (budget : ℕ) → most x 2 + 2 ≤ budget → Called (AllowedCalls x three f) f (rough_list three t budget)

pub record Witnesses : Type 0 where
  pub of_update : Witness update armed
  pub of_fallback : Witness fallback on_test
