-- Document 02, "The digest must cover the header": what the check says of an image that was changed where the digest covers it. Each statement
-- is proved in proofs/.
use Rattle.std.specs.Prelude.{◌≡◌, ◌≢◌, ◌⊎◌, ◌↔◌, ℕ, ◌+◌, ◌-◌, ◌≤◌, ◌<◌, List, length, get_or, Result, Ok}
use Rattle.numbers.specs.Answer.{gives, refused}
use Rattle.numbers.specs.declared.ImageRefusal.{ImageRefusal}
use Rattle.numbers.specs.GivenBack.{image_answer}
use Rattle.digest_fips180.specs.Collision.{Collision}
use Rattle.header_tags.specs.Bytes.{AllBytes}
use Rattle.header_tags.specs.Standing.{TagAt}
use Rattle.header_reader.specs.declared.Header.{Header}
use Rattle.header_reader.specs.Reading.{read_header}
use Rattle.image.specs.Check.{covered, image_in}

-- The bytes b begin with a header that the reader takes, with the values v and the digest tag at `at`, and they hold the firmware that it
-- states: of the check only the digest is left. (What the reader refuses has its own number, and a firmware that they do not hold is 3.)
pub record Holds (b : List ℕ) (at : ℕ) (v : Header) : Type 0 where
  pub bytes : AllBytes b
  pub read : read_header b ≡ gives v
  pub tag : TagAt b at 0x0003
  pub room : v.size ≤ length b - 256

-- What the digest covers there.
abbrev pub message_of : List ℕ → ℕ → Header → List ℕ
message_of b at v = covered b at v.size

-- Two of these, of which the first is a good image, and the second states the same digest.
pub record StatesSame (b : List ℕ) (at : ℕ) (v : Header) (b' : List ℕ) (at' : ℕ) (v' : Header) : Type 0 where
  pub first : Holds b at v
  pub second : Holds b' at' v'
  pub good : image_in b ≡ gives v
  pub digest : v'.digest ≡ v.digest

-- The check of the second gives 9, or the two messages collide.
abbrev pub NineOrCollision : List ℕ → ℕ → Header → List ℕ → ℕ → Header → Type 0
NineOrCollision b at v b' at' v' = (image_in b' ≡ refused 9 256) ⊎ Collision (message_of b at v) (message_of b' at' v')

-- Where the covered bytes differ, it is so.
abbrev pub ChangedIsRefused : Type 0
ChangedIsRefused =
    (b b' : List ℕ) (at at' : ℕ) (v v' : Header) → StatesSame b at v b' at' v' → message_of b at v ≢ message_of b' at' v'
    → NineOrCollision b at v b' at' v'

-- The changes, by what is changed: the digest tag's place; the size; a byte before the tag, of whatever stands there; a version or a
-- timestamp whose tag stands before the digest's, in one of the two; a byte of the firmware.
pub data Change (b : List ℕ) (at : ℕ) (v : Header) (b' : List ℕ) (at' : ℕ) (v' : Header) : Type 0 where
  place : at ≢ at' → Change b at v b' at' v'
  size : v.size ≢ v'.size → Change b at v b' at' v'
  byte : (p : ℕ) → p < at → get_or b p 0 ≢ get_or b' p 0 → Change b at v b' at' v'
  version : (p : ℕ) → TagAt b p 0x0001 ⊎ TagAt b' p 0x0001 → p < at → v.version ≢ v'.version → Change b at v b' at' v'
  timestamp : (p : ℕ) → TagAt b p 0x0002 ⊎ TagAt b' p 0x0002 → p < at → v.timestamp ≢ v'.timestamp → Change b at v b' at' v'
  firmware : (i : ℕ) → i < v.size → get_or b (256 + i) 0 ≢ get_or b' (256 + i) 0 → Change b at v b' at' v'

-- Each of them is refused with 9, or is a collision.
abbrev pub EachChangeIsRefused : Type 0
EachChangeIsRefused =
    (b b' : List ℕ) (at at' : ℕ) (v v' : Header) → StatesSame b at v b' at' v' → Change b at v b' at' v' → NineOrCollision b at v b' at' v'

-- Two good images that state one digest have the same covered bytes, or collide; so none of these changes lies between them, or they collide.
abbrev pub OneDigestOneRelease : Type 0
OneDigestOneRelease =
    (b b' : List ℕ) (at at' : ℕ) (v v' : Header) → StatesSame b at v b' at' v' → image_in b' ≡ gives v'
    → ((message_of b at v ≡ message_of b' at' v') × (Change b at v b' at' v' → ⊥)) ⊎ Collision (message_of b at v) (message_of b' at' v')

-- What stands behind the tag, but for the digest itself, has no say: a signature can be put there later.
abbrev pub BehindHasNoSay : Type 0
BehindHasNoSay =
    (b b' : List ℕ) (at at' : ℕ) (v v' : Header) → Holds b at v → Holds b' at' v' → v.digest ≡ v'.digest
    → message_of b at v ≡ message_of b' at' v' → (image_in b ≡ gives v) ↔ (image_in b' ≡ gives v')

-- The same of two calls of `check_firmware`, which were lent b and b': the first gave r, a header; the second gave r'. Each states the
-- digest that the reader finds.
abbrev pub ChangedCallRefuses : Type 0
ChangedCallRefuses =
    (b b' : List ℕ) (at at' : ℕ) (v v' w : Header) (r r' : Result Header ImageRefusal) → image_answer r ≡ image_in b
    → image_answer r' ≡ image_in b' → r ≡ Ok w → Holds b at v → Holds b' at' v' → v'.digest ≡ v.digest → Change b at v b' at' v'
    → (image_answer r' ≡ refused 9 256) ⊎ Collision (message_of b at v) (message_of b' at' v')
