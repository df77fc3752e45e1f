-- Document 01, "Image check", as power-up and the calls beside it use it: what they need of a good image, and a bad one's number.
use Rattle.std.specs.Prelude.{◌≡◌, ℕ, ◌<◌, List}
use Rattle.numbers.specs.Answer.{Answer, gives, refused, then}
use Rattle.flash.specs.declared.Geometry.{Geometry}
use Rattle.flash.specs.Sectors.{firmware_of}
use Rattle.header_tags.specs.Standing.{TagAt}
use Rattle.header_reader.specs.declared.Header.{Header}
use Rattle.image.specs.declared.Release.{Release}
use Rattle.image.specs.Check.{image_in}

-- "Power-up", what it needs of a good image's values: its version, its size and its timestamp.
abbrev pub release_of : Header → Release
release_of v = record { version = v.version; size = v.size; timestamp = v.timestamp }

-- "Image check", its answer with the release in place of the header.
abbrev pub released : Answer Header → Answer Release
released a = then a (λ v. gives (release_of v))

-- "Power-up", "check UPDATE" and "check BOOT": the version of the image in the firmware sectors, or its refusal. The trailer sector has
-- no say.
unfoldable pub check_of : Geometry → List ℕ → Answer ℕ
check_of g l = then (image_in (firmware_of g l)) (λ v. gives v.version)

-- It says what the image check says of these sectors: a good image's version, and each refusal with its place. Proved in proofs/.
pub record SaysOfImage (g : Geometry) (l : List ℕ) : Type 0 where
  pub good : (v : Header) → image_in (firmware_of g l) ≡ gives v → check_of g l ≡ gives v.version
  pub bad : (n p : ℕ) → image_in (firmware_of g l) ≡ refused n p → check_of g l ≡ refused n p

abbrev pub ChecksThatImage : Type 0
ChecksThatImage = (g : Geometry) (l : List ℕ) → SaysOfImage g l

-- So a partition that checks has no tag of a type from 8000 up (document 02, "Tags that must be understood"): power-up runs, and mending
-- fits, no image that has one. Proved in proofs/.
abbrev pub CheckedIsUnderstood : Type 0
CheckedIsUnderstood = (g : Geometry) (l : List ℕ) (n q t : ℕ) → check_of g l ≡ gives n → TagAt (firmware_of g l) q t → t < 0x8000
