-- 01's "Image check" of the two old images that a mark shows, taken apart: what their headers state, which costs no digest, and then
-- whether their digests are those that are stated.
use Rattle.std.specs.Prelude.{Bool, false, cond, ◌&&◌, List, ℕ, ◌+◌, ◌-◌, ◌*◌, get_or, ltb, Option, Some, None}
use Rattle.numbers.specs.Answer.{Answer, gives, refused}
use Rattle.digest_fips180.specs.Sha256.{sha256}
use Rattle.flash.specs.declared.Geometry.{Geometry}
use Rattle.flash.specs.Sizes.{firmware}
use Rattle.flash.specs.Buffers.{Flash}
use Rattle.header_tags.specs.Bytes.{same}
use Rattle.header_reader.specs.Reading.{bytes_at, tag_places}
use Rattle.image.specs.Check.{values_in, covered}
use Rattle.mending.specs.declared.Mark.{Mark}
use Rattle.mending.specs.declared.OldImage.{OldImage}
use Rattle.mending.specs.declared.OldImage.TheVariants.{Boot, Update}
use Rattle.mending.specs.OldImages.{old_sector, joined}
use Rattle.mending_images.specs.declared.Claim.{Claim}

-- What a header states whose tags stand at these places: its version, where the firmware behind it ends, and where the digest's tag
-- begins.
abbrev pub claim_at : List ℕ → List ℕ → Claim
claim_at h places = record { version = (values_in h places).version; end = 256 + (values_in h places).size; digest = get_or places 2 0 }

-- A firmware that ends behind `limit` does not fit.
abbrev pub claim_within : ℕ → Claim → Option Claim
claim_within limit c = cond (ltb limit c.end) None (Some c)

abbrev pub claim_of : ℕ → List ℕ → Answer (List ℕ) → Option Claim
claim_of limit h (gives places) = claim_within limit (claim_at h places)
claim_of limit h (refused n p) = None

-- What the header at the front of h states, where the reader takes it and the firmware fits.
unfoldable pub claim_in : ℕ → List ℕ → Option Claim
claim_in limit h = claim_of limit h (tag_places h)

-- Both headers are taken, and UPDATE's version is greater: UPDATE's and BOOT's claims.
abbrev pub newer_claim : Option Claim → Option Claim → Option (Claim × Claim)
newer_claim (Some u) (Some b) = cond (ltb b.version u.version) (Some (u, b)) None
newer_claim (Some u) None = None
newer_claim None b = None

-- The headers stand in sector 0 of the old images; the firmware has to end before the trailer sector.
unfoldable pub claims_under : Geometry → Mark → Flash → Option (Claim × Claim)
claims_under g k f =
    newer_claim (claim_in (firmware g * g.size) (old_sector g Update k f 0)) (claim_in (firmware g * g.size) (old_sector g Boot k f 0))

-- The bytes of the firmware sectors of an old image.
abbrev pub old_bytes : Geometry → OldImage → Mark → Flash → List ℕ
old_bytes g image k f = joined (old_sector g image k f) (firmware g)

-- What the digest of the image in the bytes b covers, by what its header states.
abbrev pub covered_by : Claim → List ℕ → List ℕ
covered_by c b = covered b c.digest (c.end - 256)

-- The image in the bytes b has the digest that its header states, in the digest tag's value.
unfoldable pub has_digest : List ℕ → Claim → Bool
has_digest b c = same (sha256 (covered_by c b)) (bytes_at b (c.digest + 4) 32)

-- Both have, by what the headers state: UPDATE's image in bu, and BOOT's in bb.
abbrev pub have_digests : List ℕ → List ℕ → Option (Claim × Claim) → Bool
have_digests bu bb (Some c) = has_digest bu c.0 && has_digest bb c.1
have_digests bu bb None = false

-- The mark fits, by the headers and the digests of the old images that it shows.
abbrev pub fits_by : Geometry → Mark → Flash → Option (Claim × Claim) → Bool
fits_by g k f c = have_digests (old_bytes g Update k f) (old_bytes g Boot k f) c
