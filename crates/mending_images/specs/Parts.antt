-- The digest of an old image in parts, sector by sector: the bytes that each part has, and the hash value that is carried on. A block may
-- lie in two sectors, since the header's part is of any length.
use Rattle.std.specs.Prelude.{List, ℕ, zero, suc, ◌-◌, ◌*◌, ◌/◌, min, ◌≤◌, take, drop}
use Rattle.digest_fips180.specs.Sha256.{H0}
use Rattle.digest_sha256.specs.Parts.{hash_over, left_of}
use Rattle.flash.specs.declared.Geometry.{Geometry}
use Rattle.flash.specs.Sizes.{firmware}
use Rattle.flash.specs.Buffers.{Flash}
use Rattle.image.specs.Check.{covered}
use Rattle.mending.specs.declared.Mark.{Mark}
use Rattle.mending.specs.declared.OldImage.{OldImage}
use Rattle.mending.specs.OldImages.{old_sector, joined}
use Rattle.mending_images.specs.declared.Claim.{Claim}

-- What sector i, of s bytes l, has of the bytes of an image from behind its header to place `end`.
abbrev pub firmware_in : ℕ → ℕ → ℕ → List ℕ → List ℕ
firmware_in s i end l = drop (256 - i * s) (take (end - i * s) l)

-- The sector in which the firmware ends that a header states.
abbrev pub last_sector : Geometry → Claim → ℕ
last_sector g c = (c.end - 1) / g.size

-- What the digest covers of the first n sectors of an old image, where all of them lie before the firmware's end.
abbrev pub covered_first : Geometry → OldImage → Mark → Flash → ℕ → ℕ → List ℕ
covered_first g image k f at n = covered (joined (old_sector g image k f) n) at (n * g.size - 256)

-- The hash value that has taken in the whole blocks of these, of an old image's first n sectors. The sector in which the firmware ends is
-- not among them: the digest's end takes it.
unfoldable pub hash_before : Geometry → OldImage → Mark → Flash → Claim → ℕ → List ℕ
hash_before g image k f c n = hash_over H0 (covered_first g image k f c.digest (min n (last_sector g c)))

-- What stands before the firmware bytes of sector i and is in no hash value: before those of sector 0 the header's part; before those of
-- another sector what the sectors before it leave behind their whole blocks.
unfoldable pub bytes_before : Geometry → OldImage → Mark → Flash → ℕ → ℕ → List ℕ
bytes_before g image k f at zero = take at (old_sector g image k f 0)
bytes_before g image k f at (suc i) = left_of (covered_first g image k f at (suc i))

-- What holds of a claim that was read: its firmware lies within the firmware sectors, and its digest's tag, of 36 bytes, within the header.
pub record Lies (g : Geometry) (c : Claim) : Type 0 where
  pub behind : 256 ≤ c.end
  pub within : c.end ≤ firmware g * g.size
  pub digest : c.digest ≤ 220
