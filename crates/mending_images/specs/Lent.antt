-- Old images in buffers that are lent.
use Rattle.std.specs.Prelude.{List, ℕ}
use Rattle.flash.specs.Buffers.{Flash, lent}
use Rattle.mending.specs.declared.Mark.{Mark}
use Rattle.mending.specs.declared.OldImage.{OldImage}
use Rattle.mending.specs.OldImages.{old_sector}
use Rattle.mending_images.specs.Claims.{old_bytes}
use Rattle.mending_images.specs.Parts.{hash_before}
use Rattle.mending_images.specs.declared.flash_ref.FlashRef.{FlashRef}
use Rattle.mending_images.specs.declared.claimed_image.ClaimedImage.{ClaimedImage}

-- The flash that stands in the three buffers.
abbrev pub lent_flash : FlashRef → Flash
lent_flash f = lent f.boot f.update f.swap

-- Sector i of an old image, as a mark shows it.
abbrev pub sector_in : FlashRef → OldImage → Mark → ℕ → List ℕ
sector_in f image k i = old_sector f.geometry image k (lent_flash f) i

-- The image's bytes under a mark.
abbrev pub bytes_of : ClaimedImage → Mark → List ℕ
bytes_of o k = old_bytes o.flash.now.geometry o.image k (lent_flash o.flash.now)

-- The hash value of its first n sectors under a mark.
abbrev pub hash_of : ClaimedImage → Mark → ℕ → List ℕ
hash_of o k n = hash_before o.flash.now.geometry o.image k (lent_flash o.flash.now) o.claim n
