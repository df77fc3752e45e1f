-- Document 02, "Mend lost flags": the two old images at the places that the table gives for a mark, and when a mark fits.
use Rattle.std.specs.Prelude.{Bool, false, List, [], ◌++◌, ℕ, zero, suc, ltb}
use Rattle.numbers.specs.Answer.{Answer, gives, refused}
use Rattle.flash.specs.declared.Geometry.{Geometry}
use Rattle.flash.specs.Sizes.{firmware}
use Rattle.flash.specs.Buffers.{Flash, flash}
use Rattle.flash_flags.specs.declared.Flag.{Flag}
use Rattle.exchange.specs.declared.Area.{Area}
use Rattle.exchange.specs.declared.Area.TheVariants.{Boot, Update}
use Rattle.exchange.specs.Operations.{get, old_boot_in, old_update_in}
use Rattle.exchange.specs.Decision.{Check}
use Rattle.exchange.specs.RuledOut.{Newer}
use Rattle.mending.specs.declared.Mark.{Mark}
use Rattle.mending.specs.declared.OldImage.{OldImage}
use Rattle.mending.specs.declared.OldImage.TheVariants.{Boot as BootImage, Update as UpdateImage}
use Rattle.mending.specs.Marks.{flag_under}

-- "the places the table gives": of each old image its column of 01's table of places.
abbrev pub place_of : OldImage → Flag → Area
place_of BootImage = old_boot_in
place_of UpdateImage = old_update_in

-- The partition of an old image.
abbrev pub own_area : OldImage → Area
own_area BootImage = Boot
own_area UpdateImage = Update

-- Sector i of an old image as the mark k shows it.
abbrev pub old_sector : Geometry → OldImage → Mark → Flash → ℕ → List ℕ
old_sector g image k f i = get g (place_of image (flag_under k i)) i f

-- The sectors s 0, s 1, .. below n, one behind the other.
unfoldable pub joined : (ℕ → List ℕ) → ℕ → List ℕ
joined s zero = []
joined s (suc n) = joined s n ++ s n

-- The partition of an old image put together: its firmware sectors, then the trailer sector that stands in the partition itself.
unfoldable pub old_partition : Geometry → OldImage → Mark → Flash → List ℕ
old_partition g image k f = joined (old_sector g image k f) (firmware g) ++ get g (own_area image) (firmware g) f

-- BOOT's and UPDATE's firmware sectors are as the mark shows them; the trailer sectors and SWAP are today's, and no claim reads them.
abbrev pub old_flash : Geometry → Mark → Flash → Flash
old_flash g k f = flash (old_partition g BootImage k f) (old_partition g UpdateImage k f) f.swap

-- "A mark fits if the two old images, at the places the table gives for it, both check and the UPDATE version is greater."
abbrev pub Fits : Check → Geometry → Flash → Mark → Type 0
Fits check g f k = Newer (check g (old_partition g UpdateImage k f)) (check g (old_partition g BootImage k f))

-- The same as a test, by the checks of UPDATE and of BOOT.
abbrev pub greater : Answer ℕ → Answer ℕ → Bool
greater (gives v) (gives w) = ltb w v
greater (gives v) (refused n p) = false
greater (refused n p) b = false

unfoldable pub fits_mark : Check → Geometry → Flash → Mark → Bool
fits_mark check g f k = greater (check g (old_partition g UpdateImage k f)) (check g (old_partition g BootImage k f))
