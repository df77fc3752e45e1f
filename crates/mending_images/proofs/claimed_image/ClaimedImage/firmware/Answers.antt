use native.Mathlib.Omega.{arith}
use Rattle.flash.proofs.Checked.{sectors_are}
use Rattle.mending_images.specs.Lent.{lent_flash}
use Rattle.mending_images.proofs.Hashed.{sector_length}
use Rattle.mending_images.proofs.claimed_image.ClaimedImage.firmware.Goals as goal

pub firmware_in-requires : goal.firmware_in-requires
firmware_in-requires c =
    let o = c.args.self.now in
    let f = o.flash.now in (
      f.shaped.limits,
      omega (arith, c.requires, sectors_are f.geometry f.shaped.limits),
      sector_length f.geometry (lent_flash f) f.shaped o.image c.args.mark c.args.i.0 c.requires c.sector.ensures,
      o.lies.behind,
    )
