use native.Mathlib.Omega.{arith}
use Rattle.flash.proofs.Checked.{sectors_are}
use Rattle.mending_images.proofs.flash_ref.FlashRef.old_sector.Goals as goal

pub sector-requires : goal.sector-requires
sector-requires c = let f = c.args.self.now in omega (arith, c.requires, sectors_are f.geometry f.shaped.limits)
