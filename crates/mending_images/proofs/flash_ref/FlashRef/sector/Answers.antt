use Rattle.mending_images.proofs.Pieces.{sector_part}
use Rattle.mending_images.proofs.flash_ref.FlashRef.sector.Goals as goal

pub returns-in-Boot : goal.returns-in-Boot
returns-in-Boot c = let f = c.args.self.now in rw c.in-Boot.is (sector_part f.geometry c.args.i.0 _ f.boot.now c.offset_of-start.ensures.is)

pub returns-in-Update : goal.returns-in-Update
returns-in-Update c = let f = c.args.self.now in rw c.in-Update.is (sector_part f.geometry c.args.i.0 _ f.update.now c.offset_of-start.ensures.is)
