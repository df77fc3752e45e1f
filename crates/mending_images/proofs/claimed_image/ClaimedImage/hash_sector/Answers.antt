use native.Mathlib.Omega.{arith}
use Rattle.mending_images.specs.Lent.{lent_flash}
use Rattle.mending_images.proofs.Hashed.{none_more, one_hashed}
use Rattle.mending_images.proofs.claimed_image.ClaimedImage.hash_sector.Goals as goal

pub returns-then-self-i : goal.returns-then-self-i
returns-then-self-i c =
    let o = c.args.self.now in
    none_more o.flash.now.geometry (lent_flash o.flash.now) o.image c.args.mark o.claim c.args.i.0 (omega arith) c.requires.1

pub returns : goal.returns
returns c =
    let o = c.args.self.now in
    one_hashed o.flash.now.geometry (lent_flash o.flash.now) o.flash.now.shaped o.image c.args.mark o.claim o.lies c.args.i.0 (omega arith) c.requires.1
    c.bytes_before.ensures c.firmware.ensures c.hash_of_two.ensures
