use Rattle.mending_images.specs.Lent.{lent_flash}
use Rattle.mending_images.proofs.Hashed.{same_count, digest_taken}
use Rattle.mending_images.proofs.claimed_image.ClaimedImage.end_digest.Goals as goal

pub digest_from_two-requires : goal.digest_from_two-requires
digest_from_two-requires c =
    let o = c.args.self.now in
    same_count o.flash.now.geometry (lent_flash o.flash.now) o.flash.now.shaped o.image c.args.mark o.claim o.lies c.bytes_before.ensures c.firmware.ensures

pub returns : goal.returns
returns c =
    let o = c.args.self.now in
    digest_taken o.flash.now.geometry (lent_flash o.flash.now) o.flash.now.shaped o.image c.args.mark o.claim o.lies c.bytes_before.ensures c.firmware.ensures
    c.requires c.digest_from_two.ensures
