use Prim.Native.Nat.{◌-◌}
use native.Mathlib.Omega.{arith}
use lib.ListN.{length-take}
use Rattle.flash.proofs.Checked.{sectors_are}
use Rattle.mending_images.specs.Lent.{lent_flash}
use Rattle.mending_images.proofs.Hashed.{sector_length, before_first, before_header, before_sector}
use Rattle.mending_images.proofs.claimed_image.ClaimedImage.bytes_before.Goals as goal

pub slice_bounds-result-end : goal.slice_bounds-result-end
slice_bounds-result-end c =
    let o = c.args.self.now in
    let f = o.flash.now in
    omega (
      arith,
      o.lies.digest,
      f.shaped.limits.small,
      sector_length f.geometry (lent_flash f) f.shaped o.image c.args.mark c.args.i.0 c.requires c.sector-first.ensures,
      length-take o.claim.digest c.sector-first.result.now,
    )

pub returns-then-i-eq0 : goal.returns-then-i-eq0
returns-then-i-eq0 c =
    let o = c.args.self.now in
    before_first o.flash.now.geometry (lent_flash o.flash.now) o.flash.now.shaped o.image c.args.mark o.claim.digest c.args.i.0 c.if-i-eq0.true c.sector-first.ensures

pub offset_of-requires : goal.offset_of-requires
offset_of-requires c =
    let f = c.args.self.now.flash.now in (f.shaped.limits, omega (arith, c.requires, sectors_are f.geometry f.shaped.limits))

pub returns-then-offset_of-eq-HEADER_LENGTH : goal.returns-then-offset_of-eq-HEADER_LENGTH
returns-then-offset_of-eq-HEADER_LENGTH c =
    let o = c.args.self.now in
    let i = c.args.i.0 in
    before_header o.flash.now.geometry (lent_flash o.flash.now) o.flash.now.shaped o.image c.args.mark o.claim.digest i (i - 1) o.lies.digest
    (omega (arith, c.if-i-eq0.false)) c.requires c.offset_of.ensures.is c.sector-before.ensures (omega arith)

pub returns : goal.returns
returns c =
    let o = c.args.self.now in
    let i = c.args.i.0 in
    before_sector o.flash.now.geometry (lent_flash o.flash.now) o.flash.now.shaped o.image c.args.mark o.claim.digest i (i - 1) o.lies.digest
    (omega (arith, c.if-i-eq0.false)) c.requires c.offset_of.ensures.is c.sector-before.ensures c.if-offset_of-eq-HEADER_LENGTH.false
