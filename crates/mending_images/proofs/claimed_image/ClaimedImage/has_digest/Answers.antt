use mathlib.Core.Path.{sym, ap, ◌∙◌}
use mathlib.Core.List.{List}
use Prim.Native.Nat.{ℕ, ◌+◌, ◌-◌}
use native.Mathlib.Omega.{arith}
use lib.ListN.{take, drop}
use lib.Pointwise.{bytes_decides}
use Rattle.flash.specs.Sectors.{part}
use Rattle.flash.proofs.Checked.{some_firmware}
use Rattle.mending_images.specs.Lent.{lent_flash}
use Rattle.mending_images.proofs.Pieces.{lent_part}
use Rattle.mending_images.proofs.Hashed.{sector_length, digest_compared}
use Rattle.mending_images.proofs.claimed_image.ClaimedImage.has_digest.Goals as goal

pub slice_bounds-eq-end : goal.slice_bounds-eq-end
slice_bounds-eq-end c =
    let o = c.args.self.now in
    let f = o.flash.now in
    omega (
      arith,
      o.lies.digest,
      f.shaped.limits.small,
      sector_length f.geometry (lent_flash f) f.shaped o.image c.args.mark 0 (some_firmware f.geometry f.shaped.limits) c.sector-first.ensures,
    )

pub returns : goal.returns
returns c =
    let o = c.args.self.now in
    let at : ℕ = o.claim.digest + 4 in
    let stated : List ℕ = take (at + 32 - at) (drop at c.sector-first.result.now) in
    let w = bytes_decides c.as_slice.result.now stated in
    digest_compared o.flash.now.geometry (lent_flash o.flash.now) o.flash.now.shaped o.image c.args.mark o.claim o.lies (c.as_slice.ensures ∙ c.end_digest-digest.ensures)
    (lent_part at 32 c.sector-first.result.now ∙ ap (part at 32) c.sector-first.ensures)
    (λ e. w.0 (sym c.eq.ensures ∙ e)) (λ e. c.eq.ensures ∙ w.1 e)
