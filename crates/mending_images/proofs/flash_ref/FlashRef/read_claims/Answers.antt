use mathlib.Core.Path.{sym, ap, ◌∙◌}
use Prim.Native.Nat.{ℕ, ◌*◌}
use native.Mathlib.Omega.{arith}
use Rattle.flash.proofs.Checked.{sectors_are, some_firmware}
use Rattle.mending_images.specs.Lent.{lent_flash}
use Rattle.mending_images.proofs.Stated.{no_update, no_boot, newer, not_newer}
use Rattle.mending_images.proofs.flash_ref.FlashRef.read_claims.Goals as goal

pub offset_of-limit-requires : goal.offset_of-limit-requires
offset_of-limit-requires c =
    let f = c.args.self.now in (f.shaped.limits, omega (arith, c.firmware_sectors.ensures, sectors_are f.geometry f.shaped.limits))

pub old_sector-requires : goal.old_sector-requires
old_sector-requires c = let f = c.args.self.now in some_firmware f.geometry f.shaped.limits

pub old_sector-requires-2 : goal.old_sector-requires-2
old_sector-requires-2 c = let f = c.args.self.now in some_firmware f.geometry f.shaped.limits

pub returns-in_err-update : goal.returns-in_err-update
returns-in_err-update c =
    let f = c.args.self.now in
    let limit = c.offset_of-limit.ensures.is ∙ ap (λ (m : ℕ). m * f.geometry.size) c.firmware_sectors.ensures in
    c.from_residual.ensures ∙ no_update f.geometry c.args.mark (lent_flash f) limit c.old_sector.ensures (sym c.in_err-update.was ∙ c.read_claim.ensures)

pub returns-in_err-boot : goal.returns-in_err-boot
returns-in_err-boot c =
    let f = c.args.self.now in
    let limit = c.offset_of-limit.ensures.is ∙ ap (λ (m : ℕ). m * f.geometry.size) c.firmware_sectors.ensures in
    c.from_residual-in_err-boot.ensures
    ∙ no_boot f.geometry c.args.mark (lent_flash f) limit c.old_sector.ensures c.old_sector-2.ensures _ (sym c.in_ok-update.was ∙ c.read_claim.ensures)
    (sym c.in_err-boot.was ∙ c.read_claim-2.ensures)

pub returns-then-boot-update : goal.returns-then-boot-update
returns-then-boot-update c =
    let f = c.args.self.now in
    let limit = c.offset_of-limit.ensures.is ∙ ap (λ (m : ℕ). m * f.geometry.size) c.firmware_sectors.ensures in
    newer f.geometry c.args.mark (lent_flash f) limit c.old_sector.ensures c.old_sector-2.ensures _ (sym c.in_ok-update.was ∙ c.read_claim.ensures) _
    (sym c.in_ok-boot.was ∙ c.read_claim-2.ensures) c.if-boot-update.true

pub returns : goal.returns
returns c =
    let f = c.args.self.now in
    let limit = c.offset_of-limit.ensures.is ∙ ap (λ (m : ℕ). m * f.geometry.size) c.firmware_sectors.ensures in
    not_newer f.geometry c.args.mark (lent_flash f) limit c.old_sector.ensures c.old_sector-2.ensures _ (sym c.in_ok-update.was ∙ c.read_claim.ensures) _
    (sym c.in_ok-boot.was ∙ c.read_claim-2.ensures) (omega (arith, c.if-boot-update.false))
