use mathlib.Core.Path.{sym, ap, ◌∙◌}
use mathlib.Core.Bool.{Bool, ◌&&◌}
use native.Mathlib.Omega.{arith}
use Rattle.digest_fips180.specs.Sha256.{H0}
use Rattle.mending.specs.declared.OldImage.TheVariants.{Boot, Update}
use Rattle.mending_images.specs.Claims.{old_bytes, has_digest}
use Rattle.mending_images.specs.Lent.{lent_flash}
use Rattle.mending_images.proofs.Hashed.{none_hashed}
use Rattle.mending_images.proofs.Fitting.{claims_lie}
use Rattle.mending_search.proofs.Behind.{fits_claims}
use Rattle.mending_search.proofs.fits.Goals as goal

pub invariant_of-update : goal.invariant_of-update
invariant_of-update c =
    let f = c.args.flash.now in
    record { lies = (claims_lie f.geometry c.args.mark (lent_flash f) _ _ (sym c.read_claims.ensures ∙ c.in-Some.is)).0 }

pub has_digest-requires : goal.has_digest-requires
unfolding H0
has_digest-requires c =
    let f = c.args.flash.now in (omega arith, none_hashed f.geometry (lent_flash f) Update c.args.mark c.in-Some.u)

pub invariant_of-boot : goal.invariant_of-boot
invariant_of-boot c =
    let f = c.args.flash.now in
    record { lies = (claims_lie f.geometry c.args.mark (lent_flash f) _ _ (sym c.read_claims.ensures ∙ c.in-Some.is)).1 }

pub has_digest-requires-then-has_digest : goal.has_digest-requires-then-has_digest
unfolding H0
has_digest-requires-then-has_digest c =
    let f = c.args.flash.now in (omega arith, none_hashed f.geometry (lent_flash f) Boot c.args.mark c.in-Some.b)

pub returns-then-has_digest : goal.returns-then-has_digest
returns-then-has_digest c =
    let f = c.args.flash.now in
    let l = lent_flash f in
    c.has_digest-then-has_digest.ensures
    ∙ ap (λ (x : Bool). x && has_digest (old_bytes f.geometry Boot c.args.mark l) c.in-Some.b) (sym c.if-has_digest.true ∙ c.has_digest.ensures)
    ∙ fits_claims f.geometry l f.shaped c.args.mark _ (sym c.in-Some.is ∙ c.read_claims.ensures)

pub returns-else-has_digest : goal.returns-else-has_digest
returns-else-has_digest c =
    let f = c.args.flash.now in
    let l = lent_flash f in
    c.if-has_digest.false
    ∙ ap (λ (x : Bool). x && has_digest (old_bytes f.geometry Boot c.args.mark l) c.in-Some.b) (sym c.if-has_digest.false ∙ c.has_digest.ensures)
    ∙ fits_claims f.geometry l f.shaped c.args.mark _ (sym c.in-Some.is ∙ c.read_claims.ensures)

pub returns-in-None : goal.returns-in-None
returns-in-None c =
    let f = c.args.flash.now in fits_claims f.geometry (lent_flash f) f.shaped c.args.mark _ (sym c.in-None.is ∙ c.read_claims.ensures)
