use mathlib.Core.Path.{◌≡◌, refl, sym, ap, ap₂, ◌∙◌}
use mathlib.Core.Bool.{Bool, false, ◌&&◌}
use Prim.Native.Nat.{◌+◌}
use native.Mathlib.Omega.{arith}
use Rattle.std.specs.Prelude.{Some}
use Rattle.digest_fips180.specs.Sha256.{H0}
use Rattle.flash.specs.Sizes.{firmware}
use Rattle.image.specs.Verdict.{check_of}
use Rattle.mending.specs.declared.Mark.TheVariants.{All0}
use Rattle.mending.specs.declared.OldImage.TheVariants.{Boot, Update}
use Rattle.mending.specs.OldImages.{fits_mark}
use Rattle.mending_images.specs.Claims.{old_bytes, has_digest, fits_by}
use Rattle.mending_images.specs.Lent.{lent_flash}
use Rattle.mending_images.proofs.Hashed.{none_hashed}
use Rattle.mending_images.proofs.Fitting.{claims_lie}
use Rattle.mending_search.proofs.Turns.{fits_here, not_here, none_left, of_sectors}
use Rattle.mending_search.proofs.Behind.{fits_behind, hash_there}
use Rattle.mending_search.proofs.search_behind.Goals.{else-has_digest-via-then-has_digest+else-has_digest-2, else-has_digest-via-else-has_digest}
use Rattle.mending_search.proofs.search_behind.Goals as goal

pub loop-moves-init : goal.loop-moves-init
unfolding H0
loop-moves-init c =
    let a = c.args in
    let g = a.flash.now.geometry in
    let f = lent_flash a.flash.now in
    (none_hashed g f Update All0 a.u, none_hashed g f Boot All0 a.b, refl)

pub invariant_of-update : goal.invariant_of-update
invariant_of-update c =
    let a = c.args in record { lies = (claims_lie a.flash.now.geometry All0 (lent_flash a.flash.now) a.u a.b c.requires).0 }

pub invariant_of-boot : goal.invariant_of-boot
invariant_of-boot c =
    let a = c.args in record { lies = (claims_lie a.flash.now.geometry All0 (lent_flash a.flash.now) a.u a.b c.requires).1 }

pub hash_on-x-requires : goal.hash_on-x-requires
hash_on-x-requires c = (omega (arith, c.loop-moves-test.true, c.firmware_sectors-m.ensures), c.loop-moves.invariant.0)

pub hash_on-y-requires : goal.hash_on-y-requires
hash_on-y-requires c = (omega (arith, c.loop-moves-test.true, c.firmware_sectors-m.ensures), c.loop-moves.invariant.1)

pub has_digest-requires : goal.has_digest-requires
has_digest-requires c =
    let a = c.args in
    let g = a.flash.now.geometry in
    let f = lent_flash a.flash.now in
    let n = c.firmware_sectors-m in
    let moves = c.loop-moves.moves + 1 in
    let k = c.mark_after-mark.result in
    let w = of_sectors n.result (firmware g) moves k n.ensures c.mark_after-mark.ensures in
    (omega (arith, c.loop-moves-test.true, n.ensures), c.hash_on-x.ensures ∙ hash_there g f Update k a.u moves w.0 w.1)

pub has_digest-requires-then-has_digest : goal.has_digest-requires-then-has_digest
has_digest-requires-then-has_digest c =
    let a = c.args in
    let g = a.flash.now.geometry in
    let f = lent_flash a.flash.now in
    let n = c.firmware_sectors-m in
    let moves = c.loop-moves.moves + 1 in
    let k = c.mark_after-mark.result in
    let w = of_sectors n.result (firmware g) moves k n.ensures c.mark_after-mark.ensures in
    (omega (arith, c.loop-moves-test.true, n.ensures), c.hash_on-y.ensures ∙ hash_there g f Boot k a.b moves w.0 w.1)

pub returns-then-has_digest-2 : goal.returns-then-has_digest-2
returns-then-has_digest-2 c =
    let a = c.args in
    let g = a.flash.now.geometry in
    let f = lent_flash a.flash.now in
    let n = c.firmware_sectors-m in
    let moves = c.loop-moves.moves + 1 in
    let k = c.mark_after-mark.result in
    let w = of_sectors n.result (firmware g) moves k n.ensures c.mark_after-mark.ensures in
    fits_here (fits_mark check_of g f) (firmware g) moves k w.0 w.1
    (sym (fits_behind g f a.flash.now.shaped k (Some (a.u, a.b)) w.0 (omega (arith, c.loop-moves.auto.moves, w.1)) (sym c.requires))
    ∙ ap₂ (λ (x y : Bool). x && y) (sym c.has_digest.ensures ∙ c.if-has_digest.true) (sym c.has_digest-then-has_digest.ensures ∙ c.if-has_digest-2.true))
    ∙ c.loop-moves.invariant.2

pub loop-moves-preserved : goal.loop-moves-preserved
loop-moves-preserved c =
    let a = c.args in
    let g = a.flash.now.geometry in
    let f = lent_flash a.flash.now in
    let n = c.firmware_sectors-m in
    let moves = c.loop-moves.moves + 1 in
    let k = c.mark_after-mark.result in
    let w = of_sectors n.result (firmware g) moves k n.ensures c.mark_after-mark.ensures in
    let no : fits_by g k f (Some (a.u, a.b)) ≡ false = elim c.else-has_digest.branch [
      | else-has_digest-via-then-has_digest+else-has_digest-2 w ↦ ap₂ (λ (x y : Bool). x && y) (sym c.has_digest.ensures ∙ w.if-has_digest.true)
          (sym w.has_digest-then-has_digest.ensures ∙ w.if-has_digest-2.false)
      | else-has_digest-via-else-has_digest w ↦ ap (λ (x : Bool). x && has_digest (old_bytes g Boot k f) a.b) (sym c.has_digest.ensures ∙ w.if-has_digest.false)
    ] in (
      c.hash_on-x.ensures,
      c.hash_on-y.ensures,
      not_here (fits_mark check_of g f) (firmware g) moves k w.0 w.1
          (sym (fits_behind g f a.flash.now.shaped k (Some (a.u, a.b)) w.0 (omega (arith, c.loop-moves.auto.moves, w.1)) (sym c.requires)) ∙ no)
          ∙ c.loop-moves.invariant.2,
    )

pub returns : goal.returns
returns c =
    let a = c.args in
    let g = a.flash.now.geometry in
    let f = lent_flash a.flash.now in
    none_left (fits_mark check_of g f) (firmware g) (c.loop-moves.moves + 1) (omega (arith, c.loop-moves-test.false, c.firmware_sectors-m.ensures))
    ∙ c.loop-moves.invariant.2
