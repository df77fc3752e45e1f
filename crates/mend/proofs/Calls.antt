-- Mending by its checks, by the mark that was found, and by what was written.
use mathlib.Core.Path.{◌≡◌, refl, sym, ap, ap₂, ◌∙◌, subst}
use mathlib.Core.Bool.{Bool, true, false, cond}
use mathlib.Core.List.{List}
use Prim.Native.Nat.{ℕ}
use native.Mathlib.Omega.{arith}
use Rattle.numbers.specs.Answer.{Answer, gives, refused, then}
use Rattle.flash.specs.declared.Geometry.{Geometry}
use Rattle.flash.specs.Sizes.{geometry, geometry_where}
use Rattle.flash.specs.Buffers.{Flash, flash, fits, flash_of}
use Rattle.flash.proofs.Answers.{flash_asked, flash_fits}
use Rattle.flash_status.specs.declared.BootStatus.{BootStatus}
use Rattle.flash_status.specs.declared.BootStatus.TheVariants.{New as BootNew, Testing, Success}
use Rattle.flash_status.specs.declared.UpdateStatus.TheVariants.{New as UpdateNew}
use Rattle.image.specs.Verdict.{check_of}
use Rattle.mending.specs.declared.Mark.{Mark}
use Rattle.mending.specs.Mending.{may_mend, found, given, with_mark, mending}
use Rattle.mending_flags.specs.Wrote.{Wrote}
use Rattle.mend.specs.Inner.{permit_at, first_mark, mend_after}

-- an UPDATE that is NEW is the wrong time
pub mend_new : (b : BootStatus) → may_mend b UpdateNew ≡ refused 14 0
mend_new BootNew = refl
mend_new Testing = refl
mend_new Success = refl

module _ (n s : ℕ) (f : Flash) where
  -- ---- the checks, one after the other
  pub not_fit : {m p : ℕ} → refused m p ≡ flash_of n s f → record { answer = refused m p; flash = f } ≡ mending check_of (geometry n s) f
  unfolding flash_of mending found
  not_fit {m} {p} e = by (fits (geometry n s) f) e
    where
      by : (b : Bool) → refused m p ≡ geometry_where b n s
          → with_mark (geometry n s) f (refused m p)
          ≡ with_mark (geometry n s) f (then (cond b (permit_at (geometry n s) f.boot f.update) (refused 1 0)) (λ t. first_mark (geometry n s) f))
      by true q = absurd (let z : ◌≡◌ {A = ℕ} 0 1 = cc in omega arith)
      by false q = ap (λ (x : Answer Geometry). with_mark (geometry n s) f (then x (λ h. first_mark (geometry n s) f))) q

  module _ {g : Geometry} (e : gives g ≡ flash_of n s f) where
    is_mending : mend_after g f (permit_at g f.boot f.update) ≡ mending check_of (geometry n s) f
    unfolding mending found
    is_mending =
        subst (λ (x : Geometry). mend_after g f (permit_at g f.boot f.update) ≡ mending check_of x f) (sym (flash_asked n s f g e))
        (rw (flash_fits n s f g e) refl)

    pub not_permitted : {m p : ℕ} → refused m p ≡ permit_at g f.boot f.update
        → record { answer = refused m p; flash = f } ≡ mending check_of (geometry n s) f
    not_permitted d = ap (mend_after g f) d ∙ is_mending

    -- ---- by the mark that was found
    module _ (d : gives tt ≡ permit_at g f.boot f.update) where
      pub no_mark : {m p : ℕ} → refused m p ≡ first_mark g f → record { answer = refused m p; flash = f } ≡ mending check_of (geometry n s) f
      no_mark h = ap (with_mark g f) h ∙ ap (mend_after g f) d ∙ is_mending

      pub mark_written : (k : Mark) (v : List ℕ) (c : ℕ) → gives k ≡ first_mark g f → Wrote g k f.update v c
          → record { answer = gives (given k c); flash = flash f.boot v f.swap } ≡ mending check_of (geometry n s) f
      mark_written k v c h w =
          ap₂ (λ (x : List ℕ) (z : ℕ). record { answer = gives (given k z); flash = flash f.boot x f.swap }) w.bytes w.count
          ∙ ap (with_mark g f) h ∙ ap (mend_after g f) d ∙ is_mending
