-- What is the same under all marks behind sector 0, and when such a mark fits.
use mathlib.Core.Path.{◌≡◌, refl, sym, ap, ◌∙◌}
use mathlib.Core.Bool.{false}
use Prim.Native.Nat.{ℕ, ◌-◌, ◌*◌, ◌/◌, ◌≤◌, ◌<◌}
use native.Mathlib.Omega.{arith}
use Rattle.std.specs.Prelude.{Option, None}
use Rattle.flash.specs.declared.Geometry.{Geometry}
use Rattle.flash.specs.Sizes.{firmware}
use Rattle.flash.specs.Buffers.{Flash, Shaped}
use Rattle.flash_flags.specs.declared.Flag.TheVariants.{Exchanged}
use Rattle.flash_flags.proofs.Moves.{moved_all}
use Rattle.image.specs.Verdict.{check_of}
use Rattle.mending.specs.declared.Mark.{Mark}
use Rattle.mending.specs.declared.Mark.TheVariants.{All0}
use Rattle.mending.specs.declared.OldImage.{OldImage}
use Rattle.mending.specs.Marks.{Among, flag_under, moves_of}
use Rattle.mending.specs.OldImages.{fits_mark}
use Rattle.mending.proofs.Order.{flag_moved, moves_within}
use Rattle.mending_images.specs.declared.Claim.{Claim}
use Rattle.mending_images.specs.Claims.{claims_under, fits_by}
use Rattle.mending_images.specs.Parts.{hash_before}
use Rattle.mending_images.proofs.Fitting.{fits_by_lem, claims_same, hash_same}

-- sectors before a mark are exchanged
pub before_mark : (m : ℕ) (k : Mark) (a i : ℕ) → Among m k → moves_of m k ≡ a → i < a / 3 → flag_under k i ≡ Exchanged
before_mark m k a i h e l =
    flag_moved m k i (omega (arith, moves_within m k h)) ∙ moved_all (moves_of m k - 3 * i) (omega arith)

module _ (g : Geometry) (f : Flash) (S : Shaped g f) where
  -- by its own claims
  pub fits_claims : (k : Mark) (c : Option (Claim × Claim)) → c ≡ claims_under g k f → fits_by g k f c ≡ fits_mark check_of g f k
  fits_claims k c e = ap (fits_by g k f) e ∙ sym (fits_by_lem g f S k)

  -- by the claims of all 0
  pub fits_behind : (k : Mark) (c : Option (Claim × Claim)) → Among (firmware g) k → 3 ≤ moves_of (firmware g) k → c ≡ claims_under g All0 f → fits_by g k f c ≡ fits_mark check_of g f k
  fits_behind k c h l e =
      fits_claims k c (e ∙ sym (claims_same g f k (before_mark (firmware g) k (moves_of (firmware g) k) 0 h refl (omega arith))))

  pub none_behind : None ≡ claims_under g All0 f → (k : Mark) → Among (firmware g) k → 3 ≤ moves_of (firmware g) k → fits_mark check_of g f k ≡ false
  none_behind e k h l = sym (fits_behind k None h l e)

-- the hash value of the sectors before a mark
pub hash_there : (g : Geometry) (f : Flash) (image : OldImage) (k : Mark) (c : Claim) (a : ℕ) → Among (firmware g) k → moves_of (firmware g) k ≡ a
    → hash_before g image All0 f c (a / 3) ≡ hash_before g image k f c (a / 3)
hash_there g f image k c a h e = sym (hash_same g f image k c (a / 3) (λ i l. before_mark (firmware g) k a i h e l))
