-- What the header of an old image states.
use mathlib.Core.Path.{◌≡◌, refl, sym, ap, ap₂, ◌∙◌}
use mathlib.Core.Bool.{Bool, true, false, cond}
use mathlib.Core.List.{List}
use Prim.Native.Nat.{ℕ, ◌*◌, ◌≤◌, ◌<◌}
use native.Mathlib.Omega.{arith}
use lib.Dec.{ltb}
use borrow.Author.Tests.{lt-ltb, le-ltb}
use Rattle.std.specs.Prelude.{Option, Some, None, Result, Ok, Err}
use Rattle.std.specs.Result.{result_ok}
use Rattle.numbers.specs.Answer.{gives, refused}
use Rattle.numbers.specs.declared.HeaderRefusal.{HeaderRefusal}
use Rattle.numbers.specs.GivenBack.{header_answer}
use Rattle.flash.specs.declared.Geometry.{Geometry}
use Rattle.flash.specs.Sizes.{firmware}
use Rattle.flash.specs.Buffers.{Flash}
use Rattle.header_reader.specs.Reading.{tag_places}
use Rattle.mending.specs.declared.Mark.{Mark}
use Rattle.mending.specs.declared.OldImage.TheVariants.{Boot, Update}
use Rattle.mending.specs.OldImages.{old_sector}
use Rattle.mending_images.specs.declared.Claim.{Claim}
use Rattle.mending_images.specs.Claims.{claim_at, claim_within, claim_in, newer_claim, claims_under}

module _ (limit : ℕ) (h : List ℕ) where
  pub taken : {places : List ℕ} → tag_places h ≡ gives places → claim_within limit (claim_at h places) ≡ claim_in limit h
  unfolding claim_in
  taken e = rw e refl

  not_taken : {n p : ℕ} → tag_places h ≡ refused n p → None ≡ claim_in limit h
  unfolding claim_in
  not_taken e = rw e refl

  -- by what the search for tags gave
  pub places_are : (r : Result (List ℕ) HeaderRefusal) (places : List ℕ) → header_answer r ≡ tag_places h → Some places ≡ result_ok r → tag_places h ≡ gives places
  places_are (Ok l) places e q = let i : places ≡ l = cc in sym e ∙ ap gives (sym i)
  places_are (Err x) places e q = absurd (let z : ◌≡◌ {A = ℕ} 0 1 = cc in omega arith)

  pub no_places : (r : Result (List ℕ) HeaderRefusal) → header_answer r ≡ tag_places h → None ≡ result_ok r → None ≡ claim_in limit h
  no_places (Ok l) e q = absurd (let z : ◌≡◌ {A = ℕ} 0 1 = cc in omega arith)
  no_places (Err x) e q = not_taken (sym e)

-- what the two headers state, as it is read up to the limit: UPDATE's, and then BOOT's
module _ (g : Geometry) (k : Mark) (f : Flash) {limit : ℕ} {u : List ℕ} (L : limit ≡ firmware g * g.size) (U : u ≡ old_sector g Update k f 0) where
  pub no_update : None ≡ claim_in limit u → None ≡ claims_under g k f
  unfolding claims_under
  no_update e = ap (λ (x : Option Claim). newer_claim x (claim_in (firmware g * g.size) (old_sector g Boot k f 0))) (e ∙ ap₂ claim_in L U)

  module _ {b : List ℕ} (B : b ≡ old_sector g Boot k f 0) (x : Claim) (X : Some x ≡ claim_in limit u) where
    both : {y : Option Claim} → y ≡ claim_in limit b → newer_claim (Some x) y ≡ claims_under g k f
    unfolding claims_under
    both e = ap₂ newer_claim (X ∙ ap₂ claim_in L U) (e ∙ ap₂ claim_in L B)

    pub no_boot : None ≡ claim_in limit b → None ≡ claims_under g k f
    no_boot e = both e

    module _ (y : Claim) (Y : Some y ≡ claim_in limit b) where
      by_test : (t : Bool) → t ≡ ltb y.version x.version → cond {A = Option (Claim × Claim)} t (Some (x, y)) None ≡ claims_under g k f
      by_test t e = ap (λ (s : Bool). cond {A = Option (Claim × Claim)} s (Some (x, y)) None) e ∙ both Y

      pub newer : y.version < x.version → Some (x, y) ≡ claims_under g k f
      newer l = by_test true (sym (lt-ltb y.version x.version l))

      pub not_newer : x.version ≤ y.version → None ≡ claims_under g k f
      not_newer l = by_test false (sym (le-ltb y.version x.version l))
