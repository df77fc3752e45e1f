-- When a mark fits, by what the headers state and by the digests; and what is the same under every mark behind sector 0.
use mathlib.Core.Path.{◌≡◌, refl, sym, ap, ap₂, ◌∙◌, subst}
use mathlib.Core.Bool.{Bool, true, false, cond}
use mathlib.Core.List.{List, ◌++◌}
use Prim.Native.Nat.{ℕ, zero, suc, ◌+◌, ◌-◌, ◌*◌, min, ◌≤◌, ◌<◌}
use native.Mathlib.Decide.{dec_lt}
use native.Mathlib.Omega.{arith}
use lib.Dec.{ltb, lit<}
use lib.ListN.{length, get_or, take, drop}
use lib.Seq.{take-take}
use borrow.Author.Tests.{lt-ltb, le-ltb, ltb-false}
use Rattle.std.specs.Prelude.{Option, Some, None}
use Rattle.numbers.specs.Answer.{Answer, gives, refused, then}
use Rattle.digest_fips180.specs.Sha256.{H0, sha256}
use Rattle.digest_sha256.specs.Parts.{hash_over}
use Rattle.flash.specs.declared.Geometry.{Geometry}
use Rattle.flash.specs.Sizes.{firmware}
use Rattle.flash.specs.Sectors.{part}
use Rattle.flash.specs.Buffers.{Flash, Shaped}
use Rattle.flash.proofs.Checked.{some_firmware, sector_end}
use Rattle.flash_flags.specs.declared.Flag.{Flag}
use Rattle.flash_flags.specs.declared.Flag.TheVariants.{Exchanged}
use Rattle.header_tags.specs.Bytes.{same}
use Rattle.header_reader.specs.declared.Header.{Header}
use Rattle.header_reader.specs.Reading.{bytes_at, tag_places, values_at}
use Rattle.header_reader.proofs.Answers.{located}
use Rattle.image.specs.Check.{values_in, covered, judged, image_in}
use Rattle.image.specs.Verdict.{check_of}
use Rattle.exchange.specs.Operations.{get}
use Rattle.mending.specs.declared.Mark.{Mark}
use Rattle.mending.specs.declared.Mark.TheVariants.{All0}
use Rattle.mending.specs.declared.OldImage.{OldImage}
use Rattle.mending.specs.declared.OldImage.TheVariants.{Boot, Update}
use Rattle.mending.specs.Marks.{flag_under}
use Rattle.mending.specs.OldImages.{place_of, old_sector, joined, old_partition, greater, fits_mark}
use Rattle.mending.proofs.Images.{old_sector_length, old_firmware_length, old_firmware}
use Rattle.mending_images.specs.declared.Claim.{Claim}
use Rattle.mending_images.specs.Claims.{claim_at, claim_of, claim_in, newer_claim, claims_under, old_bytes, has_digest, have_digests, fits_by}
use Rattle.mending_images.specs.Parts.{last_sector, hash_before, Lies}
use Rattle.mending_images.proofs.Pieces.{drop_take}
use Rattle.mending_images.proofs.Hashed.{in_first}

-- ---- one image, by its claim

-- the version of the image in b, or its refusal
abbrev pub version_in : List ℕ → Answer ℕ
version_in b = then (image_in b) (λ v. gives v.version)

pub data Checked (b : List ℕ) : Option Claim → Answer ℕ → Type 0 where
  not_stated : (n p : ℕ) → Checked b None (refused n p)
  good : (c : Claim) → has_digest b c ≡ true → Checked b (Some c) (gives c.version)
  other : (c : Claim) (n p : ℕ) → has_digest b c ≡ false → Checked b (Some c) (refused n p)

-- b has its first 256 bytes in common with h
module _ (b h : List ℕ) (B : 256 ≤ length b) (H : 256 ≤ length h) (E : take 256 b ≡ take 256 h) where
  same_places : tag_places b ≡ tag_places h
  unfolding tag_places
  same_places = rw (le-ltb (length b) 256 B, le-ltb (length h) 256 H, E) refl

  too_large : (z : ℕ) → ltb (length b - 256) z ≡ ltb (length b) (256 + z)
  too_large z = by (dec_lt (length b - 256) z)
    where
      by : Dec (length b - 256 < z) → ltb (length b - 256) z ≡ ltb (length b) (256 + z)
      by (yes l) = lt-ltb (length b - 256) z l ∙ sym (lt-ltb (length b) (256 + z) (omega arith))
      by (no l) = le-ltb (length b - 256) z (omega arith) ∙ sym (le-ltb (length b) (256 + z) (omega arith))

  -- the digest that is stated stands in the tag at the claim's place
  stated_digest : (places : List ℕ) → tag_places h ≡ gives places
      → has_digest b (claim_at h places) ≡ same (sha256 (covered b (get_or places 2 0) (values_in h places).size)) (values_in h places).digest
  unfolding has_digest
  stated_digest places e =
      let v : Header = values_in h places in
      let p : ℕ = get_or places 2 0 + 4 in
      let w : p + 32 ≤ 256 = omega (arith, (located h places e).within.fits 2 (lit< tt)) in
      let n : 256 + v.size - 256 ≡ v.size = omega arith in
      let q : bytes_at b p 32 ≡ bytes_at (take 256 h) p 32 =
      sym (ap (take 32) (drop_take p 256 b) ∙ take-take 32 (256 - p) (drop p b) (omega arith)) ∙ ap (λ (l : List ℕ). take 32 (drop p l)) E in
      ap₂ (λ (k : ℕ) (l : List ℕ). same (sha256 (covered b (get_or places 2 0) k)) l) n q

  -- the check by what is stated
  judged_by : (places : List ℕ) → tag_places h ≡ gives places
      → judged b places ≡ cond (ltb (length b) (256 + (values_in h places).size)) (refused 3 4) (cond (has_digest b (claim_at h places)) (gives (values_in h places)) (refused 9 256))
  judged_by places e =
      ap (λ (l : List ℕ). cond (ltb (length b - 256) (values_at l places).size) (refused 3 4)
      (cond (same (sha256 (covered b (get_or places 2 0) (values_at l places).size)) (values_at l places).digest) (gives (values_at l places)) (refused 9 256))) E
      ∙ ap₂ (λ (s t : Bool). cond s (refused 3 4) (cond t (gives (values_in h places)) (refused 9 256))) (too_large (values_in h places).size) (sym (stated_digest places e))

  by_tests : (places : List ℕ) (s t : Bool) → has_digest b (claim_at h places) ≡ t
      → Checked b (cond s None (Some (claim_at h places))) (then (cond s (refused 3 4) (cond t (gives (values_in h places)) (refused 9 256))) (λ v. gives v.version))
  by_tests places true t e = not_stated 3 4
  by_tests places false true e = good (claim_at h places) e
  by_tests places false false e = other (claim_at h places) 9 256 e

  pub checked : Checked b (claim_in (length b) h) (version_in b)
  unfolding claim_in image_in
  checked = subst (λ (a : Answer (List ℕ)). Checked b (claim_in (length b) h) (then (then a (judged b)) (λ v. gives v.version))) (sym same_places) (by (tag_places h) refl)
    where
      by : (a : Answer (List ℕ)) → tag_places h ≡ a → Checked b (claim_of (length b) h a) (then (then a (judged b)) (λ v. gives v.version))
      by (refused n p) q = not_stated n p
      by (gives places) q =
          subst (λ (y : Answer Header). Checked b (claim_of (length b) h (gives places)) (then y (λ v. gives v.version))) (sym (judged_by places q))
          (by_tests places (ltb (length b) (256 + (values_in h places).size)) (has_digest b (claim_at h places)) refl)

-- ---- both images

greater_by : (bu bb : List ℕ) {cu cb : Option Claim} {au ab : Answer ℕ} → Checked bu cu au → Checked bb cb ab → greater au ab ≡ have_digests bu bb (newer_claim cu cb)
greater_by bu bb (not_stated n p) y = refl
greater_by bu bb (good u x) (not_stated n p) = refl
greater_by bu bb (other u m q x) (not_stated n p) = refl
greater_by bu bb (good u x) (good b y) = by (ltb b.version u.version)
  where
    by : (t : Bool) → t ≡ have_digests bu bb (cond t (Some (u, b)) None)
    by true = rw (x, y) refl
    by false = refl
greater_by bu bb (good u x) (other b n p y) = by (ltb b.version u.version)
  where
    by : (t : Bool) → false ≡ have_digests bu bb (cond t (Some (u, b)) None)
    by true = rw (x, y) refl
    by false = refl
greater_by bu bb (other u m q x) (good b y) = by (ltb b.version u.version)
  where
    by : (t : Bool) → false ≡ have_digests bu bb (cond t (Some (u, b)) None)
    by true = rw x refl
    by false = refl
greater_by bu bb (other u m q x) (other b n p y) = by (ltb b.version u.version)
  where
    by : (t : Bool) → false ≡ have_digests bu bb (cond t (Some (u, b)) None)
    by true = rw x refl
    by false = refl

-- ---- the marks

module _ (g : Geometry) (f : Flash) (S : Shaped g f) where
  checked_old : (image : OldImage) (k : Mark)
      → Checked (old_bytes g image k f) (claim_in (firmware g * g.size) (old_sector g image k f 0)) (check_of g (old_partition g image k f))
  unfolding check_of part
  checked_old image k =
      let h : List ℕ = old_sector g image k f 0 in
      let b : List ℕ = old_bytes g image k f in
      let lh : length h ≡ g.size = old_sector_length g f S image k 0 (some_firmware g S.limits) in
      let lb : length b ≡ firmware g * g.size = old_firmware_length g f S image k in
      let one : g.size ≤ firmware g * g.size = omega (arith, sector_end g.size 0 (firmware g) (some_firmware g S.limits)) in
      let c : Checked b (claim_in (length b) h) (version_in b) =
      checked b h (omega (arith, S.limits.small)) (omega (arith, S.limits.small)) (sym (in_first g f S image k 0 256 (omega arith))) in
      subst (λ (l : List ℕ). Checked b (claim_in (firmware g * g.size) h) (version_in l)) (sym (old_firmware g f S image k))
      (subst (λ (n : ℕ). Checked b (claim_in n h) (version_in b)) lb c)

  pub fits_by_lem : (k : Mark) → fits_mark check_of g f k ≡ fits_by g k f (claims_under g k f)
  unfolding fits_mark claims_under
  fits_by_lem k = greater_by (old_bytes g Update k f) (old_bytes g Boot k f) (checked_old Update k) (checked_old Boot k)

-- ---- what is stated lies within

claim_lies : (g : Geometry) (h : List ℕ) (c : Claim) → claim_in (firmware g * g.size) h ≡ Some c → Lies g c
unfolding claim_in
claim_lies g h c e = by (tag_places h) refl e
  where
    by : (a : Answer (List ℕ)) → tag_places h ≡ a → claim_of (firmware g * g.size) h a ≡ Some c → Lies g c
    by (refused n p) q z = absurd (let y : ◌≡◌ {A = ℕ} 0 1 = cc in omega arith)
    by (gives places) q z = tested (ltb (firmware g * g.size) (256 + (values_in h places).size)) refl z
      where
        tested : (t : Bool) → ltb (firmware g * g.size) (256 + (values_in h places).size) ≡ t → cond t None (Some (claim_at h places)) ≡ Some c → Lies g c
        tested true l y = absurd (let x : ◌≡◌ {A = ℕ} 0 1 = cc in omega arith)
        tested false l y =
            let s : claim_at h places ≡ c = cc in
            subst (Lies g) s
            (record {
              behind = omega arith;
              within = ltb-false (firmware g * g.size) (256 + (values_in h places).size) l;
              digest = omega (arith, (located h places q).within.fits 2 (lit< tt));
            })

pub claims_lie : (g : Geometry) (k : Mark) (f : Flash) (u b : Claim) → claims_under g k f ≡ Some (u, b) → (Lies g u) × (Lies g b)
unfolding claims_under
claims_lie g k f u b e = by (claim_in (firmware g * g.size) (old_sector g Update k f 0)) (claim_in (firmware g * g.size) (old_sector g Boot k f 0)) refl refl e
  where
    by : (x y : Option Claim) → claim_in (firmware g * g.size) (old_sector g Update k f 0) ≡ x → claim_in (firmware g * g.size) (old_sector g Boot k f 0) ≡ y
        → newer_claim x y ≡ Some (u, b) → (Lies g u) × (Lies g b)
    by None y p q z = absurd (let w : ◌≡◌ {A = ℕ} 0 1 = cc in omega arith)
    by (Some c) None p q z = absurd (let w : ◌≡◌ {A = ℕ} 0 1 = cc in omega arith)
    by (Some c) (Some d) p q z = tested (ltb d.version c.version) z
      where
        tested : (t : Bool) → cond {A = Option (Claim × Claim)} t (Some (c, d)) None ≡ Some (u, b) → (Lies g u) × (Lies g b)
        tested true w =
            let v : ◌≡◌ {A = Claim × Claim} (c, d) (u, b) = cc in
            let s : c ≡ u = ap (λ (x : Claim × Claim). x.0) v in
            let r : d ≡ b = ap (λ (x : Claim × Claim). x.1) v in
            (subst (Lies g) s (claim_lies g (old_sector g Update k f 0) c p), subst (Lies g) r (claim_lies g (old_sector g Boot k f 0) d q))
        tested false w = absurd (let x : ◌≡◌ {A = ℕ} 0 1 = cc in omega arith)

-- ---- behind sector 0: the same headers, and the same sectors before the mark

module _ (g : Geometry) (f : Flash) where
  sector_same : (image : OldImage) (k : Mark) (i : ℕ) → flag_under k i ≡ Exchanged → old_sector g image k f i ≡ old_sector g image All0 f i
  sector_same image k i e = ap (λ (v : Flag). get g (place_of image v) i f) e

  pub claims_same : (k : Mark) → flag_under k 0 ≡ Exchanged → claims_under g k f ≡ claims_under g All0 f
  unfolding claims_under
  claims_same k e =
      ap₂ (λ (x y : List ℕ). newer_claim (claim_in (firmware g * g.size) x) (claim_in (firmware g * g.size) y)) (sector_same Update k 0 e) (sector_same Boot k 0 e)

joined_same : (s t : ℕ → List ℕ) (n : ℕ) → ((i : ℕ) → i < n → s i ≡ t i) → joined s n ≡ joined t n
unfolding joined
joined_same s t zero h = refl
joined_same s t (suc n) h = ap₂ (λ (x y : List ℕ). x ++ y) (joined_same s t n (λ i l. h i (omega arith))) (h n (omega arith))

pub hash_same : (g : Geometry) (f : Flash) (image : OldImage) (k : Mark) (c : Claim) (n : ℕ) → ((i : ℕ) → i < n → flag_under k i ≡ Exchanged)
    → hash_before g image k f c n ≡ hash_before g image All0 f c n
unfolding hash_before
hash_same g f image k c n h =
    let m : ℕ = min n (last_sector g c) in
    ap (λ (b : List ℕ). hash_over H0 (covered b c.digest (m * g.size - 256)))
    (joined_same (old_sector g image k f) (old_sector g image All0 f) m (λ i l. sector_same g f image k i (h i (omega arith))))
