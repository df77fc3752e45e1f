-- What is judged, by the tests on the way; and what the callers of a check make of it. Assumes nothing.
use mathlib.Core.Path.{◌≡◌, refl, sym, ap, ◌∙◌}
use Prim.Native.Nat.{ℕ, ◌+◌, ◌-◌, ◌≤◌, ◌<◌}
use mathlib.Core.Bool.{Bool, true, false, cond}
use mathlib.Core.List.{List, ◌++◌}
use native.Mathlib.Omega.{arith}
use lib.Dec.{ltb}
use lib.ListN.{length, get_or, take, drop}
use borrow.Author.Tests.{lt-ltb, le-ltb}
use Rattle.numbers.specs.Answer.{Answer, gives, refused, then}
use Rattle.header_tags.proofs.Laws.{refused_gives}
use Rattle.digest_fips180.specs.Sha256.{sha256}
use Rattle.flash.specs.declared.Geometry.{Geometry}
use Rattle.flash.specs.Sectors.{firmware_of}
use Rattle.header_reader.specs.declared.Header.{Header}
use Rattle.header_reader.specs.Reading.{bytes_at, tag_places, read_header}
use Rattle.header_reader.proofs.Answers.{by_places}
use Rattle.image.specs.declared.Release.{Release}
use Rattle.header_tags.specs.Bytes.{same}
use Rattle.image.specs.Check.{values_in, covered, covered_in, judged, image_in}
use Rattle.image.specs.Verdict.{release_of, released, check_of}

-- ---- by the places

module _ (b places : List ℕ) {z : ℕ} (size : z ≡ (values_in b places).size) where
  pub too_large : length b - 256 < z → refused 3 4 ≡ released (judged b places)
  too_large lt = let e : judged b places ≡ refused 3 4 = simp (lt-ltb _ _ (rw size at lt)) in sym (ap released e)

  module _ (fits : z ≤ length b - 256) {at : ℕ} (place : at ≡ get_or places 2 0) {t : Bool}
      (is : t ≡ same (sha256 (take at b ++ take (256 + z - 256) (drop 256 b))) (take (at + 36 - (at + 4)) (drop (at + 4) (take 256 b)))) where
    -- the parts that are lent are what the digest covers, and the digest that is stated
    compared : same (sha256 (covered_in b places)) (values_in b places).digest ≡ t
    compared =
        let n : ℕ = (values_in b places).size in
        let e : 256 + z - 256 ≡ n = omega arith in
        let f : at + 36 - (at + 4) ≡ 32 = omega arith in
        sym (is
        ∙ ap (λ (k : ℕ). same (sha256 (covered b at k)) (take (at + 36 - (at + 4)) (drop (at + 4) (take 256 b)))) e
        ∙ ap (λ (k : ℕ). same (sha256 (covered b at n)) (take k (drop (at + 4) (take 256 b)))) f
        ∙ ap (λ (p : ℕ). same (sha256 (covered b p n)) (bytes_at (take 256 b) (p + 4) 32)) place)

    pub wrong_digest_lem : t ≡ false → refused 9 256 ≡ released (judged b places)
    wrong_digest_lem no' =
        let e : judged b places ≡ refused 9 256 = simp (le-ltb _ _ (rw size at fits), compared ∙ no') in sym (ap released e)

    pub good : {r : Release} → t ≡ true → r ≡ release_of (values_in b places) → gives r ≡ released (judged b places)
    good {r} yes' f =
        let e : judged b places ≡ gives (values_in b places) = simp (le-ltb _ _ (rw size at fits), compared ∙ yes') in
        ap gives f ∙ sym (ap released e)

-- ---- by the bytes

module _ (b : List ℕ) where
  pub by_located : {places : List ℕ} {x : Answer Release} → gives places ≡ tag_places b → x ≡ released (judged b places) → x ≡ released (image_in b)
  unfolding image_in
  by_located f e = rw (← f) e

  pub bad_header_lem : {n p : ℕ} → refused n p ≡ tag_places b → refused n p ≡ released (image_in b)
  unfolding image_in
  bad_header_lem f = rw (← f)

-- ---- what the callers make of it

-- an image whose release is told is its header as read
pub told : (b : List ℕ) {x : Release} → gives x ≡ released (image_in b) → image_in b ≡ read_header b
unfolding image_in
told b {x} e = go (tag_places b) refl e
  where
    taken : (l : List ℕ) (t u : Bool)
        → gives x ≡ released (cond t (refused 3 4) (cond u (gives (values_in b l)) (refused 9 256)))
        → cond t (refused 3 4) (cond u (gives (values_in b l)) (refused 9 256)) ≡ gives (values_in b l)
    taken l true u e = refused_gives (sym e)
    taken l false true e = refl
    taken l false false e = refused_gives (sym e)

    go : (a : Answer (List ℕ)) → tag_places b ≡ a → gives x ≡ released (then a (judged b)) → then a (judged b) ≡ read_header b
    go (gives l) f e =
        taken l (ltb (length b - 256) (values_in b l).size) (same (sha256 (covered_in b l)) (values_in b l).digest) e ∙ sym (by_places b f)
    go (refused n p) f e = refused_gives (sym e)

pub still_refused : (a : Answer Header) {n p : ℕ} → refused n p ≡ released a → a ≡ refused n p
still_refused (gives v) e = refused_gives e
still_refused (refused m q) e = sym (ap (λ (a : Answer Release). then {B = Header} a (λ x. refused 0 0)) e)

-- power-up's check, by what is judged
again : (a : Answer Header) → then a (λ v. gives v.version) ≡ then (released a) (λ r. gives r.version)
again (gives v) = refl
again (refused n p) = refl

pub checked : (g : Geometry) (l : List ℕ) {r : Answer Release} → r ≡ released (image_in (firmware_of g l))
    → check_of g l ≡ then r (λ x. gives x.version)
unfolding check_of
checked g l e = again (image_in (firmware_of g l)) ∙ ap (λ (a : Answer Release). then a (λ x. gives x.version)) (sym e)

-- the check reads the firmware sectors alone
pub check_reads_firmware : (g : Geometry) (l l' : List ℕ) → firmware_of g l ≡ firmware_of g l' → check_of g l ≡ check_of g l'
unfolding check_of
check_reads_firmware g l l' e = ap (λ (x : List ℕ). then (image_in x) (λ v. gives v.version)) e
