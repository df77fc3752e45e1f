-- The image check's order, and the numbers that it gives. Assumes nothing.
use mathlib.Core.Path.{◌≡◌, refl, sym, ap, ap₂, ◌∙◌}
use mathlib.Core.Logic.{◌≢◌}
use Prim.Native.Nat.{ℕ, zero, suc, ◌+◌, ◌-◌, ◌≤◌, ◌<◌}
use mathlib.Core.Bool.{Bool, true, false, cond, not, true≢false}
use mathlib.Core.List.{List}
use native.Mathlib.Omega.{arith}
use lib.Dec.{ltb, eqb, lit<, lit≤}
use lib.ListN.{length, get_or, take}
use lib.Seq.{length-take-le}
use borrow.Author.Tests.{lt-ltb, le-ltb, ltb-false}
use Rattle.numbers.specs.Answer.{Answer, gives, refused, then}
use Rattle.digest_fips180.specs.Sha256.{sha256}
use Rattle.header_tags.specs.Bytes.{number}
use Rattle.header_tags.proofs.Laws.{refused_gives}
use Rattle.header_tags.proofs.Padding.{number_same, place_same, gives_refused}
use Rattle.header_places.specs.Table.{document_table}
use Rattle.header_places.specs.Judging.{places_in}
use Rattle.header_tags.specs.Standing.{TagAt}
use Rattle.header_places.specs.RuledOut.{InRow}
use Rattle.header_places.proofs.RuledOut.{tags_give_their_numbers}
use Rattle.header_places.proofs.Before.{places_are_tags, required_are_seen, tags_have_places}
use Rattle.header_reader.specs.declared.Header.{Header}
use Rattle.header_reader.specs.Reading.{magic, bytes_at, tag_places, read_header}
use Rattle.header_tags.specs.Bytes.{same}
use Rattle.flash.specs.Sectors.{firmware_of}
use Rattle.image.specs.Verdict.{check_of, ChecksThatImage, CheckedIsUnderstood}
use Rattle.image.specs.Check.{values_in, covered, covered_in, judged, image_in, check_image}
use Rattle.image.specs.Ordered.{Covers, EachHasDigestTag, ChecksInOrder, ImageNumber, wrong_magic, wrong_size, of_tags, wrong_digest, too_short, ChecksGiveTheirNumbers, ChecksPartitions, GoodIsUnderstood}
use Rattle.header_tags.proofs.Same.{same_is, same_true}
use Rattle.header_reader.proofs.Answers.{located, Taken, places_refused, places_taken}
use Rattle.header_reader.proofs.Understood.{taken_low}
use Rattle.image.proofs.Covered.{covers_is}

-- ---- the test of two digests

same_no : (x y : List ℕ) → x ≢ y → same x y ≡ false
same_no x y d = sym (same_is x y false (λ e. absurd (let z : ◌≡◌ {A = ℕ} 0 1 = cc in omega arith)) (λ e. absurd (d e)))

same_yes : (x y : List ℕ) → x ≡ y → same x y ≡ true
same_yes x y e = sym (same_is x y true (λ t. e) (λ t. refl))

-- the digest's type stands in row 2 of the table, and in no row before
digest_row : InRow document_table 0x0003 2
digest_row = record { row = lit< tt; here = refl; before = other }
  where
    other : (i : ℕ) → i < 2 → get_or document_table.types i 0 ≢ 0x0003
    other zero lt e = let z : ◌≡◌ {A = ℕ} 1 3 = e in absurd (omega arith)
    other (suc zero) lt e = let z : ◌≡◌ {A = ℕ} 2 3 = e in absurd (omega arith)
    other (suc (suc i)) lt e = absurd (omega arith)

-- ---- the order

module _ (b : List ℕ) where
  reader_first : (n p : ℕ) → read_header b ≡ refused n p → image_in b ≡ refused n p
  unfolding image_in
  reader_first n p e = simp (places_refused b n p e)

  module _ (v : Header) (e : read_header b ≡ gives v) where
    abbrev t : Taken b v
    t = places_taken b v e

    too_large : length b - 256 < v.size → image_in b ≡ refused 3 4
    unfolding image_in
    too_large lt = simp (t.found, lt-ltb _ _ (rw t.is at lt))

  -- the digest's test, for a header whose tags stand at these places
  module _ (l : List ℕ) (found : tag_places b ≡ gives l) (fits : (values_in b l).size ≤ length b - 256) where
    pub digest_differs : sha256 (covered_in b l) ≢ (values_in b l).digest → image_in b ≡ refused 9 256
    unfolding image_in
    digest_differs d = simp (found, le-ltb _ _ fits, same_no _ _ d)

    pub digest_same : sha256 (covered_in b l) ≡ (values_in b l).digest → image_in b ≡ gives (values_in b l)
    unfolding image_in
    digest_same d = simp (found, le-ltb _ _ fits, same_yes _ _ d)

    -- and the other way
    pub good_digest : image_in b ≡ gives (values_in b l) → sha256 (covered_in b l) ≡ (values_in b l).digest
    good_digest e = go (same (sha256 (covered_in b l)) (values_in b l).digest) refl
      where
        go : (t : Bool) → same (sha256 (covered_in b l)) (values_in b l).digest ≡ t → sha256 (covered_in b l) ≡ (values_in b l).digest
        go true t = same_true _ _ t
        go false t = refused_gives (sym (digest_differs (λ q. absurd (true≢false (sym (same_yes _ _ q) ∙ t)))) ∙ e)

  -- a good image gives what the reader gives
  pub good_as_read : (v : Header) {u : Header} → read_header b ≡ gives v → image_in b ≡ gives u → image_in b ≡ gives v
  unfolding image_in
  good_as_read v {u} read e = let t = places_taken b v read in on t.places t.found t.is
    where
      on : (l : List ℕ) → tag_places b ≡ gives l → v ≡ values_in b l → image_in b ≡ gives v
      on l found is =
          let f : judged b l ≡ gives u = ap (λ (a : Answer (List ℕ)). then a (judged b)) (sym found) ∙ e in
          ap (λ (a : Answer (List ℕ)). then a (judged b)) found ∙ by (ltb (length b - 256) (values_in b l).size) (same (sha256 (covered_in b l)) (values_in b l).digest) f ∙ ap gives (sym is)
        where
          by : (x y : Bool) → cond x (refused 3 4) (cond y (gives (values_in b l)) (refused 9 256)) ≡ gives u
              → cond x (refused 3 4) (cond y (gives (values_in b l)) (refused 9 256)) ≡ gives (values_in b l)
          by true y f = refused_gives f
          by false true f = refl
          by false false f = refused_gives f

  -- a digest tag stands at its row's place
  pub digest_place : (l : List ℕ) (at : ℕ) → tag_places b ≡ gives l → TagAt b at 0x0003 → get_or l 2 0 ≡ at
  digest_place l at found tag = tags_have_places document_table (take 256 b) l at 0x0003 2 (located b l found).found tag digest_row

  module _ (at : ℕ) (v : Header) (read : read_header b ≡ gives v) (tag : TagAt b at 0x0003) where
    abbrev k : Taken b v
    k = places_taken b v read

    -- what is known of a header that is read, by the places of its tags
    pub message_is : covered_in b k.places ≡ covered b at v.size
    message_is =
        ap₂ (covered b) (digest_place k.places at k.found tag) (ap (λ (x : Header). x.size) (sym k.is))

    pub tag_within : at + 36 ≤ 256
    tag_within = omega (arith, digest_place k.places at k.found tag, (located b k.places k.found).within.fits 2 (lit< tt))

    pub bytes_room : 256 ≤ length b
    bytes_room = (located b k.places k.found).room

    module _ (fits : v.size ≤ length b - 256) where
      pub message_differs : sha256 (covered b at v.size) ≢ v.digest → image_in b ≡ refused 9 256
      message_differs d =
          digest_differs k.places k.found (rw k.is at fits)
          (λ e. d (ap sha256 (sym message_is) ∙ e ∙ ap (λ (x : Header). x.digest) (sym k.is)))

      pub message_same : sha256 (covered b at v.size) ≡ v.digest → image_in b ≡ gives v
      message_same d =
          digest_same k.places k.found (rw k.is at fits) (ap sha256 message_is ∙ d ∙ ap (λ (x : Header). x.digest) k.is)
          ∙ ap gives (sym k.is)

      pub good_message : image_in b ≡ gives v → sha256 (covered b at v.size) ≡ v.digest
      good_message e =
          ap sha256 (sym message_is) ∙ good_digest k.places k.found (rw k.is at fits) (e ∙ ap gives k.is)
          ∙ ap (λ (x : Header). x.digest) (sym k.is)

      module _ (m : List ℕ) (covers : Covers b at v.size m) where
        is : m ≡ covered b at v.size
        is = covers_is b at v.size (omega (arith, tag_within, bytes_room)) fits m covers

        differing : sha256 m ≢ v.digest → image_in b ≡ refused 9 256
        differing d = message_differs (λ e. d (ap sha256 is ∙ e))

        all_good : sha256 m ≡ v.digest → image_in b ≡ gives v
        all_good d = message_same (ap sha256 (sym is) ∙ d)

pub checks_in_order : ChecksInOrder
checks_in_order b =
    record {
      reader = reader_first b;
      large = too_large b;
      differs = λ at m v read tag fits covers. differing b at v read tag fits m covers;
      good = λ at m v read tag fits covers. all_good b at v read tag fits m covers;
    }

pub each_has_digest_tag : EachHasDigestTag
each_has_digest_tag b v read =
    let t = places_taken b v read in
    let f = located b t.places t.found in
    let s = places_are_tags document_table (take 256 b) t.places 2 f.found (required_are_seen document_table (take 256 b) t.places 2 f.found (lit≤ tt) (lit< tt)) in
    record {
      at = get_or t.places 2 0;
      stands = s.walked;
      one = λ q w. sym (digest_place b t.places q t.found w);
      behind = s.begins;
      within = omega (arith, f.within.fits 2 (lit< tt));
    }

-- ---- which tags a good image has

pub good_is_understood : GoodIsUnderstood
good_is_understood b v q t e w = go (read_header b) refl
  where
    go : (a : Answer Header) → read_header b ≡ a → t < 0x8000
    go (gives u) x = taken_low b u q t x w
    go (refused n p) x = refused_gives (sym (reader_first b n p x) ∙ e)

pub checks_partitions : ChecksPartitions
unfolding check_image
checks_partitions n s l = record { outside = λ m p e. simp e; inside = λ g e. simp e }

pub checks_that_image : ChecksThatImage
unfolding check_of
checks_that_image g l = record { good = λ v e. simp e; bad = λ n p e. simp e }

pub checked_is_understood : CheckedIsUnderstood
unfolding check_of
checked_is_understood g l n q t e w = go (image_in (firmware_of g l)) refl e
  where
    go : (a : Answer Header) → image_in (firmware_of g l) ≡ a → then a (λ v. gives v.version) ≡ gives n → t < 0x8000
    go (gives v) x e = good_is_understood (firmware_of g l) v q t x w
    go (refused m p) x e = refused_gives e

-- ---- the numbers

told : {A : Type 0} {m p n q : ℕ} → ◌≡◌ {A = Answer A} (refused m p) (refused n q) → ImageNumber m p → ImageNumber n q
told {m = m} {p = p} e w =
    let a = number_same e in
    let b = place_same e in
    rw (a, b) at w

reader_number : (b : List ℕ) (n p : ℕ) → tag_places b ≡ refused n p → ImageNumber n p
unfolding tag_places
reader_number b n p e =
    go (ltb (length b) 256) (eqb (number (bytes_at (take 256 b) 0 4)) (number magic)) (eqb (number (bytes_at (take 256 b) 4 4)) 0) refl e
  where
    go : (b₁ b₂ b₃ : Bool) → ltb (length b) 256 ≡ b₁
        → cond b₁ (refused 16 0) (cond (not b₂) (refused 2 0) (cond b₃ (refused 3 4) (places_in document_table (take 256 b)))) ≡ refused n p
        → ImageNumber n p
    go true b₂ b₃ x e = told e too_short
    go false false b₃ x e = told e wrong_magic
    go false true true x e = told e wrong_size
    go false true false x e =
        of_tags (rw (length-take-le 256 b (ltb-false _ _ x)) at (tags_give_their_numbers document_table (take 256 b) n p e))

pub checks_give_their_numbers : ChecksGiveTheirNumbers
unfolding image_in
checks_give_their_numbers b n p e = go (tag_places b) refl e
  where
    on : (l : List ℕ) (t u : Bool) → cond t (refused 3 4) (cond u (gives (values_in b l)) (refused 9 256)) ≡ refused n p → ImageNumber n p
    on l true u e = told e wrong_size
    on l false true e = gives_refused e
    on l false false e = told e wrong_digest

    go : (a : Answer (List ℕ)) → tag_places b ≡ a → then a (judged b) ≡ refused n p → ImageNumber n p
    go (gives l) x e = on l (ltb (length b - 256) (values_in b l).size) (same (sha256 (covered_in b l)) (values_in b l).digest) e
    go (refused m q) x e = told e (reader_number b m q x)
