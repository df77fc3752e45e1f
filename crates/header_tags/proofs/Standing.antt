-- A tag that is found is found again where the bytes before its end are the same. Assumes nothing.
use mathlib.Core.Path.{◌≡◌, refl, sym, ap, ◌∙◌}
use Prim.Native.Nat.{ℕ, zero, suc, ◌+◌, ◌-◌, ◌<◌, ◌≤◌}
use mathlib.Core.List.{List}
use mathlib.Core.Bool.{Bool, true, false}
use lib.Dec.{eqb}
use native.Mathlib.Omega.{arith}
use lib.ListN.{length, get_or, take, drop, length-take, length-drop}
use lib.Seq.{get_or-take, get_or-drop, ext_get_or}
use borrow.Author.Tests.{eqb-true, eqb-false}
use native.Mathlib.Decide.{dec_lt}
use Rattle.numbers.specs.Answer.{Answer, gives, refused}
use Rattle.header_tags.specs.Walk.{length_at, type_at, Item, tag, end, item_at, item_from, next_item, Tags, more, on_item, tags_at}
use Rattle.header_tags.specs.Standing.{TagStands, FoundTagsStand, FindsWhatStands, FoundBySameBytes}
use Rattle.header_tags.proofs.Laws.{one_left, the_end, no_length, no_value, found, next_none, next_item_lem, next_padding, refused_gives, item_stands, from_stands, tags_step}

pub found_tags_stand : FoundTagsStand
found_tags_stand h p q t n e = from_stands h (length h - p) p e

-- the first tag that the walk gives from p on stands at p or behind it, and the walk goes on behind it
pub record Begins (h : List ℕ) (p q t n : ℕ) (rest : Tags) : Type 0 where
  pub from : p ≤ q
  pub stands : TagStands h q t n
  pub behind : tags_at h (q + 4 + n) ≡ rest

pub begins : (h : List ℕ) (p : ℕ) {q t n : ℕ} {rest : Tags} → tags_at h p ≡ more q t n rest → Begins h p q t n rest
begins h p {q} {t} {n} {rest} e = go (next_item h p) refl (sym (tags_step h p) ∙ e)
  where
    go : (a : Answer Item) → next_item h p ≡ a → on_item a (λ k. tags_at h k) ≡ more q t n rest → Begins h p q t n rest
    go (gives (tag k u m)) x d =
        let w = found_tags_stand h p k u m x in
        let ek : k ≡ q = cc in
        let eu : u ≡ t = cc in
        let em : m ≡ n = cc in
        let er : tags_at h (k + 4 + m) ≡ rest = cc in
        record {
          from = omega (arith, w.0);
          stands = rw (ek, eu, em) at w.1;
          behind = rw (ek, em) at er;
        }
    go (gives end) x d = let z : ◌≡◌ {A = ℕ} 0 1 = cc in absurd (omega arith)
    go (refused m k) x d = let z : ◌≡◌ {A = ℕ} 0 1 = cc in absurd (omega arith)

-- ---- what stands is found

-- the tags from p on, where the next item is known
by_item : (h : List ℕ) (p : ℕ) {a : Answer Item} → a ≡ next_item h p → tags_at h p ≡ on_item a (λ q. tags_at h q)
by_item h p e = tags_step h p ∙ ap (λ (i : Answer Item). on_item i (λ q. tags_at h q)) (sym e)

misfits : (h : List ℕ) (p : ℕ) → p < length h → (p + 2 ≤ length h → type_at h p ≡ 0 → ⊥) → (p + 4 ≤ length h → length h < p + 4 + length_at h p)
    → Dec (length h - p < 2) → Dec (length h - p < 4) → refused 4 p ≡ item_at h p
misfits h p a b d (yes x) y = one_left h p x
misfits h p a b d (no x) (yes y) = no_length h p (omega arith) (b (omega arith)) y
misfits h p a b d (no x) (no y) = no_value h p (b (omega arith)) (omega arith) (let w = d (omega arith) in omega arith)

pub finds_what_stands : FindsWhatStands
finds_what_stands h p =
    record {
      tag = λ t n x s. by_item h p
          (found h p (sym s.type) (sym s.size) s.no_end (omega (arith, s.fits)) (omega (arith, s.fits)) ∙ next_item_lem h p (omega (arith, s.fits)) x);
      end = λ a e. by_item h p (the_end h p (omega arith) e ∙ next_item_lem h p (omega arith) (λ z. absurd (omega (arith, e))));
      misfit = λ a x b d. by_item h p (misfits h p a b d (dec_lt (length h - p) 2) (dec_lt (length h - p) 4) ∙ next_item_lem h p a x);
      none = λ a. by_item h p (next_none h p a);
    }

-- ---- the same bytes

module _ (h h' : List ℕ) (behind : ℕ) (same : take behind h ≡ take behind h') where
  -- each byte, and each part, is the same
  byte : (i : ℕ) → i < behind → get_or h i 0 ≡ get_or h' i 0
  byte i a = sym (get_or-take behind h i 0 a) ∙ ap (λ (l : List ℕ). get_or l i 0) same ∙ get_or-take behind h' i 0 a

  pub part_same : (a n : ℕ) → a + n ≤ behind → take n (drop a h) ≡ take n (drop a h')
  part_same a n le =
      ext_get_or 0 (take n (drop a h)) (take n (drop a h'))
      (simp (length-take, length-drop) (omega (arith, length-take behind h, length-take behind h', ap length same)))
      (λ i lt. let k : i < n = omega (arith, simp length-take at lt) in simp (get_or-take, get_or-drop) (byte (a + i) (omega arith)))

  -- a tag that stands in one stands in the other
  stands_too : {q t n : ℕ} → q + 4 + n ≤ behind → TagStands h q t n → TagStands h' q t n
  stands_too {q} {t} {n} a s =
      let b0 = byte q (omega arith) in
      let b1 = byte (q + 1) (omega arith) in
      let b2 = byte (q + 2) (omega arith) in
      let b3 = byte (q + 3) (omega arith) in
      record {
        type = omega (arith, s.type);
        size = omega (arith, s.size);
        no_end = s.no_end;
        fits = omega (arith, s.fits, length-take behind h, length-take behind h', ap length same);
      }

  from_same : (m p : ℕ) {q t n : ℕ} → q + 4 + n ≤ behind → item_from h m p ≡ gives (tag q t n) → next_item h' p ≡ gives (tag q t n)
  unfolding item_from
  from_same zero p a e = refused_gives e
  from_same (suc m) p {q} {t} {n} a e = go (λ d. from_same m (p + 1) a d) (eqb (get_or h p 0) 255) refl e
    where
      go : (item_from h m (p + 1) ≡ gives (tag q t n) → next_item h' (p + 1) ≡ gives (tag q t n)) → (b : Bool) → eqb (get_or h p 0) 255 ≡ b
          → (elim b as (λ (_ : Bool). Answer Item) [ true ↦ item_from h m (p + 1) | false ↦ item_at h p ]) ≡ gives (tag q t n)
          → next_item h' p ≡ gives (tag q t n)
      go ih true x e =
          let w = from_stands h m (p + 1) e in
          let f = stands_too a w.1 in
          sym (next_padding h' p (omega (arith, f.fits)) (sym (byte p (omega arith)) ∙ eqb-true _ _ x)) ∙ ih e
      go ih false x e =
          let w = item_stands h p e in
          let f = stands_too (omega arith) w.1 in
          let there = found h' p (sym f.type) (sym f.size) f.no_end (omega (arith, f.fits)) (omega (arith, f.fits)) in
          let plain : get_or h' p 0 ≡ 255 → ⊥ = λ z. eqb-false _ _ x (byte p (omega arith) ∙ z) in
          sym (there ∙ next_item_lem h' p (omega (arith, f.fits)) plain) ∙ ap (λ (k : ℕ). gives (tag k t n)) w.0

pub found_by_same_bytes : FoundBySameBytes
found_by_same_bytes h h' p q t n behind same a e = from_same h h' behind same (length h - p) p a e
