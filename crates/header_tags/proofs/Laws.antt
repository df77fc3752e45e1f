-- What the walk finds in each case, from facts on the bytes. Assumes nothing.
use mathlib.Core.Path.{◌≡◌, refl, ap, subst, ◌∙◌}
use Prim.Native.Nat.{ℕ, zero, suc, ◌+◌, ◌-◌, ◌<◌, ◌≤◌}
use mathlib.Core.List.{List}
use mathlib.Core.Bool.{Bool, true, false, cond}
use lib.Dec.{ltb, eqb}
use native.Mathlib.Omega.{arith}
use lib.ListN.{length, get_or, take, length-take}
use borrow.Author.Tests.{ltb-false, eqb-false, lt-ltb, le-ltb, eq-eqb, ne_eqb}
use Rattle.numbers.specs.Answer.{Answer, gives, refused}
use Rattle.header_tags.specs.Walk.{type_at, length_at, Item, tag, end, item_at, item_from, next_item, walk_at, more, on_item, tags_from, tags_at}
use Rattle.header_tags.specs.Standing.{TagStands}

module _ (h : List ℕ) (p : ℕ) where
  pub next_padding : p < length h → get_or h p 0 ≡ 255 → next_item h (p + 1) ≡ next_item h p
  unfolding item_from
  next_padding a b = let e : length h - p ≡ suc (length h - (p + 1)) = omega arith in rw (e, item_from, eq-eqb _ _ b)

  pub one_left : length h - p < 2 → refused 4 p ≡ item_at h p
  unfolding item_at
  one_left a = simp (lt-ltb _ _ a)

  pub the_end : 2 ≤ length h - p → type_at h p ≡ 0 → gives end ≡ item_at h p
  unfolding item_at
  the_end a b = simp (le-ltb _ _ a, eq-eqb _ _ b)

  pub no_length : 2 ≤ length h - p → (type_at h p ≡ 0 → ⊥) → length h - p < 4 → refused 4 p ≡ item_at h p
  unfolding item_at
  no_length a b d = simp (le-ltb _ _ a, ne_eqb _ _ b, lt-ltb _ _ d)

  pub no_value : (type_at h p ≡ 0 → ⊥) → 4 ≤ length h - p → length h - p - 4 < length_at h p → refused 4 p ≡ item_at h p
  unfolding item_at
  no_value b d e =
      let a : 2 ≤ length h - p = omega arith in
      simp (le-ltb _ _ a, ne_eqb _ _ b, le-ltb _ _ d, lt-ltb _ _ e)

  pub found : {t n : ℕ} → t ≡ type_at h p → n ≡ length_at h p → (t ≡ 0 → ⊥) → 4 ≤ length h - p → n ≤ length h - p - 4
      → gives (tag p t n) ≡ item_at h p
  unfolding item_at
  found t n b d e =
      let a : 2 ≤ length h - p = omega arith in
      rw (t, n) (simp (le-ltb _ _ a, ne_eqb _ _ (rw t at b), le-ltb _ _ d, le-ltb _ _ (rw n at e)))

  pub next_none : length h ≤ p → refused 7 (length h) ≡ next_item h p
  unfolding item_from
  next_none a = let e : length h - p ≡ 0 = omega arith in rw e

  pub next_item_lem : p < length h → (get_or h p 0 ≡ 255 → ⊥) → item_at h p ≡ next_item h p
  unfolding item_from
  next_item_lem a b = let e : length h - p ≡ suc (length h - (p + 1)) = omega arith in rw (e, item_from, ne_eqb _ _ b)

-- two constructors are never equal
pub refused_gives : {A B : Type 0} {m p : ℕ} {b : B} → ◌≡◌ {A = Answer B} (refused m p) (gives b) → A
refused_gives e = let z : ◌≡◌ {A = ℕ} 0 1 = cc in absurd (omega arith)

end_tag : {A : Type 0} {q t n : ℕ} → ◌≡◌ {A = Answer Item} (gives end) (gives (tag q t n)) → A
end_tag e = let z : ◌≡◌ {A = ℕ} 0 1 = cc in absurd (omega arith)

-- a tag that is found at p stands there
stands : (h : List ℕ) (p : ℕ) {q t n : ℕ} (b₁ b₂ b₃ b₄ : Bool) → eqb (type_at h p) 0 ≡ b₂ → ltb (length h - p) 4 ≡ b₃
    → ltb (length h - p - 4) (length_at h p) ≡ b₄
    → cond b₁ (refused 4 p) (cond b₂ (gives end) (cond b₃ (refused 4 p) (cond b₄ (refused 4 p) (gives (tag p (type_at h p) (length_at h p))))))
    ≡ gives (tag q t n)
    → (p ≡ q) × TagStands h p t n
stands h p true b₂ b₃ b₄ x y z e = refused_gives e
stands h p false true b₃ b₄ x y z e = end_tag e
stands h p false false true b₄ x y z e = refused_gives e
stands h p false false false true x y z e = refused_gives e
stands h p {q} {t} {n} false false false false x y z e =
    let i : type_at h p ≡ t = cc in
    let j : length_at h p ≡ n = cc in (
      cc,
      record {
        type = i;
        size = j;
        no_end = λ k. eqb-false _ _ x (i ∙ k);
        fits = omega (arith, ltb-false (length h - p) 4 y, ltb-false (length h - p - 4) (length_at h p) z);
      },
    )

module _ (h : List ℕ) where
  pub item_stands : (p : ℕ) {q t n : ℕ} → item_at h p ≡ gives (tag q t n) → (p ≡ q) × TagStands h p t n
  unfolding item_at
  item_stands p e =
      stands h p (ltb (length h - p) 2) (eqb (type_at h p) 0) (ltb (length h - p) 4) (ltb (length h - p - 4) (length_at h p)) refl refl refl e

  -- the first tag from p on stands at p or behind it
  pub from_stands : (m p : ℕ) {q t n : ℕ} → item_from h m p ≡ gives (tag q t n) → (p ≤ q) × TagStands h q t n
  unfolding item_from
  from_stands zero p e = refused_gives e
  from_stands (suc m) p {q} {t} {n} e = go (λ d. from_stands m (p + 1) d) (eqb (get_or h p 0) 255) e
    where
      go : (item_from h m (p + 1) ≡ gives (tag q t n) → (p + 1 ≤ q) × TagStands h q t n) → (b : Bool)
          → (elim b as (λ (_ : Bool). Answer Item) [ true ↦ item_from h m (p + 1) | false ↦ item_at h p ]) ≡ gives (tag q t n)
          → (p ≤ q) × TagStands h q t n
      go ih true e = let w = ih e in (omega arith, w.1)
      go ih false e = let w = item_stands p e in (omega arith, subst (λ (k : ℕ). TagStands h k t n) w.0 w.1)

  pub next_within : (p : ℕ) {q t n : ℕ} → next_item h p ≡ gives (tag q t n) → (p ≤ q) × (q + 4 + n ≤ length h)
  next_within p e = let w = from_stands (length h - p) p e in (w.0, w.1.fits)

  -- enough fuel is as good as more
  fuel : (n m p : ℕ) → length h - p ≤ n → length h - p ≤ m → tags_from h n p ≡ tags_from h m p
  unfolding tags_from item_from
  fuel zero zero p a b = refl
  fuel zero (suc m) p a b = let e : length h - p ≡ 0 = omega arith in rw e
  fuel (suc n) zero p a b = let e : length h - p ≡ 0 = omega arith in rw e
  fuel (suc n) (suc m) p a b = go (λ q x y. fuel n m q x y) (next_item h p) refl
    where
      go : ((q : ℕ) → length h - q ≤ n → length h - q ≤ m → tags_from h n q ≡ tags_from h m q) → (s : Answer Item) → next_item h p ≡ s
          → on_item s (λ q. tags_from h n q) ≡ on_item s (λ q. tags_from h m q)
      go ih (gives (tag q t v)) e =
          let w = next_within p e in
          ap (more q t v) (ih (q + 4 + v) (omega arith) (omega arith))
      go ih (gives end) e = refl
      go ih (refused i q) e = refl

  -- the tags from p on: the first one and those behind it
  pub tags_step : (p : ℕ) → tags_at h p ≡ on_item (next_item h p) (λ q. tags_at h q)
  unfolding tags_from
  tags_step p = fuel (length h - p) (suc (length h - p)) p (omega arith) (omega arith) ∙ go (next_item h p) refl
    where
      go : (s : Answer Item) → next_item h p ≡ s → on_item s (λ q. tags_from h (length h - p) q) ≡ on_item s (λ q. tags_at h q)
      go (gives (tag q t v)) e =
          let w = next_within p e in
          ap (more q t v) (fuel (length h - p) (length h - (q + 4 + v)) (q + 4 + v) (omega arith) (omega arith))
      go (gives end) e = refl
      go (refused i q) e = refl

-- the offered walk on a buffer of at least a header, and on a shorter one
pub walk_short : (s : List ℕ) (p : ℕ) → length s < 256 → refused 16 0 ≡ walk_at s p
unfolding walk_at
walk_short s p a = simp (lt-ltb _ _ a)

pub walk_header : (s : List ℕ) (p : ℕ) → 256 ≤ length s → next_item (take 256 s) p ≡ walk_at s p
unfolding walk_at
walk_header s p a = simp (le-ltb _ _ a)

pub walk_within : (s : List ℕ) (p : ℕ) {q t n : ℕ} → walk_at s p ≡ gives (tag q t n) → q + 4 + n ≤ length s
unfolding walk_at
walk_within s p {q} {t} {n} e = go (ltb (length s) 256) e
  where
    go : (b : Bool) → cond b (refused 16 0) (next_item (take 256 s) p) ≡ gives (tag q t n) → q + 4 + n ≤ length s
    go true e = refused_gives e
    go false e = let w = next_within (take 256 s) p e in omega (arith, length-take 256 s)
