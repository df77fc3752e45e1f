-- One look of a walk: which answer it can give, where a tag lies, and what it does not depend on. Assumes nothing.
use mathlib.Core.Path.{◌≡◌, refl, sym, ap, ◌∙◌}
use Prim.Native.Nat.{ℕ, zero, suc, ◌+◌, ◌-◌, ◌≤◌}
use mathlib.Core.List.{List, ◌++◌}
use mathlib.Core.Bool.{Bool, true, false, cond}
use mathlib.Core.Logic.{inl, inr}
use native.Mathlib.Omega.{arith}
use lib.Dec.{ltb, eqb}
use lib.ListN.{length, get_or, take, length-take, length-append}
use lib.Seq.{get_or-append-add, take-append-add}
use borrow.Author.Tests.{ltb-false}
use Rattle.numbers.specs.Answer.{Answer, gives, refused}
use Rattle.header_tags.specs.Walk.{first_tag, type_at, length_at, Item, tag, end, item_at, item_from, next_item, walk_at}
use Rattle.header_tags.proofs.Laws.{refused_gives, next_within}
use Rattle.header_walker.specs.Walker.{after_calls}
use Rattle.header_walker.specs.Claims.{Offered, OnlyOffered, TagWithin}

-- ---- 16, 4 or 7
item_offered : (h : List ℕ) (p : ℕ) → Offered (item_at h p)
unfolding item_at
item_offered h p = go (ltb (length h - p) 2) (eqb (type_at h p) 0) (ltb (length h - p) 4) (ltb (length h - p - 4) (length_at h p))
  where
    go : (b₁ b₂ b₃ b₄ : Bool) → Offered (cond b₁ (refused 4 p) (cond b₂ (gives end) (cond b₃ (refused 4 p) (cond b₄ (refused 4 p) (gives (tag p (type_at h p) (length_at h p)))))))
    go true b₂ b₃ b₄ = inr (inl refl)
    go false true b₃ b₄ = tt
    go false false true b₄ = inr (inl refl)
    go false false false true = inr (inl refl)
    go false false false false = tt

from_offered : (h : List ℕ) → length h ≡ 256 → (n p : ℕ) → Offered (item_from h n p)
unfolding item_from
from_offered h l zero p = inr (inr (refl, l))
from_offered h l (suc n) p = go (from_offered h l n (p + 1)) (eqb (get_or h p 0) 255)
  where
    go : Offered (item_from h n (p + 1)) → (b : Bool) → Offered (elim b as (λ (_ : Bool). Answer Item) [ true ↦ item_from h n (p + 1) | false ↦ item_at h p ])
    go ih true = ih
    go ih false = item_offered h p

answers : (s : List ℕ) (p : ℕ) → Offered (walk_at s p)
unfolding walk_at
answers s p = go (ltb (length s) 256) refl
  where
    go : (b : Bool) → ltb (length s) 256 ≡ b → Offered (cond b (refused 16 0) (next_item (take 256 s) p))
    go true e = inl (refl, refl)
    go false e = from_offered (take 256 s) (omega (arith, length-take 256 s, ltb-false (length s) 256 e)) (length (take 256 s) - p) p

pub only_offered : OnlyOffered
only_offered w n = answers (after_calls n w).header.now (after_calls n w).at

-- ---- a tag lies within the header
in_header : (s : List ℕ) (p : ℕ) {q t n : ℕ} → walk_at s p ≡ gives (tag q t n) → (p ≤ q) × (q + 4 + n ≤ length (take 256 s))
unfolding walk_at
in_header s p {q} {t} {n} e = go (ltb (length s) 256) e
  where
    go : (b : Bool) → cond b (refused 16 0) (next_item (take 256 s) p) ≡ gives (tag q t n) → (p ≤ q) × (q + 4 + n ≤ length (take 256 s))
    go true e = refused_gives e
    go false e = next_within (take 256 s) p e

pub within : (s : List ℕ) (p : ℕ) {q t n : ℕ} → walk_at s p ≡ gives (tag q t n) → (p ≤ q) × (q + 4 + n ≤ 256)
within s p e = let w = in_header s p e in omega (arith, length-take 256 s)

pub tag_within : TagWithin
tag_within w n q t k e = within (after_calls n w).header.now (after_calls n w).at e

-- ---- two headers that differ before the first tag alone
module _ (h k : List ℕ) (l : length h ≡ length k) (same : (i : ℕ) → first_tag ≤ i → get_or h i 0 ≡ get_or k i 0) where
  same_item : (p : ℕ) → first_tag ≤ p → item_at h p ≡ item_at k p
  unfolding item_at
  same_item p e = rw (l, same p e, same (p + 1) (omega arith), same (p + 2) (omega arith), same (p + 3) (omega arith))

  same_from : (n p : ℕ) → first_tag ≤ p → item_from h n p ≡ item_from k n p
  unfolding item_from
  same_from zero p e = ap (refused 7) l
  same_from (suc n) p e = rw (same p e, item_from) (go (same_from n (p + 1) (omega arith)) (eqb (get_or k p 0) 255))
    where
      go : item_from h n (p + 1) ≡ item_from k n (p + 1) → (b : Bool)
          → ◌≡◌ {A = Answer Item} (elim b [ true ↦ item_from h n (p + 1) | false ↦ item_at h p ]) (elim b [ true ↦ item_from k n (p + 1) | false ↦ item_at k p ])
      go ih true = ih
      go ih false = same_item p e

module _ (a b : List ℕ) (m : length a ≡ first_tag) (n : length b ≡ first_tag) where
  byte : (l : List ℕ) (i : ℕ) → first_tag ≤ i → get_or (a ++ l) i 0 ≡ get_or (b ++ l) i 0
  byte l i e =
      let x : i ≡ length a + (i - 8) = omega arith in
      let y : length b + (i - 8) ≡ i = omega arith in
      ap (λ (j : ℕ). get_or (a ++ l) j 0) x ∙ get_or-append-add a l (i - 8) 0 ∙ sym (get_or-append-add b l (i - 8) 0) ∙ ap (λ (j : ℕ). get_or (b ++ l) j 0) y

  as_long : (l : List ℕ) → length (a ++ l) ≡ length (b ++ l)
  as_long l = omega (arith, length-append a l, length-append b l)

cut : (a l : List ℕ) → length a ≡ first_tag → take 256 (a ++ l) ≡ a ++ take 248 l
cut a l e = let x : 256 ≡ length a + 248 = omega arith in ap (λ (n : ℕ). take n (a ++ l)) x ∙ take-append-add a l 248

pub unread_at : (a b l : List ℕ) (p : ℕ) → length a ≡ first_tag → length b ≡ first_tag → first_tag ≤ p → walk_at (a ++ l) p ≡ walk_at (b ++ l) p
unfolding walk_at
unread_at a b l p m n e =
    rw (as_long a b m n l, cut a l m, cut b l n, as_long a b m n (take 248 l), same_from (a ++ take 248 l) (b ++ take 248 l) (as_long a b m n (take 248 l)) (byte a b m n (take 248 l)) (length (b ++ take 248 l) - p) p e)
