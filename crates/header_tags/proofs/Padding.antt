-- Padding is passed, and which numbers break the walk. Assumes nothing.
use mathlib.Core.Path.{◌≡◌, sym, ap, ◌∙◌}
use Prim.Native.Nat.{ℕ, zero, suc, ◌+◌, ◌-◌}
use mathlib.Core.List.{List}
use mathlib.Core.Bool.{Bool, true, false, cond}
use lib.Dec.{ltb, eqb}
use native.Mathlib.Omega.{arith}
use lib.ListN.{length, get_or}
use Rattle.numbers.specs.Answer.{Answer, gives, refused}
use Rattle.header_tags.specs.Walk.{type_at, length_at, Item, tag, end, item_at, item_from, next_item, on_item, tags_at}
use Rattle.header_tags.specs.Padding.{PaddingIsPassed, WalkNumber, does_not_fit, no_end, WalkGivesItsNumbers}
use Rattle.header_tags.proofs.Laws.{next_padding, tags_step}

pub padding_is_passed : PaddingIsPassed
padding_is_passed h p a b =
    let e : next_item h p ≡ next_item h (p + 1) = sym (next_padding h p a b) in
    record {
      item = e;
      tags = tags_step h p ∙ ap (λ (s : Answer Item). on_item s (λ q. tags_at h q)) e ∙ sym (tags_step h (p + 1));
    }

-- a refusal says its number and its place once
pub number_same : {A : Type 0} {m p n q : ℕ} → ◌≡◌ {A = Answer A} (refused m p) (refused n q) → m ≡ n
number_same e = cc

pub place_same : {A : Type 0} {m p n q : ℕ} → ◌≡◌ {A = Answer A} (refused m p) (refused n q) → p ≡ q
place_same e = cc

pub gives_refused : {A B : Type 0} {m p : ℕ} {b : B} → ◌≡◌ {A = Answer B} (gives b) (refused m p) → A
gives_refused e = let z : ◌≡◌ {A = ℕ} 0 1 = cc in absurd (omega arith)

told : {A : Type 0} {l m p n q : ℕ} → ◌≡◌ {A = Answer A} (refused m p) (refused n q) → WalkNumber l m p → WalkNumber l n q
told {l = l} {m = m} {p = p} e w =
    let a = number_same e in
    let b = place_same e in
    rw (a, b) at w

module _ (h : List ℕ) {n q : ℕ} where
  item_number : (p : ℕ) → item_at h p ≡ refused n q → WalkNumber (length h) n q
  unfolding item_at
  item_number p e =
      go (ltb (length h - p) 2) (eqb (type_at h p) 0) (ltb (length h - p) 4) (ltb (length h - p - 4) (length_at h p)) e
    where
      go : (b₁ b₂ b₃ b₄ : Bool)
          → cond b₁ (refused 4 p) (cond b₂ (gives end) (cond b₃ (refused 4 p) (cond b₄ (refused 4 p) (gives (tag p (type_at h p) (length_at h p))))))
          ≡ refused n q
          → WalkNumber (length h) n q
      go true b₂ b₃ b₄ e = told e (does_not_fit p)
      go false true b₃ b₄ e = gives_refused e
      go false false true b₄ e = told e (does_not_fit p)
      go false false false true e = told e (does_not_fit p)
      go false false false false e = gives_refused e

  from_number : (m p : ℕ) → item_from h m p ≡ refused n q → WalkNumber (length h) n q
  unfolding item_from
  from_number zero p e = told e no_end
  from_number (suc m) p e = go (λ d. from_number m (p + 1) d) (eqb (get_or h p 0) 255) e
    where
      go : (item_from h m (p + 1) ≡ refused n q → WalkNumber (length h) n q) → (b : Bool)
          → ◌≡◌ {A = Answer Item} (elim b as (λ (_ : Bool). Answer Item) [ true ↦ item_from h m (p + 1) | false ↦ item_at h p ]) (refused n q)
          → WalkNumber (length h) n q
      go ih true e = ih e
      go ih false e = item_number p e

pub walk_gives_its_numbers : WalkGivesItsNumbers
walk_gives_its_numbers h p n q e = from_number h (length h - p) p e
