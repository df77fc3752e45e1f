-- What the table makes of a tag, and which numbers it gives. Assumes nothing.
use mathlib.Core.Path.{◌≡◌, refl, sym, ap, ◌∙◌}
use mathlib.Core.Logic.{◌≢◌}
use Prim.Native.Nat.{ℕ, zero, suc, ◌+◌, ◌-◌, ◌<◌, ◌≤◌}
use mathlib.Core.List.{List, [], ◌∷◌}
use mathlib.Core.Bool.{Bool, true, false, cond, true≢false}
use native.Mathlib.Omega.{arith}
use native.Mathlib.Decide.{ℕ_discrete, dec_lt}
use lib.ListN.{length, get_or, take, set, replicate}
use lib.Seq.{length-take-le, get_or-take}
use lib.Dec.{ltb, eqb}
use borrow.Author.Tests.{lt-ltb, le-ltb, eq-eqb, ne_eqb, ltb-true, eqb-true}
use Rattle.numbers.specs.Answer.{Answer, gives, refused}
use Rattle.header_tags.specs.Walk.{Item, tag, end, next_item, Tags, ended, broken, more, on_item, tags_from, tags_at}
use Rattle.header_tags.specs.Padding.{WalkNumber, does_not_fit, no_end}
use Rattle.header_tags.proofs.Padding.{walk_gives_its_numbers, number_same, place_same, gives_refused}
use Rattle.header_places.specs.Table.{TagTable}
use Rattle.header_places.specs.Judging.{row_of, judge, places_in}
use Rattle.header_places.specs.RuledOut.{InRow, Known, Unknown, TagsAreJudged, EndIsJudged, BreakIsJudged, TagNumber, does_not_fit as notFitting, wrong_length as of_length, repeated as again, not_understood, no_end as endless, missing, TagsGiveTheirNumbers}

-- ---- the row of a type

pub row_is : (l : List ℕ) (t r : ℕ) → r < length l → get_or l r 0 ≡ t → ((i : ℕ) → i < r → get_or l i 0 ≢ t) → row_of l t ≡ r
unfolding row_of
row_is [] t r a b f = absurd (omega arith)
row_is (y ∷ l) t zero a b f = rw (row_of, eq-eqb y t b)
row_is (y ∷ l) t (suc r) a b f = rw (row_of, ne_eqb y t (f 0 (omega arith))) (ap suc (row_is l t r (omega arith) b (λ i lt. f (suc i) (omega arith))))

row_none : (l : List ℕ) (t : ℕ) → ((r : ℕ) → r < length l → get_or l r 0 ≢ t) → length l ≤ row_of l t
unfolding row_of
row_none [] t f = omega arith
row_none (y ∷ l) t f =
    rw (row_of, ne_eqb y t (f 0 (omega arith))) (let w = row_none l t (λ i lt. f (suc i) (omega arith)) in omega arith)

-- a type's row has the type
pub row_type : (l : List ℕ) (t : ℕ) → row_of l t < length l → get_or l (row_of l t) 0 ≡ t
unfolding row_of
row_type [] t a = absurd (omega arith)
row_type (y ∷ l) t a = go (λ b. row_type l t b) (eqb y t) refl a
  where
    go : (row_of l t < length l → get_or l (row_of l t) 0 ≡ t) → (b : Bool) → eqb y t ≡ b
        → (elim b as (λ (_ : Bool). ℕ) [ true ↦ 0 | false ↦ suc (row_of l t) ]) < suc (length l)
        → get_or (y ∷ l) (elim b as (λ (_ : Bool). ℕ) [ true ↦ 0 | false ↦ suc (row_of l t) ]) 0 ≡ t
    go ih true x a = eqb-true y t x
    go ih false x a = ih (omega arith)

-- no entry before a type's row is the type
pub row_before : (l : List ℕ) (t i : ℕ) → i < row_of l t → get_or l i 0 ≢ t
unfolding row_of
row_before [] t i a e = absurd (omega arith)
row_before (y ∷ l) t i a e = go (λ k b. row_before l t k b) (eqb y t) refl i a e
  where
    go : ((k : ℕ) → k < row_of l t → get_or l k 0 ≢ t) → (z : Bool) → eqb y t ≡ z → (k : ℕ)
        → k < (elim z as (λ (_ : Bool). ℕ) [ true ↦ 0 | false ↦ suc (row_of l t) ]) → get_or (y ∷ l) k 0 ≢ t
    go ih true x k a e = absurd (omega arith)
    go ih false x zero a e = absurd (true≢false (sym (eq-eqb y t e) ∙ x))
    go ih false x (suc k) a e = ih k (omega arith) e

-- where a type has no row, no entry is the type
pub row_all : (l : List ℕ) (t : ℕ) → length l ≤ row_of l t → (r : ℕ) → r < length l → get_or l r 0 ≢ t
row_all l t a r b = row_before l t r (omega arith)

-- a type is known exactly if it has a row
pub known : (T : TagTable) (t : ℕ) → row_of T.types t < length T.types → Known T t
known T t a = record { row = row_of T.types t; below = a; here = row_type T.types t a }

pub not_known : (T : TagTable) (t : ℕ) → Unknown T t → length T.types ≤ row_of T.types t
not_known T t f = row_none T.types t (λ r a e. f (record { row = r; below = a; here = e }))

pub unknown : (T : TagTable) (t : ℕ) → length T.types ≤ row_of T.types t → Unknown T t
unknown T t a k = row_all T.types t a k.row k.below k.here

-- and its row is the first that has it
pub in_row : (T : TagTable) (t : ℕ) → row_of T.types t < length T.types → InRow T t (row_of T.types t)
in_row T t a = record { row = a; here = row_type T.types t a; before = row_before T.types t }

pub row_of_lem : {T : TagTable} {t r : ℕ} → InRow T t r → row_of T.types t ≡ r
row_of_lem {T} {t} {r} i = row_is T.types t r i.row i.here i.before

-- ---- a tag, judged

module _ (T : TagTable) (seen : List ℕ) (q t n : ℕ) (rest : Tags) {r : ℕ} (row : row_of T.types t ≡ r) where
  pub other_tag : length T.types ≤ r → t < T.critical → judge T seen (more q t n rest) ≡ judge T seen rest
  unfolding judge
  other_tag a b = simp (row, le-ltb _ _ a, lt-ltb _ _ b)

  pub critical_tag : length T.types ≤ r → T.critical ≤ t → judge T seen (more q t n rest) ≡ refused 18 q
  unfolding judge
  critical_tag a b = simp (row, le-ltb _ _ a, le-ltb _ _ b)

  module _ (a : r < length T.types) where
    pub length_tag : n ≢ get_or T.lengths r 0 → judge T seen (more q t n rest) ≡ refused 5 q
    unfolding judge
    length_tag d = simp (row, lt-ltb _ _ a, ne_eqb _ _ d)

    pub repeated_tag : n ≡ get_or T.lengths r 0 → get_or seen r 0 ≢ 0 → judge T seen (more q t n rest) ≡ refused 6 q
    unfolding judge
    repeated_tag e d = simp (row, lt-ltb _ _ a, eq-eqb _ _ e, ne_eqb _ _ d)

    pub taken_tag : n ≡ get_or T.lengths r 0 → get_or seen r 0 ≡ 0 → judge T seen (more q t n rest) ≡ judge T (set seen r q) rest
    unfolding judge
    taken_tag e d = simp (row, lt-ltb _ _ a, eq-eqb _ _ e, eq-eqb _ _ d)

pub tags_are_judged : TagsAreJudged
tags_are_judged T seen q t n rest =
    record {
      other = λ f. other_tag T seen q t n rest refl (not_known T t f);
      critical = λ f. critical_tag T seen q t n rest refl (not_known T t f);
      wrong_length = λ r i. length_tag T seen q t n rest (row_of_lem i) i.row;
      repeated = λ r i. repeated_tag T seen q t n rest (row_of_lem i) i.row;
      taken = λ r i. taken_tag T seen q t n rest (row_of_lem i) i.row;
    }

-- what a tag is, and what the table makes of it whatever follows: one of five
pub data Verdict (T : TagTable) (seen : List ℕ) (q t n : ℕ) : Type 0 where
  is_skipped : length T.types ≤ row_of T.types t → t < T.critical → ((rest : Tags) → judge T seen (more q t n rest) ≡ judge T seen rest)
      → Verdict T seen q t n
  is_critical : length T.types ≤ row_of T.types t → T.critical ≤ t → ((rest : Tags) → judge T seen (more q t n rest) ≡ refused 18 q)
      → Verdict T seen q t n
  has_length : row_of T.types t < length T.types → n ≢ get_or T.lengths (row_of T.types t) 0
      → ((rest : Tags) → judge T seen (more q t n rest) ≡ refused 5 q) → Verdict T seen q t n
  is_repeated : row_of T.types t < length T.types → n ≡ get_or T.lengths (row_of T.types t) 0 → get_or seen (row_of T.types t) 0 ≢ 0
      → ((rest : Tags) → judge T seen (more q t n rest) ≡ refused 6 q) → Verdict T seen q t n
  is_taken : row_of T.types t < length T.types → n ≡ get_or T.lengths (row_of T.types t) 0 → get_or seen (row_of T.types t) 0 ≡ 0
      → ((rest : Tags) → judge T seen (more q t n rest) ≡ judge T (set seen (row_of T.types t) q) rest) → Verdict T seen q t n

pub verdict : (T : TagTable) (seen : List ℕ) (q t n : ℕ) → Verdict T seen q t n
verdict T seen q t n =
    go (dec_lt (row_of T.types t) (length T.types)) (dec_lt t T.critical) (ℕ_discrete n (get_or T.lengths (row_of T.types t) 0))
    (ℕ_discrete (get_or seen (row_of T.types t) 0) 0)
  where
    go : Dec (row_of T.types t < length T.types) → Dec (t < T.critical) → Dec (n ≡ get_or T.lengths (row_of T.types t) 0)
        → Dec (get_or seen (row_of T.types t) 0 ≡ 0) → Verdict T seen q t n
    go (no a) (yes b) c d =
        let w : length T.types ≤ row_of T.types t = omega arith in is_skipped w b (λ rest. other_tag T seen q t n rest refl w b)
    go (no a) (no b) c d =
        let w : length T.types ≤ row_of T.types t = omega arith in
        let k : T.critical ≤ t = omega arith in
        is_critical w k (λ rest. critical_tag T seen q t n rest refl w k)
    go (yes a) b (no c) d = has_length a c (λ rest. length_tag T seen q t n rest refl a c)
    go (yes a) b (yes c) (no d) = is_repeated a c d (λ rest. repeated_tag T seen q t n rest refl a c d)
    go (yes a) b (yes c) (yes d) = is_taken a c d (λ rest. taken_tag T seen q t n rest refl a c d)

-- ---- the end, judged

module _ (T : TagTable) (seen : List ℕ) (rows : T.required ≤ length seen) where
  len : length (take T.required seen) ≡ T.required
  len = length-take-le T.required seen rows

  end_missing : (r : ℕ) → r < T.required → get_or seen r 0 ≡ 0 → ((i : ℕ) → i < r → get_or seen i 0 ≢ 0)
      → judge T seen ended ≡ refused 8 (get_or T.types r 0)
  unfolding judge
  end_missing r a z f =
      let e : row_of (take T.required seen) 0 ≡ r =
      row_is (take T.required seen) 0 r (omega (arith, len)) (get_or-take T.required seen r 0 a ∙ z)
      (λ i lt x. f i lt (sym (get_or-take T.required seen i 0 (omega arith)) ∙ x)) in
      simp (e, lt-ltb _ _ a)

  end_whole : ((r : ℕ) → r < T.required → get_or seen r 0 ≢ 0) → judge T seen ended ≡ gives seen
  unfolding judge
  end_whole f =
      let w = row_none (take T.required seen) 0
      (λ i lt x. let k : i < T.required = omega (arith, len) in f i k (sym (get_or-take T.required seen i 0 k) ∙ x)) in
      let le : T.required ≤ row_of (take T.required seen) 0 = omega (arith, len) in
      simp (le-ltb _ _ le)

pub end_is_judged : EndIsJudged
end_is_judged T seen rows = record { missing = end_missing T seen rows; whole = end_whole T seen rows }

pub break_is_judged : BreakIsJudged
unfolding judge
break_is_judged T seen n p = refl

-- ---- the numbers

told : {A : Type 0} {T : TagTable} {l m p n q : ℕ} → ◌≡◌ {A = Answer A} (refused m p) (refused n q) → TagNumber T l m p → TagNumber T l n q
told {T = T} {l = l} {m = m} {p = p} e w =
    let a = number_same e in
    let b = place_same e in
    rw (a, b) at w

of_walk : {T : TagTable} {l n q : ℕ} → WalkNumber l n q → TagNumber T l n q
of_walk (does_not_fit p) = notFitting p
of_walk no_end = endless

-- what breaks a walk is one of the walk's numbers
abbrev pub Breaks : ℕ → Tags → Type 0
Breaks l ended = Unit {0}
Breaks l (broken n p) = WalkNumber l n p
Breaks l (more q t m rest) = Breaks l rest

pub tags_break : (h : List ℕ) (n p : ℕ) → Breaks (length h) (tags_from h n p)
unfolding tags_from
tags_break h zero p = no_end
tags_break h (suc n) p = go (λ q. tags_break h n q) (next_item h p) refl
  where
    go : ((q : ℕ) → Breaks (length h) (tags_from h n q)) → (s : Answer Item) → next_item h p ≡ s
        → Breaks (length h) (on_item s (λ q. tags_from h n q))
    go ih (gives (tag q t v)) e = ih (q + 4 + v)
    go ih (gives end) e = tt
    go ih (refused i q) e = walk_gives_its_numbers h p i q e

judge_number : (T : TagTable) (l n p : ℕ) (ts : Tags) (seen : List ℕ) → Breaks l ts → judge T seen ts ≡ refused n p → TagNumber T l n p
unfolding judge
judge_number T l n p ended seen w e = go (ltb (row_of (take T.required seen) 0) T.required) refl e
  where
    go : (b : Bool) → ltb (row_of (take T.required seen) 0) T.required ≡ b
        → cond b (refused 8 (get_or T.types (row_of (take T.required seen) 0) 0)) (gives seen) ≡ refused n p → TagNumber T l n p
    go true x e = told e (missing (row_of (take T.required seen) 0) (ltb-true _ _ x))
    go false x e = gives_refused e
judge_number T l n p (broken m q) seen w e = told e (of_walk w)
judge_number T l n p (more q k m ts) seen w e =
    go (λ s. judge_number T l n p ts s w) (ltb (row_of T.types k) (length T.types))
    (eqb m (get_or T.lengths (row_of T.types k) 0)) (eqb (get_or seen (row_of T.types k) 0) 0) (ltb k T.critical) e
  where
    go : ((s : List ℕ) → judge T s ts ≡ refused n p → TagNumber T l n p) → (b₁ b₂ b₃ b₄ : Bool)
        → cond b₁ (cond b₂ (cond b₃ (judge T (set seen (row_of T.types k) q) ts) (refused 6 q)) (refused 5 q)) (cond b₄ (judge T seen ts) (refused 18 q))
        ≡ refused n p
        → TagNumber T l n p
    go ih false b₂ b₃ true e = ih seen e
    go ih false b₂ b₃ false e = told e (not_understood q)
    go ih true false b₃ b₄ e = told e (of_length q)
    go ih true true false b₄ e = told e (again q)
    go ih true true true b₄ e = ih (set seen (row_of T.types k) q) e

pub tags_give_their_numbers : TagsGiveTheirNumbers
unfolding places_in
tags_give_their_numbers T h n p e =
    judge_number T (length h) n p (tags_at h 8) (replicate (length T.types) 0) (tags_break h (length h - 8) 8) e

-- none of them is a number of the tests before the walk
pub beside_the_walk : {T : TagTable} {l n p : ℕ} → TagNumber T l n p → (4 ≤ n) × (n ≢ 16)
beside_the_walk (notFitting p) = (omega arith, λ e. omega arith)
beside_the_walk (of_length p) = (omega arith, λ e. omega arith)
beside_the_walk (again p) = (omega arith, λ e. omega arith)
beside_the_walk (not_understood p) = (omega arith, λ e. omega arith)
beside_the_walk endless = (omega arith, λ e. omega arith)
beside_the_walk (missing r lt) = (omega arith, λ e. omega arith)
