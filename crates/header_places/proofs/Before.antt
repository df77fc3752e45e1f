-- The places of a header's tags, and the bytes that decide them. Assumes nothing.
use mathlib.Core.Path.{◌≡◌, refl, sym, ap, subst, ◌∙◌}
use Prim.Native.Nat.{ℕ, zero, suc, ◌+◌, ◌-◌, ◌<◌, ◌≤◌}
use mathlib.Core.List.{List}
use mathlib.Core.Bool.{Bool, true, false, cond}
use native.Mathlib.Omega.{arith}
use native.Mathlib.Decide.{ℕ_discrete}
use lib.ListN.{length, get_or, take, set, replicate, length-set, length-replicate}
use lib.Seq.{length-take-le, get_or-set_same, get_or-set_other, get_or-take}
use mathlib.Core.Logic.{◌≢◌, ◌⊎◌, inl, inr}
use borrow.Author.Tests.{ltb-false}
use lib.Dec.{ltb, lit<}
use Rattle.numbers.specs.Answer.{Answer, gives, refused}
use Rattle.header_tags.specs.Walk.{first_tag, Item, tag, end, next_item, Tags, ended, broken, more, on_item, tags_from, tags_at}
use Rattle.header_tags.specs.Standing.{TagStands, Walked, here, behind}
use Rattle.header_tags.proofs.Laws.{tags_step, refused_gives}
use Rattle.header_tags.proofs.Standing.{found_tags_stand, found_by_same_bytes, part_same}
use Rattle.header_places.specs.Table.{TagTable}
use Rattle.header_places.specs.Judging.{row_of, judge, places_in}
use Rattle.header_places.specs.RuledOut.{InRow}
use Rattle.header_places.specs.Before.{PlacesAreTags, TagsHavePlaces, RequiredAreSeen, TagEnds, TagsBefore}
use Rattle.header_places.proofs.RuledOut.{row_of_lem, row_type, row_all, Verdict, is_skipped, is_critical, has_length, is_repeated, is_taken, verdict}
use Rattle.header_places.proofs.Judged.{Goes, begun}

-- ---- one tag

-- what the tag at q, of type t and length n, makes of row i: its place stays, or it was not seen and comes at q
data Row (T : TagTable) (seen : List ℕ) (q t n : ℕ) (after : List ℕ) (i : ℕ) : Type 0 where
  stays : get_or after i 0 ≡ get_or seen i 0 → Row T seen q t n after i
  comes : get_or seen i 0 ≡ 0 → get_or after i 0 ≡ q → get_or T.types i 0 ≡ t → get_or T.lengths i 0 ≡ n → Row T seen q t n after i

-- a tag that is not refused, with the places seen before it and after it
record Step (T : TagTable) (seen : List ℕ) (q t n : ℕ) : Type 0 where
  after : List ℕ
  sized : length after ≡ length T.types
  goes : (rest : Tags) → judge T seen (more q t n rest) ≡ judge T after rest
  row : (i : ℕ) → Row T seen q t n after i
  own : row_of T.types t < length T.types → get_or after (row_of T.types t) 0 ≡ q

step_of : (T : TagTable) (seen places : List ℕ) (q t n : ℕ) (rest : Tags) → length seen ≡ length T.types
    → judge T seen (more q t n rest) ≡ gives places → Step T seen q t n
step_of T seen places q t n rest rows e = go (verdict T seen q t n)
  where
    go : Verdict T seen q t n → Step T seen q t n
    go (is_skipped a b goes) =
        record { after = seen; sized = rows; goes = goes; row = λ i. stays refl; own = λ lt. absurd (omega arith) }
    go (is_critical a b goes) = refused_gives (sym (goes rest) ∙ e)
    go (has_length a b goes) = refused_gives (sym (goes rest) ∙ e)
    go (is_repeated a b d goes) = refused_gives (sym (goes rest) ∙ e)
    go (is_taken a b d goes) =
        record {
          after = set seen (row_of T.types t) q;
          sized = length-set seen (row_of T.types t) q ∙ rows;
          goes = goes;
          row = λ i. at i (ℕ_discrete i (row_of T.types t));
          own = λ lt. get_or-set_same seen (row_of T.types t) q 0 (omega arith);
        }
      where
        at : (i : ℕ) → Dec (i ≡ row_of T.types t) → Row T seen q t n (set seen (row_of T.types t) q) i
        at i (yes x) = rw x (comes d (get_or-set_same seen (row_of T.types t) q 0 (omega arith)) (row_type T.types t a) (sym b))
        at i (no x) = stays (get_or-set_other seen (row_of T.types t) i q 0 x)

-- ---- all tags

-- From p on, with the places seen, the walk over h gives the places, tag by tag. No tag stands at 0, which is the place of a row not seen.
data TagByTag (T : TagTable) (h places : List ℕ) : ℕ → List ℕ → Type 0 where
  done : {p : ℕ} {seen : List ℕ} → seen ≡ places → length seen ≡ length T.types → T.required ≤ row_of (take T.required seen) 0
      → tags_at h p ≡ ended → TagByTag T h places p seen
  next : {p : ℕ} {seen : List ℕ} (q t n : ℕ) → 0 < q → next_item h p ≡ gives (tag q t n) → (s : Step T seen q t n)
      → TagByTag T h places (q + 4 + n) s.after → TagByTag T h places p seen

-- a walk that gives places is one, with any fuel
from_walk : (T : TagTable) (h places : List ℕ) (n p : ℕ) (seen : List ℕ) → 0 < p → length seen ≡ length T.types
    → judge T seen (tags_from h n p) ≡ gives places → TagByTag T h places p seen
unfolding judge tags_from
from_walk T h places zero p seen pos rows e = refused_gives e
from_walk T h places (suc n) p seen pos rows e = go (λ q s. from_walk T h places n q s) (next_item h p) refl e
  where
    go : ((q : ℕ) (s : List ℕ) → 0 < q → length s ≡ length T.types → judge T s (tags_from h n q) ≡ gives places → TagByTag T h places q s)
        → (i : Answer Item) → next_item h p ≡ i → judge T seen (on_item i (λ q. tags_from h n q)) ≡ gives places → TagByTag T h places p seen
    go ih (gives (tag q t v)) i e =
        let w = found_tags_stand h p q t v i in
        let rest = tags_from h n (q + 4 + v) in
        let s = step_of T seen places q t v rest rows e in
        next q t v (omega arith) i s (ih (q + 4 + v) s.after (omega arith) s.sized (sym (s.goes rest) ∙ e))
    go ih (gives end) i e = end_of (ltb (row_of (take T.required seen) 0) T.required) refl e
      where
        end_of : (b : Bool) → ltb (row_of (take T.required seen) 0) T.required ≡ b
            → cond b (refused 8 (get_or T.types (row_of (take T.required seen) 0) 0)) (gives seen) ≡ gives places → TagByTag T h places p seen
        end_of true x e = refused_gives e
        end_of false x e = let same : seen ≡ places = cc in done same rows (ltb-false _ _ x) (tags_step h p ∙ ap (λ (s : Answer Item). on_item s (λ k. tags_at h k)) i)
    go ih (refused m q) i e = refused_gives e

tag_by_tag : {T : TagTable} {h places : List ℕ} {p : ℕ} {seen : List ℕ} → 0 < p → length seen ≡ length T.types
    → Goes T seen h p (gives places) → TagByTag T h places p seen
tag_by_tag {T} {h} {places} {p} {seen} pos rows g = from_walk T h places (length h - p) p seen pos rows g.is

-- nothing was seen before the first tag
pub zeros : (k i : ℕ) → ◌≡◌ {A = ℕ} (get_or (replicate k 0) i 0) 0
zeros zero i = refl
zeros (suc k) zero = refl
zeros (suc k) (suc i) = zeros k i

-- at the first tag's place, with nothing seen
begun_on : {T : TagTable} {h places : List ℕ} → places_in T h ≡ gives places → Goes T (replicate (length T.types) 0) h 8 (gives places)
begun_on {T} {h} e = record { is = (begun T h (length T.types) refl).is ∙ e }

started : {T : TagTable} {h places : List ℕ} → places_in T h ≡ gives places → TagByTag T h places 8 (replicate (length T.types) 0)
started {T} e = tag_by_tag (omega arith) (length-replicate (length T.types) 0) (begun_on e)

-- behind the end no tag is given
abbrev pub some : Tags → ℕ
some ended = 0
some (broken n p) = 0
some (more q t n rest) = 1

pub no_more : {g : Tags} {q t : ℕ} → some g ≡ 0 → Walked g q t → ⊥
no_more e (here q t n rest) = absurd (omega arith)
no_more e (behind q t p k n rest w) = absurd (omega arith)

-- a tag that is given is the first one, or given behind it
pub first_or_behind : {g : Tags} {x u q t n : ℕ} {rest : Tags} → Walked g x u → g ≡ more q t n rest → ((x ≡ q) × (u ≡ t)) ⊎ Walked rest x u
first_or_behind {q = q} {t = t} (here x u k l) e = let a : x ≡ q = cc in let b : u ≡ t = cc in inl (a, b)
first_or_behind {rest = rest} (behind x u p k n l w) e = let same : l ≡ rest = cc in inr (subst (λ (m : Tags). Walked m x u) same w)

-- a number that is not 0
above : (n : ℕ) → n ≢ 0 → 0 < n
above zero d = absurd (d refl)
above (suc n) d = omega arith

-- row i's place is at p or behind, its tag stands there, and the walk from p on gives it
record Later (T : TagTable) (h places : List ℕ) (p i : ℕ) : Type 0 where
  from : p ≤ get_or places i 0
  stands : TagStands h (get_or places i 0) (get_or T.types i 0) (get_or T.lengths i 0)
  walked : Walked (tags_at h p) (get_or places i 0) (get_or T.types i 0)

-- the tags from p on, where the next is known
first_tag_lem : (h : List ℕ) (p q t n : ℕ) → next_item h p ≡ gives (tag q t n) → tags_at h p ≡ more q t n (tags_at h (q + 4 + n))
first_tag_lem h p q t n e = tags_step h p ∙ ap (λ (i : Answer Item). on_item i (λ k. tags_at h k)) e

module _ {T : TagTable} {h places : List ℕ} where
  -- a row that was seen keeps its place
  kept : {p : ℕ} {seen : List ℕ} (i : ℕ) → TagByTag T h places p seen → 0 < get_or seen i 0 → get_or places i 0 ≡ get_or seen i 0
  kept i (done e l w d) a = ap (λ (l : List ℕ). get_or l i 0) (sym e)
  kept {seen = seen} i (next q t n z e s rest) a = go (λ b. kept i rest b) (s.row i)
    where
      go : (0 < get_or s.after i 0 → get_or places i 0 ≡ get_or s.after i 0) → Row T seen q t n s.after i → get_or places i 0 ≡ get_or seen i 0
      go ih (stays x) = ih (omega arith) ∙ x
      go ih (comes x y u v) = absurd (omega arith)

  -- a row that was not seen gets its place from a tag that stands from p on
  later : {p : ℕ} {seen : List ℕ} (i : ℕ) → TagByTag T h places p seen → get_or seen i 0 ≡ 0 → 0 < get_or places i 0
      → Later T h places p i
  later i (done e l w d) a b = absurd (omega (arith, ap (λ (l : List ℕ). get_or l i 0) e))
  later {p} {seen} i (next q t n z e s rest) a b = go (λ d. later i rest d b) (s.row i) (found_tags_stand h p q t n e)
    where
      go : (get_or s.after i 0 ≡ 0 → Later T h places (q + 4 + n) i) → Row T seen q t n s.after i → (p ≤ q) × TagStands h q t n
          → Later T h places p i
      go ih (stays x) f =
          let w = ih (x ∙ a) in
          record { from = omega (arith, w.from); stands = w.stands; walked = rw (first_tag_lem h p q t n e) (behind _ _ q t n _ w.walked) }
      go ih (comes x y u v) f =
          let at : get_or places i 0 ≡ q = kept i rest (omega arith) ∙ y in
          record { from = omega arith; stands = rw (at, u, v) f.1; walked = rw (at, u, first_tag_lem h p q t n e) (here q t n _) }

  -- of two rows that were not seen, where q's place is before r's, r does not come with the next tag, and that tag ends before it
  ahead : {seen : List ℕ} (q r : ℕ) {x t n : ℕ} → 0 < x → (s : Step T seen x t n) → TagByTag T h places (x + 4 + n) s.after
      → get_or seen q 0 ≡ 0 → get_or seen r 0 ≡ 0 → 0 < get_or places q 0 → get_or places q 0 < get_or places r 0
      → (get_or s.after r 0 ≡ 0) × (x + 4 + n ≤ get_or places r 0)
  ahead {seen} q r {x} {t} {n} z s rest a b c d = go (s.row q) (s.row r)
    where
      go : Row T seen x t n s.after q → Row T seen x t n s.after r → (get_or s.after r 0 ≡ 0) × (x + 4 + n ≤ get_or places r 0)
      go i (stays k) = (k ∙ b, (later r rest (k ∙ b) (omega arith)).from)
      go (stays j) (comes k l u v) = absurd (omega (arith, kept r rest (omega arith), (later q rest (j ∙ a) c).from))
      go (comes j m w y) (comes k l u v) = absurd (omega (arith, kept r rest (omega arith), kept q rest (omega arith)))

  -- of the same two rows, q's value ends before r's tag
  ends : {p : ℕ} {seen : List ℕ} (q r : ℕ) → TagByTag T h places p seen → get_or seen q 0 ≡ 0 → get_or seen r 0 ≡ 0 → 0 < get_or places q 0
      → get_or places q 0 < get_or places r 0 → get_or places q 0 + 4 + get_or T.lengths q 0 ≤ get_or places r 0
  ends q r (done e l w f) a b c d = absurd (omega (arith, ap (λ (l : List ℕ). get_or l q 0) e))
  ends {seen = seen} q r (next x t n z e s rest) a b c d =
      go (λ i j. ends q r rest i j c d) (s.row q) (ahead q r z s rest a b c d)
    where
      go : (get_or s.after q 0 ≡ 0 → get_or s.after r 0 ≡ 0 → get_or places q 0 + 4 + get_or T.lengths q 0 ≤ get_or places r 0)
          → Row T seen x t n s.after q → (get_or s.after r 0 ≡ 0) × (x + 4 + n ≤ get_or places r 0)
          → get_or places q 0 + 4 + get_or T.lengths q 0 ≤ get_or places r 0
      go ih (stays i) w = ih (i ∙ a) w.0
      go ih (comes i j u v) w = omega (arith, kept q rest (omega arith))

  -- a tag that the walk gives from p on has its row's place
  has_place : {p : ℕ} {seen : List ℕ} (x u r : ℕ) → TagByTag T h places p seen → Walked (tags_at h p) x u → row_of T.types u ≡ r
      → r < length T.types → get_or places r 0 ≡ x
  has_place {p} x u r (done e l w f) g is a = absurd (no_more (ap some f) g)
  has_place {p} x u r (next q t n z e s rest) g is a = go (λ y. has_place x u r rest y is a) (first_or_behind g (first_tag_lem h p q t n e))
    where
      go : (Walked (tags_at h (q + 4 + n)) x u → get_or places r 0 ≡ x) → ((x ≡ q) × (u ≡ t)) ⊎ Walked (tags_at h (q + 4 + n)) x u
          → get_or places r 0 ≡ x
      go ih (inl w) =
          let own : row_of T.types t ≡ r = ap (row_of T.types) (sym w.1) ∙ is in
          let o : get_or s.after r 0 ≡ q = rw own at (s.own (omega (arith, own))) in
          kept r rest (omega arith) ∙ o ∙ sym w.0
      go ih (inr y) = ih y

  -- each required row has a place
  seen_all : {p : ℕ} {seen : List ℕ} (r : ℕ) → TagByTag T h places p seen → T.required ≤ length T.types → r < T.required → 0 < get_or places r 0
  seen_all {seen = seen} r (done e l w d) rows a =
      let k : List ℕ = take T.required seen in
      let n : length k ≡ T.required = length-take-le T.required seen (omega arith) in
      let some : get_or k r 0 ≢ 0 = row_all k 0 (omega arith) r (omega arith) in
      let is : get_or k r 0 ≡ get_or places r 0 = get_or-take T.required seen r 0 a ∙ ap (λ (x : List ℕ). get_or x r 0) e in
      above (get_or places r 0) (λ z. some (is ∙ z))
  seen_all r (next q t n z e s rest) rows a = seen_all r rest rows a

  -- a tag that the walk gives stands from p on
  walked_on : {p : ℕ} {seen : List ℕ} {x u : ℕ} → TagByTag T h places p seen → 0 < p → Walked (tags_at h p) x u → 0 < x
  walked_on (done e l w f) a g = absurd (no_more (ap some f) g)
  walked_on {p} {x = x} {u = u} (next q t n z e s rest) a g = go (λ y. walked_on rest (omega arith) y) (first_or_behind g (first_tag_lem h p q t n e))
    where
      go : (Walked (tags_at h (q + 4 + n)) x u → 0 < x) → ((x ≡ q) × (u ≡ t)) ⊎ Walked (tags_at h (q + 4 + n)) x u → 0 < x
      go ih (inl w) = omega (arith, w.0)
      go ih (inr y) = ih y

-- the tags behind a tag that is not refused
goes_on : {T : TagTable} {seen h : List ℕ} {p q t n : ℕ} {O : Answer (List ℕ)} (s : Step T seen q t n) → next_item h p ≡ gives (tag q t n)
    → Goes T seen h p O → Goes T s.after h (q + 4 + n) O
goes_on {T} {seen} {h} {p} s e g =
    record { is = sym (s.goes _) ∙ ap (judge T seen) (sym (first_tag_lem h p _ _ _ e)) ∙ g.is }

-- two headers with the same bytes before r's place, from p on, with the same places seen
before : {T : TagTable} {h h' places places' : List ℕ} {p : ℕ} {seen : List ℕ} (q r : ℕ) → TagByTag T h places p seen
    → Goes T seen h' p (gives places') → take (get_or places r 0) h ≡ take (get_or places r 0) h' → get_or seen q 0 ≡ 0 → get_or seen r 0 ≡ 0
    → 0 < get_or places q 0 → get_or places q 0 < get_or places r 0 → get_or places' q 0 ≡ get_or places q 0
before q r (done e l w f) g same a b c d = absurd (omega (arith, ap (λ (l : List ℕ). get_or l q 0) e))
before {T} {h} {h'} {places} {places'} {p} {seen} q r (next x t n z e s rest) g same a b c d =
    let w = ahead q r z s rest a b c d in
    let on = goes_on s (found_by_same_bytes h h' p x t n (get_or places r 0) same w.1 e) g in
    go (λ i. before q r rest on same i w.0 c d) on (s.row q)
  where
    go : (get_or s.after q 0 ≡ 0 → get_or places' q 0 ≡ get_or places q 0) → Goes T s.after h' (x + 4 + n) (gives places')
        → Row T seen x t n s.after q → get_or places' q 0 ≡ get_or places q 0
    go ih on (stays i) = ih (i ∙ a)
    go ih on (comes i j u v) = kept q (tag_by_tag (omega arith) s.sized on) (omega arith) ∙ sym (kept q rest (omega arith))

-- ---- the statements

pub places_are_tags : PlacesAreTags
places_are_tags T h places q e a =
    let w = later q (started e) (zeros (length T.types) q) a in record { begins = w.from; stands = w.stands; walked = w.walked }

pub tags_have_places : TagsHavePlaces
tags_have_places T h places q t r e w i = has_place q t r (started e) w (row_of_lem i) i.row

-- a tag of the table that the walk gives has a place that is not 0
pub tag_begins : (T : TagTable) (h places : List ℕ) (q t r : ℕ) → places_in T h ≡ gives places → Walked (tags_at h first_tag) q t → InRow T t r → 0 < q
tag_begins T h places q t r e w i = walked_on (started e) (lit< tt) w

pub tag_ends : TagEnds
tag_ends T h places q r e a b =
    omega (arith, ends q r (started e) (zeros (length T.types) q) (zeros (length T.types) r) (omega arith) (omega arith))

pub required_are_seen : RequiredAreSeen
required_are_seen T h places r e rows a = seen_all r (started e) rows a

pub tags_before : TagsBefore
tags_before T h h' places places' q r e e' same a b =
    let first : get_or places q 0 < get_or places r 0 = omega arith in
    let p = before q r (started e) (begun_on e') same (zeros (length T.types) q) (zeros (length T.types) r) a first in
    record {
      place = p;
      value = rw p (sym (part_same h h' (get_or places r 0) same (get_or places q 0 + 4) _ (tag_ends T h places q r e a first)));
    }
