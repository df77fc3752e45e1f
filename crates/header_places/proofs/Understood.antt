-- Which tags are refused for their type, and in which order. Assumes nothing.
use mathlib.Core.Path.{◌≡◌, refl, sym, subst, ◌∙◌}
use Prim.Native.Nat.{ℕ, zero, suc, ◌+◌, ◌-◌, ◌<◌, ◌≤◌}
use mathlib.Core.List.{List}
use mathlib.Core.Bool.{Bool, true, false, cond}
use mathlib.Core.Logic.{◌⊎◌, inl, inr}
use native.Mathlib.Omega.{arith}
use native.Mathlib.Decide.{dec_lt}
use lib.ListN.{length, get_or, take, set, replicate}
use lib.Dec.{ltb}
use Rattle.numbers.specs.Answer.{Answer, gives, refused}
use Rattle.header_tags.specs.Walk.{item_at, item_from, Item, tag, end, next_item, Tags, ended, broken, more, on_item, tags_from, tags_at}
use Rattle.header_tags.specs.Standing.{TagStands, Walked, here, behind}
use Rattle.header_tags.specs.Padding.{WalkNumber, does_not_fit, no_end}
use Rattle.header_tags.proofs.Laws.{refused_gives}
use Rattle.header_tags.proofs.Padding.{number_same, place_same, gives_refused}
use Rattle.header_tags.proofs.Standing.{found_tags_stand}
use Rattle.header_places.specs.Table.{TagTable, bounded_by}
use Rattle.header_places.specs.Judging.{row_of, judge, places_in}
use Rattle.header_places.specs.RuledOut.{Known, Unknown}
use Rattle.header_places.specs.Understood.{Passed, arrived, skipped, taken, RestDecides, NotUnderstood, EighteenExactly, Understood, EighteenTells, told, of_length, again, RefusedUpTo, EachIsRefused, TakenIsUnderstood, ReadAsBefore, TableSays, TablesAsHanded}
use Rattle.header_places.proofs.RuledOut.{known, not_known, unknown, in_row, row_of_lem, other_tag, critical_tag, length_tag, repeated_tag, taken_tag, Verdict, is_skipped, is_critical, has_length, is_repeated, is_taken, verdict, Breaks, tags_break}
use Rattle.header_places.proofs.Before.{no_more, first_or_behind}

-- ---- what is passed has no other say

passed_on : {T : TagTable} {after : List ℕ} {rest : Tags} {seen : List ℕ} {tags : Tags} → Passed T after rest seen tags
    → judge T seen tags ≡ judge T after rest
passed_on arrived = refl
passed_on {T} (skipped q t n u l p) = other_tag T _ q t n _ refl (not_known T t u) l ∙ passed_on p
passed_on {T} (taken q t n r i e z p) = taken_tag T _ q t n _ (row_of_lem i) i.row e z ∙ passed_on p

pub rest_decides : RestDecides
unfolding places_in
rest_decides T h after rest p = passed_on p

-- ---- 18

-- another number is not 18
pub not_eighteen : {A : Type 0} {B : Type 0} {n p q : ℕ} → (n ≡ 18 → ⊥) → ◌≡◌ {A = Answer A} (refused n p) (refused 18 q) → B
not_eighteen d e = absurd (d (number_same e))

-- the first of some tags that is not passed
record Stops (T : TagTable) (seen : List ℕ) (tags : Tags) (q : ℕ) : Type 0 where
  type : ℕ
  size : ℕ
  after : List ℕ
  rest : Tags
  reached : Passed T after (more q type size rest) seen tags
  unknown_type : Unknown T type
  high : T.critical ≤ type

-- it is behind one that is skipped, or taken
stops_behind : {T : TagTable} {seen before : List ℕ} {g tags : Tags} {q : ℕ}
    → ((after : List ℕ) (rest : Tags) → Passed T after rest seen tags → Passed T after rest before g) → Stops T seen tags q → Stops T before g q
stops_behind f s =
    record {
      type = s.type;
      size = s.size;
      after = s.after;
      rest = s.rest;
      reached = f s.after _ s.reached;
      unknown_type = s.unknown_type;
      high = s.high;
    }

stops : (T : TagTable) (l q : ℕ) (tags : Tags) (seen : List ℕ) → Breaks l tags → judge T seen tags ≡ refused 18 q → Stops T seen tags q
unfolding judge
stops T l q ended seen w e = on (ltb (row_of (take T.required seen) 0) T.required) e
  where
    on : (b : Bool) → cond b (refused 8 (get_or T.types (row_of (take T.required seen) 0) 0)) (gives seen) ≡ refused 18 q → Stops T seen ended q
    on true e = not_eighteen (λ z. omega arith) e
    on false e = gives_refused e
stops T l q (broken m x) seen w e = on m x w e
  where
    on : (m x : ℕ) → WalkNumber l m x → ◌≡◌ {A = Answer (List ℕ)} (refused m x) (refused 18 q) → Stops T seen (broken m x) q
    on m x (does_not_fit y) e = not_eighteen (λ z. omega arith) e
    on m x no_end e = not_eighteen (λ z. omega arith) e
stops T l q (more x u v tags) seen w e = by (λ s. stops T l q tags s w) (verdict T seen x u v)
  where
    by : ((s : List ℕ) → judge T s tags ≡ refused 18 q → Stops T s tags q) → Verdict T seen x u v → Stops T seen (more x u v tags) q
    by ih (is_skipped a b goes) = stops_behind (λ after rest p. skipped x u v (unknown T u a) b p) (ih seen (sym (goes tags) ∙ e))
    by ih (is_critical a b goes) =
        record {
          type = u;
          size = v;
          after = seen;
          rest = tags;
          reached = subst (λ (z : ℕ). Passed T seen (more z u v tags) seen (more x u v tags)) (place_same (sym (goes tags) ∙ e)) arrived;
          unknown_type = unknown T u a;
          high = b;
        }
    by ih (has_length a b goes) = not_eighteen (λ z. omega arith) (sym (goes tags) ∙ e)
    by ih (is_repeated a b d goes) = not_eighteen (λ z. omega arith) (sym (goes tags) ∙ e)
    by ih (is_taken a b d goes) =
        stops_behind (λ after rest p. taken x u v (row_of T.types u) (in_row T u a) b d p)
        (ih (set seen (row_of T.types u) x) (sym (goes tags) ∙ e))

pub eighteen_exactly : EighteenExactly
unfolding places_in
eighteen_exactly T h q = (to, from)
  where
    to : places_in T h ≡ refused 18 q → NotUnderstood T h q
    to e =
        let s = stops T (length h) q (tags_at h 8) (replicate (length T.types) 0) (tags_break h (length h - 8) 8) e in
        record {
          type = s.type;
          size = s.size;
          after = s.after;
          rest = s.rest;
          reached = s.reached;
          unknown = s.unknown_type;
          high = s.high;
        }

    from : NotUnderstood T h q → places_in T h ≡ refused 18 q
    from w =
        rest_decides T h w.after _ w.reached
        ∙ critical_tag T w.after q w.type w.size w.rest refl (not_known T w.type w.unknown) w.high

-- ---- where the tags stand

-- the tags of h from p on stand one behind another, each of them whole
abbrev Laid : List ℕ → ℕ → Tags → Type 0
Laid h p ended = Unit {0}
Laid h p (broken n q) = Unit {0}
Laid h p (more q t n rest) = (p ≤ q) × TagStands h q t n × Laid h (q + 4 + n) rest

laid : (h : List ℕ) (n p : ℕ) → Laid h p (tags_from h n p)
unfolding tags_from
laid h zero p = tt
laid h (suc n) p = go (λ q. laid h n q) (next_item h p) refl
  where
    go : ((q : ℕ) → Laid h q (tags_from h n q)) → (i : Answer Item) → next_item h p ≡ i → Laid h p (on_item i (λ q. tags_from h n q))
    go ih (gives (tag q t v)) e = let w = found_tags_stand h p q t v e in (w.0, w.1, ih (q + 4 + v))
    go ih (gives end) e = tt
    go ih (refused m q) e = tt

-- so each is at p or behind
from_place : (h : List ℕ) (p q t : ℕ) (tags : Tags) → Laid h p tags → Walked tags q t → p ≤ q
from_place h p q t ended l w = absurd (no_more refl w)
from_place h p q t (broken n x) l w = absurd (no_more refl w)
from_place h p q t (more x u v tags) l w = on (λ y. from_place h (x + 4 + v) q t tags l.2 y) (first_or_behind w refl)
  where
    on : (Walked tags q t → x + 4 + v ≤ q) → ((q ≡ x) × (t ≡ u)) ⊎ Walked tags q t → p ≤ q
    on ih (inl y) = omega (arith, y.0, l.0)
    on ih (inr y) = omega (arith, ih y, l.0)

-- the first tag that is not passed is one of them, and those before it are understood
record First (T : TagTable) (h : List ℕ) (tags : Tags) (q type size : ℕ) : Type 0 where
  walked : Walked tags q type
  whole : TagStands h q type size
  understood : (x t : ℕ) → Walked tags x t → x < q → Understood T t

-- behind a tag that is understood
first_behind : {T : TagTable} {h : List ℕ} {tags : Tags} {q type size : ℕ} (x u v : ℕ) → Understood T u → First T h tags q type size
    → First T h (more x u v tags) q type size
first_behind {T} {h} {tags} {q} {type} x u v ok f =
    record {
      walked = behind q type x u v tags f.walked;
      whole = f.whole;
      understood = λ y t w lt. on y t lt (first_or_behind w refl);
    }
  where
    on : (y t : ℕ) → y < q → ((y ≡ x) × (t ≡ u)) ⊎ Walked tags y t → Understood T t
    on y t lt (inl z) = subst (Understood T) (sym z.1) ok
    on y t lt (inr w) = f.understood y t w lt

first : {T : TagTable} {h after : List ℕ} {rest : Tags} {q type size : ℕ} {seen : List ℕ} {tags : Tags}
    (p : ℕ) → Passed T after (more q type size rest) seen tags → Laid h p tags → First T h tags q type size
first {T} {h} {rest = rest} {q = q} {type = type} {size = size} p arrived l =
    record {
      walked = here q type size rest;
      whole = l.1;
      understood = λ y t w lt. on y t lt (first_or_behind w refl);
    }
  where
    on : (y t : ℕ) → y < q → ((y ≡ q) × (t ≡ type)) ⊎ Walked rest y t → Understood T t
    on y t lt (inl z) = absurd (omega (arith, z.0))
    on y t lt (inr w) = absurd (omega (arith, from_place h (q + 4 + size) y t rest l.2 w))
first p (skipped x u v n b y) l = first_behind x u v (inr b) (first (x + 4 + v) y l.2)
first p (taken x u v r i c d y) l =
    first_behind x u v (inl (record { row = r; below = i.row; here = i.here })) (first (x + 4 + v) y l.2)

pub eighteen_tells : EighteenTells
eighteen_tells T h q e =
    let w = (eighteen_exactly T h q).0 e in
    let f = first 8 w.reached (laid h (length h - 8) 8) in
    record {
      type = w.type;
      size = w.size;
      walked = f.walked;
      whole = f.whole;
      unknown = w.unknown;
      high = w.high;
      first = f.understood;
    }

-- ---- a tag that is not understood is refused

carried_on : {A : Type 0} {q : ℕ} {a b : Answer A} → a ≡ b → RefusedUpTo q b → RefusedUpTo q a
carried_on e r = record { number = r.number; place = r.place; is = e ∙ r.is; order = r.order }

each : (T : TagTable) (h : List ℕ) (q t : ℕ) → Unknown T t → T.critical ≤ t → (p : ℕ) (tags : Tags) (seen : List ℕ) → Laid h p tags → Walked tags q t
    → RefusedUpTo q (judge T seen tags)
each T h q t un high p ended seen l w = absurd (no_more refl w)
each T h q t un high p (broken m x) seen l w = absurd (no_more refl w)
each T h q t un high p (more x u v tags) seen l w = on (λ s y. each T h q t un high (x + 4 + v) tags s l.2 y) (first_or_behind w refl)
  where
    by : x < q → ((s : List ℕ) → RefusedUpTo q (judge T s tags)) → Verdict T seen x u v → RefusedUpTo q (judge T seen (more x u v tags))
    by lt ih (is_skipped a b goes) = carried_on (goes tags) (ih seen)
    by lt ih (is_critical a b goes) = record { number = 18; place = x; is = goes tags; order = told x (omega arith) }
    by lt ih (has_length a b goes) = record { number = 5; place = x; is = goes tags; order = of_length x lt }
    by lt ih (is_repeated a b d goes) = record { number = 6; place = x; is = goes tags; order = again x lt }
    by lt ih (is_taken a b d goes) = carried_on (goes tags) (ih (set seen (row_of T.types u) x))

    on : ((s : List ℕ) → Walked tags q t → RefusedUpTo q (judge T s tags)) → ((q ≡ x) × (t ≡ u)) ⊎ Walked tags q t
        → RefusedUpTo q (judge T seen (more x u v tags))
    on ih (inl y) =
        record {
          number = 18;
          place = x;
          is = critical_tag T seen x u v tags refl (not_known T u (subst (Unknown T) y.1 un)) (omega (arith, y.1));
          order = told x (omega (arith, y.0));
        }
    on ih (inr y) =
        by (omega (arith, from_place h (x + 4 + v) q t tags l.2 y)) (λ s. ih s y) (verdict T seen x u v)

pub each_is_refused : EachIsRefused
unfolding places_in
each_is_refused T h q t w un high = each T h q t un high 8 (tags_at h 8) (replicate (length T.types) 0) (laid h (length h - 8) 8) w

pub taken_is_understood : TakenIsUnderstood
taken_is_understood T h places q t e w = go (dec_lt (row_of T.types t) (length T.types)) (dec_lt t T.critical)
  where
    go : Dec (row_of T.types t < length T.types) → Dec (t < T.critical) → Understood T t
    go (yes a) b = inl (known T t a)
    go (no a) (yes b) = inr b
    go (no a) (no b) = refused_gives (sym (each_is_refused T h q t w (unknown T t (omega arith)) (omega arith)).is ∙ e)

-- ---- the bound has no say where each tag is understood

low : {T : TagTable} {t : ℕ} → length T.types ≤ row_of T.types t → Understood T t → t < T.critical
low {T} {t} a (inl k) = absurd (unknown T t a k)
low a (inr b) = b

same_under : (T : TagTable) (bound : ℕ) (tags : Tags)
    → ((q t : ℕ) → Walked tags q t → Understood T t × Understood (bounded_by bound T) t) → (seen : List ℕ)
    → judge (bounded_by bound T) seen tags ≡ judge T seen tags
unfolding judge
same_under T bound ended k seen = refl
same_under T bound (broken n p) k seen = refl
same_under T bound (more q t n rest) k seen =
    go (same_under T bound rest (λ x u w. k x u (behind x u q t n rest w))) (k q t (here q t n rest)).1 (verdict T seen q t n)
  where
    go : ((s : List ℕ) → judge (bounded_by bound T) s rest ≡ judge T s rest) → Understood (bounded_by bound T) t → Verdict T seen q t n
        → judge (bounded_by bound T) seen (more q t n rest) ≡ judge T seen (more q t n rest)
    go ih u (is_skipped a b goes) = other_tag (bounded_by bound T) seen q t n rest refl a (low a u) ∙ ih seen ∙ sym (goes rest)
    go ih u (is_critical a b goes) = absurd (omega (arith, low a (k q t (here q t n rest)).0))
    go ih u (has_length a b goes) = length_tag (bounded_by bound T) seen q t n rest refl a b ∙ sym (goes rest)
    go ih u (is_repeated a b d goes) = repeated_tag (bounded_by bound T) seen q t n rest refl a b d ∙ sym (goes rest)
    go ih u (is_taken a b d goes) =
        taken_tag (bounded_by bound T) seen q t n rest refl a b d ∙ ih (set seen (row_of T.types t) q) ∙ sym (goes rest)

-- a known type is known whatever the bound is
pub known_under : {T : TagTable} {t : ℕ} (bound : ℕ) → Known T t → Known (bounded_by bound T) t
known_under bound k = record { row = k.row; below = k.below; here = k.here }

pub read_as_before : ReadAsBefore
unfolding places_in
read_as_before T h bound k = same_under T bound (tags_at h 8) k (replicate (length T.types) 0)

-- ---- the table says what is known

pub table_says : TableSays
unfolding places_in judge row_of tags_from item_from item_at
table_says = record { without = refl; within = refl; other_length = refl; off = refl; lower = refl }

pub tables_as_handed : TablesAsHanded
tables_as_handed t = record { types = refl; lengths = refl; required = refl; critical = refl }
