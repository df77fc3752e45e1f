-- Which tags the reader refuses for their type. Assumes nothing.
use mathlib.Core.Path.{◌≡◌, refl, sym, ap, ◌∙◌}
use mathlib.Core.Logic.{◌↔◌, inl, inr}
use Prim.Native.Nat.{ℕ, ◌≤◌, ◌<◌}
use mathlib.Core.List.{List}
use native.Mathlib.Omega.{arith}
use native.Mathlib.Decide.{dec_lt, ℕ_discrete}
use lib.ListN.{length, get_or, take}
use lib.Dec.{lit<}
use Rattle.numbers.specs.Answer.{Answer, gives, refused, then}
use Rattle.header_tags.specs.Bytes.{AllBytes, number}
use Rattle.header_tags.specs.Standing.{TagAt}
use Rattle.header_places.specs.Table.{document_table}
use Rattle.header_places.specs.Judging.{places_in}
use Rattle.header_places.specs.RuledOut.{Unknown}
use Rattle.header_places.specs.Understood.{NotUnderstood, Understood, RefusedUpTo}
use Rattle.header_places.proofs.Fitting.{entry_below}
use Rattle.header_places.proofs.Understood.{not_eighteen, eighteen_exactly, eighteen_tells, each_is_refused, taken_is_understood}
use Rattle.header_reader.specs.declared.Header.{Header}
use Rattle.header_reader.specs.Reading.{magic, bytes_at, values_at, read_header}
use Rattle.header_reader.specs.Refusing.{HasMagic, HasSizeZero, CriticalTag, WhatIsUnderstood}
use Rattle.header_reader.proofs.Answers.{short, no_magic, no_size, by_tags, located, by_places, places_refused, places_taken}
use Rattle.header_reader.proofs.Refusing.{has_magic, zero_there, when_reader_refuses}

-- ---- document 01's table

low : (r : ℕ) → r < 6 → get_or document_table.types r 0 < 0x8000
low = entry_below 0x8000 document_table.types (lit< tt, (lit< tt, (lit< tt, (lit< tt, (lit< tt, (lit< tt, tt))))))

none_high : (t : ℕ) → 0x8000 ≤ t → Unknown document_table t
none_high t high k = absurd (omega (arith, low k.row k.below, k.here))

pub understood_low : (t : ℕ) → Understood document_table t → t < 0x8000
understood_low t (inl k) = omega (arith, low k.row k.below, k.here)
understood_low t (inr l) = l

-- ---- the reader

module _ (s : List ℕ) where
  -- what is taken is understood
  pub taken_low : (v : Header) (q t : ℕ) → read_header s ≡ gives v → TagAt s q t → t < 0x8000
  taken_low v q t e w =
      let p = places_taken s v e in
      understood_low t (taken_is_understood document_table (take 256 s) p.places q t (located s p.places p.found).found w)

  module _ (bytes : AllBytes s) where
    -- the walk's answer, where the tests before it find nothing
    by_walk : {a : Answer (List ℕ)} → 256 ≤ length s → HasMagic s → (HasSizeZero s → ⊥) → places_in document_table (take 256 s) ≡ a
        → read_header s ≡ then a (λ l. gives (values_at (take 256 s) l))
    by_walk room m z e =
        (when_reader_refuses s bytes).walk room m z ∙ ap (λ (a : Answer (List ℕ)). then a (λ l. gives (values_at (take 256 s) l))) e

    exactly_critical : (q : ℕ)
        → (read_header s ≡ refused 18 q) ↔ ((256 ≤ length s) × HasMagic s × (HasSizeZero s → ⊥) × NotUnderstood document_table (take 256 s) q)
    exactly_critical q = (
      λ e. go e (dec_lt (length s) 256) (ℕ_discrete (number (bytes_at (take 256 s) 0 4)) (number magic)) (ℕ_discrete (number (bytes_at (take 256 s) 4 4)) 0),
      λ w. by_walk w.0 w.1 w.2 ((eighteen_exactly document_table (take 256 s) q).1 w.3),
    )
      where
        go : read_header s ≡ refused 18 q → Dec (length s < 256) → Dec (number (bytes_at (take 256 s) 0 4) ≡ number magic)
            → Dec (number (bytes_at (take 256 s) 4 4) ≡ 0)
            → (256 ≤ length s) × HasMagic s × (HasSizeZero s → ⊥) × NotUnderstood document_table (take 256 s) q
        go e (yes a) m z = not_eighteen (λ x. omega arith) (sym (by_places s (short s a)) ∙ e)
        go e (no a) (no m) z = not_eighteen (λ x. omega arith) (sym (by_places s (no_magic s (omega arith) refl m)) ∙ e)
        go e (no a) (yes m) (yes z) = not_eighteen (λ x. omega arith) (sym (by_places s (no_size s (omega arith) refl m refl z)) ∙ e)
        go e (no a) (yes m) (no z) = (
          omega arith,
          has_magic s bytes (omega arith) m,
          λ y. z (zero_there s bytes (omega arith) y),
          (eighteen_exactly document_table (take 256 s) q).0 (sym (by_tags s (omega arith) refl m refl z) ∙ places_refused s 18 q e),
        )

    tells_critical : (q : ℕ) → read_header s ≡ refused 18 q → CriticalTag s q
    tells_critical q e =
        let w = eighteen_tells document_table (take 256 s) q ((eighteen_exactly document_table (take 256 s) q).1 ((exactly_critical q).0 e).3) in
        record {
          type = w.type;
          size = w.size;
          tag = w.walked;
          whole = w.whole;
          high = w.high;
          first = λ p t a lt. understood_low t (w.first p t a lt);
        }

    refuses_critical : (q t : ℕ) → 256 ≤ length s → HasMagic s → (HasSizeZero s → ⊥) → TagAt s q t → 0x8000 ≤ t → RefusedUpTo q (read_header s)
    refuses_critical q t room m z w high =
        let r = each_is_refused document_table (take 256 s) q t w (none_high t high) high in
        record { number = r.number; place = r.place; is = by_walk room m z r.is; order = r.order }

pub what_is_understood : WhatIsUnderstood
what_is_understood s bytes =
    record {
      taken = taken_low s;
      exactly = exactly_critical s bytes;
      tells = tells_critical s bytes;
      refuses = refuses_critical s bytes;
    }
