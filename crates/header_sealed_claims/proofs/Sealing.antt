-- What an answer of the sealed reader tells. Assumes nothing.
use mathlib.Core.Path.{◌≡◌, refl, sym, ap, subst, ◌∙◌}
use mathlib.Core.Logic.{◌⊎◌, inl, inr}
use Prim.Native.Nat.{ℕ, ◌≤◌, ◌<◌}
use mathlib.Core.List.{List}
use mathlib.Core.Bool.{Bool, true, false, cond}
use native.Mathlib.Omega.{arith}
use native.Mathlib.Decide.{dec_lt}
use lib.ListN.{length, take}
use lib.Dec.{ltb}
use borrow.Author.Tests.{ltb-true, ltb-false}
use Rattle.numbers.specs.Answer.{Answer, gives, refused}
use Rattle.numbers.proofs.Refusals.{given_same}
use Rattle.header_tags.specs.Bytes.{AllBytes}
use Rattle.header_tags.proofs.Laws.{refused_gives}
use Rattle.header_tags.proofs.Padding.{gives_refused, place_same}
use Rattle.header_reader.specs.declared.Header.{Header}
use Rattle.header_reader.specs.Reading.{read_header}
use Rattle.header_writer.specs.Writing.{header_bytes}
use Rattle.header_round_trips.specs.RoundTrips.{Holdable}
use Rattle.header_round_trips.proofs.Back.{header_length}
use Rattle.header_round_trips.proofs.Again.{read_is_holdable}
use Rattle.header_sealed.specs.Profile.{first_difference, sealing, read_sealed}
use Rattle.header_sealed.proofs.Differing.{first_is, First, first, same_whole, whole_same}
use Rattle.header_sealed.proofs.Answers.{sealed_in, differs_hinted, differs_hintless, no_hint_lem, reader_first, by_values, whole}
use Rattle.header_sealed_claims.specs.Claims.{NotSealedAt, hinted, hintless, no_hint}

-- ---- by the place of the first difference

-- values are given of a header with a hint that differs nowhere
pub record Given (v u : Header) (d : ℕ) : Type 0 where
  pub same : v ≡ u
  pub hint : v.has_hint ≡ true
  pub nowhere : 256 ≤ d

pub given : (v u : Header) (d : ℕ) → sealing v d ≡ gives u → Given v u d
given v u d e = go v.has_hint refl (ltb d 256) refl (ltb d 138) e
  where
    go : (b : Bool) → v.has_hint ≡ b → (t : Bool) → ltb d 256 ≡ t → (k : Bool)
        → cond b (cond t (refused 21 d) (gives v)) (cond k (refused 21 d) (refused 21 138)) ≡ gives u → Given v u d
    go true x true y k e = refused_gives e
    go true x false y k e = record { same = given_same e; hint = x; nowhere = ltb-false d 256 y }
    go false x t y true e = refused_gives e
    go false x t y false e = refused_gives e

-- 21 of a header h and the written form w of its values
module _ (v : Header) (h w : List ℕ) (long : length h ≡ 256) (as_long : length h ≡ length w) where
  abbrev d : ℕ
  d = first_difference h w

  refused_at_lem : (p : ℕ) → sealing v d ≡ refused 21 p → NotSealedAt v h w p
  refused_at_lem p e = go v.has_hint refl (ltb d 256) refl (ltb d 138) refl e
    where
      f : First h w d
      f = first h w as_long

      go : (b : Bool) → v.has_hint ≡ b → (t : Bool) → ltb d 256 ≡ t → (k : Bool) → ltb d 138 ≡ k
          → cond b (cond t (refused 21 d) (gives v)) (cond k (refused 21 d) (refused 21 138)) ≡ refused 21 p → NotSealedAt v h w p
      go true x true y k z e =
          let lt = ltb-true d 256 y in
          subst (λ (q : ℕ). NotSealedAt v h w q) (place_same e) (hinted d x (omega arith) (f.differs (omega arith)) f.same)
      go true x false y k z e = gives_refused e
      go false x t y true z e =
          let lt = ltb-true d 138 z in
          subst (λ (q : ℕ). NotSealedAt v h w q) (place_same e) (hintless d x (omega arith) (f.differs (omega arith)) f.same)
      go false x t y false z e =
          let le = ltb-false d 138 z in
          subst (λ (q : ℕ). NotSealedAt v h w q) (place_same e) (no_hint x (λ i lt. f.same i (omega arith)))

  -- and back
  refused_back : (p : ℕ) → NotSealedAt v h w p → sealing v d ≡ refused 21 p
  refused_back p (hinted q x lt n s) =
      let e = first_is h w q as_long (omega arith) s n in
      differs_hinted v d x (omega arith) ∙ ap (refused 21) (sym e)
  refused_back p (hintless q x lt n s) =
      let e = first_is h w q as_long (omega arith) s n in
      differs_hintless v d x (omega arith) ∙ ap (refused 21) (sym e)
  refused_back p (no_hint x s) = no_hint_lem v d x (behind (dec_lt d 138))
    where
      behind : Dec (d < 138) → 138 ≤ d
      behind (yes lt) = absurd ((first h w as_long).differs (omega arith) (s d lt))
      behind (no ge) = omega arith

-- ---- by the bytes of a buffer

module _ (s : List ℕ) (bytes : AllBytes s) (v : Header) (read : read_header s ≡ gives v) where
  pub held : Holdable v
  held = read_is_holdable s bytes v read

  pub long : length (take 256 s) ≡ 256
  long = (whole s v read).long

  as_long : length (take 256 s) ≡ length (header_bytes v)
  as_long = long ∙ sym (header_length v held)

  judged : read_sealed s ≡ sealing v (first_difference (take 256 s) (header_bytes v))
  judged = by_values s read

  pub not_sealed_lem : (p : ℕ) → read_sealed s ≡ refused 21 p → NotSealedAt v (take 256 s) (header_bytes v) p
  not_sealed_lem p e = refused_at_lem v (take 256 s) (header_bytes v) long as_long p (sym judged ∙ e)

  pub not_sealed_back : (p : ℕ) → NotSealedAt v (take 256 s) (header_bytes v) p → read_sealed s ≡ refused 21 p
  not_sealed_back p n = judged ∙ refused_back v (take 256 s) (header_bytes v) long as_long p n

  pub told_either : (read_sealed s ≡ gives v) ⊎ ((p : ℕ) × (read_sealed s ≡ refused 21 p))
  told_either = go v.has_hint refl (dec_lt d 256) (dec_lt d 138)
    where
      d : ℕ
      d = first_difference (take 256 s) (header_bytes v)

      go : (b : Bool) → v.has_hint ≡ b → Dec (d < 256) → Dec (d < 138) → (read_sealed s ≡ gives v) ⊎ ((p : ℕ) × (read_sealed s ≡ refused 21 p))
      go true x (yes a) k = inr (d, judged ∙ differs_hinted v d x a)
      go true x (no a) k = inl (judged ∙ sealed_in v d x (omega arith))
      go false x t (yes a) = inr (d, judged ∙ differs_hintless v d x a)
      go false x t (no a) = inr (138, judged ∙ no_hint_lem v d x (omega arith))

  pub sealed_form : read_sealed s ≡ gives v → (v.has_hint ≡ true) × (take 256 s ≡ header_bytes v)
  sealed_form e =
      let g = given v v (first_difference (take 256 s) (header_bytes v)) (sym judged ∙ e) in
      (g.hint, same_whole (take 256 s) (header_bytes v) as_long (omega (arith, long, g.nowhere)))

-- a header that is read, and is the written form with a hint
pub sealed_when : (s : List ℕ) (v : Header) → read_header s ≡ gives v → v.has_hint ≡ true → take 256 s ≡ header_bytes v → read_sealed s ≡ gives v
sealed_when s v read hint form =
    let d : ℕ = first_difference (take 256 s) (header_bytes v) in
    let nowhere : 256 ≤ d = omega (arith, (whole s v read).long, whole_same (take 256 s) (header_bytes v) form) in
    by_values s read ∙ sealed_in v d hint nowhere

-- what the sealed reader gives, the reader gives
pub reader_gave : (s : List ℕ) (v : Header) → read_sealed s ≡ gives v → read_header s ≡ gives v
reader_gave s v e = go (read_header s) refl
  where
    go : (a : Answer Header) → read_header s ≡ a → read_header s ≡ gives v
    go (gives u) x = x ∙ ap gives (given u v (first_difference (take 256 s) (header_bytes u)) (sym (by_values s x) ∙ e)).same
    go (refused n p) x = refused_gives (sym (reader_first s x) ∙ e)
