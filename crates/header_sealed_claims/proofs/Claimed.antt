-- What holds of the sealed reader. Assumes nothing.
use mathlib.Core.Path.{◌≡◌, refl, sym, ap, subst, ◌∙◌}
use Prim.Native.Nat.{ℕ, ◌≤◌, ◌<◌}
use mathlib.Core.List.{List, ◌++◌}
use mathlib.Core.Logic.{◌≢◌}
use mathlib.Core.Bool.{Bool, true, false, cond, not}
use native.Mathlib.Omega.{arith}
use native.Mathlib.Decide.{dec_lt}
use lib.ListN.{length, get_or, take, drop, take-append-drop, get_or-append}
use lib.Dec.{ltb, eqb, lit<, lit≤}
use Rattle.numbers.specs.Answer.{Answer, gives, refused}
use Rattle.numbers.proofs.Refusals.{given_same}
use Rattle.header_tags.specs.Bytes.{AllBytes, number}
use Rattle.header_tags.proofs.Padding.{number_same}
use Rattle.header_places.specs.Table.{TagTable, document_table}
use Rattle.header_places.specs.Judging.{places_in}
use Rattle.header_places.specs.RuledOut.{TagNumber, does_not_fit, wrong_length, repeated, not_understood, no_end, missing}
use Rattle.header_places.proofs.RuledOut.{tags_give_their_numbers}
use Rattle.header_reader.specs.declared.Header.{Header}
use Rattle.header_reader.specs.Reading.{magic, bytes_at, tag_places, read_header}
use Rattle.header_reader.proofs.Answers.{places_refused}
use Rattle.header_writer.specs.Writing.{front, header_bytes, write_header}
use Rattle.header_round_trips.proofs.Back.{write_then_read}
use Rattle.header_round_trips.proofs.Again.{read_write_read}
use Rattle.header_sealed.specs.Profile.{read_sealed}
use Rattle.header_sealed.proofs.Answers.{reader_first, whole}
use Rattle.header_sealed_claims.specs.Claims.{NotSealedAt, hinted, hintless, no_hint, WhatIsSealed, SameValuesSameBytes}
use Rattle.header_sealed_claims.proofs.Sealing.{held, told_either, not_sealed_lem, not_sealed_back, sealed_form, sealed_when, reader_gave}
use Rattle.header_sealed_claims.proofs.Parts.{front_there}

-- ---- the ordinary reader does not give 21

tag_below : {T : TagTable} {l n p : ℕ} → TagNumber T l n p → n < 21
tag_below (does_not_fit p) = lit< tt
tag_below (wrong_length p) = lit< tt
tag_below (repeated p) = lit< tt
tag_below (not_understood p) = lit< tt
tag_below no_end = lit< tt
tag_below (missing r lt) = lit< tt

reader_below : (s : List ℕ) (n p : ℕ) → read_header s ≡ refused n p → n < 21
unfolding tag_places
reader_below s n p e =
    go (ltb (length s) 256) (eqb (number (bytes_at (take 256 s) 0 4)) (number magic)) (eqb (number (bytes_at (take 256 s) 4 4)) 0) (places_refused s n p e)
  where
    go : (b₁ b₂ b₃ : Bool)
        → cond b₁ (refused 16 0) (cond (not b₂) (refused 2 0) (cond b₃ (refused 3 4) (places_in document_table (take 256 s)))) ≡ refused n p
        → n < 21
    go true b₂ b₃ e = let k = number_same e in omega arith
    go false false b₃ e = let k = number_same e in omega arith
    go false true true e = let k = number_same e in omega arith
    go false true false e = tag_below (tags_give_their_numbers document_table (take 256 s) n p e)

-- ---- magic and size are those of the written form

module _ (s : List ℕ) (bytes : AllBytes s) (v : Header) (read : read_header s ≡ gives v) where
  abbrev h : List ℕ
  h = take 256 s

  laid_front : header_bytes v ≡ front v ++ drop 8 (header_bytes v)
  unfolding header_bytes
  laid_front = refl

  front_byte : (i : ℕ) → i < 8 → get_or h i 0 ≡ get_or (header_bytes v) i 0
  front_byte i lt =
      ap (λ (l : List ℕ). get_or l i 0) (front_there s bytes v read)
      ∙ get_or-append (front v) (drop 8 h) 0 i (omega arith)
      ∙ sym (ap (λ (l : List ℕ). get_or l i 0) laid_front ∙ get_or-append (front v) (drop 8 (header_bytes v)) 0 i (omega arith))

  differs_behind : (p : ℕ) → get_or h p 0 ≢ get_or (header_bytes v) p 0 → 8 ≤ p
  differs_behind p n = go (dec_lt p 8)
    where
      go : Dec (p < 8) → 8 ≤ p
      go (yes lt) = absurd (n (front_byte p lt))
      go (no ge) = omega arith

  behind_size_lem : (p : ℕ) → NotSealedAt v h (header_bytes v) p → (8 ≤ p) × (p < 256)
  behind_size_lem p (hinted q x lt n e) = (differs_behind q n, omega arith)
  behind_size_lem p (hintless q x lt n e) = (differs_behind q n, omega arith)
  behind_size_lem p (no_hint x e) = (lit≤ tt, lit< tt)

-- ---- the sealed reader

module _ (s : List ℕ) (bytes : AllBytes s) where
  -- 21 is told of a header that the ordinary reader takes
  taken_first : (p : ℕ) → read_sealed s ≡ refused 21 p → (v : Header) × (read_header s ≡ gives v)
  taken_first p e = go (read_header s) refl
    where
      go : (a : Answer Header) → read_header s ≡ a → (v : Header) × (read_header s ≡ gives v)
      go (gives v) x = (v, x)
      go (refused n q) x =
          let k = number_same (sym (reader_first s x) ∙ e) in
          let lt = reader_below s n q x in
          absurd (omega arith)

  -- what the writer leaves of values that were read is their written form
  written_is : (v : Header) → read_header s ≡ gives v → (out : List ℕ) → 256 ≤ length out → header_bytes v ≡ take 256 (write_header v out).bytes
  written_is v x out room = sym (write_then_read v (held s bytes v x) out room).header

pub what_is_sealed : WhatIsSealed
what_is_sealed s bytes =
    record {
      first = λ n p e. reader_first s e;
      values = λ v e. reader_gave s v e;
      sealed = λ v x out room. (
        λ e. ((sealed_form s bytes v x e).0, (sealed_form s bytes v x e).1 ∙ written_is s bytes v x out room),
        λ w. sealed_when s v x w.0 (w.1 ∙ sym (written_is s bytes v x out room)),
      );
      either = λ v x. told_either s bytes v x;
      not_sealed = λ p out room. (
        λ e. let t = taken_first s bytes p e in (
          t.0,
          t.1,
          subst (λ (w : List ℕ). NotSealedAt t.0 (take 256 s) w p) (written_is s bytes t.0 t.1 out room) (not_sealed_lem s bytes t.0 t.1 p e),
        ),
        λ g. not_sealed_back s bytes g.0 g.1 p
            (subst (λ (w : List ℕ). NotSealedAt g.0 (take 256 s) w p) (sym (written_is s bytes g.0 g.1 out room)) g.2),
      );
      behind_size = λ p e.
          let t = taken_first s bytes p e in
          let w = behind_size_lem s bytes t.0 t.1 p (not_sealed_lem s bytes t.0 t.1 p e) in
          (omega (arith, w.0), omega (arith, w.1));
    }

-- ---- two sealed headers

pub same_values_same_bytes : SameValuesSameBytes
same_values_same_bytes s t bs bt u v es et =
    let ru = reader_gave s u es in
    let rv = reader_gave t v et in
    let fu : take 256 s ≡ header_bytes u = (sealed_form s bs u ru es).1 in
    let fv : take 256 t ≡ header_bytes v = (sealed_form t bt v rv et).1 in (
      λ e. fu ∙ ap header_bytes e ∙ sym fv,
      λ e.
          let w = read_write_read s bs u ru t (whole t v rv).room in
          let same : take 256 (write_header u t).bytes ++ drop 256 t ≡ t =
          ap (λ (l : List ℕ). l ++ drop 256 t) (w.header ∙ sym fu ∙ e) ∙ take-append-drop 256 t in
          given_same (sym (w.alone (drop 256 t)) ∙ ap read_header same ∙ rv),
    )
