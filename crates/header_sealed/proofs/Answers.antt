-- What the sealed reader and the sealed writer answer, by the tests on the way. Assumes nothing.
use mathlib.Core.Path.{◌≡◌, refl, sym, ap, ◌∙◌}
use mathlib.Core.Logic.{◌≢◌}
use Prim.Native.Nat.{ℕ, ◌≤◌, ◌<◌}
use mathlib.Core.List.{List, [], ◌++◌, append-nil}
use mathlib.Core.Bool.{true, false}
use lib.ListN.{length, take, replicate}
use lib.Seq.{length-take-le}
use borrow.Author.Tests.{lt-ltb, le-ltb, eq-eqb, ne_eqb}
use native.Mathlib.Omega.{arith}
use Rattle.std.specs.Prelude.{Result, Ok, Err}
use Rattle.std.specs.Result.{IsOk, IsErrAnd}
use Rattle.numbers.specs.Answer.{gives, refused}
use Rattle.numbers.specs.declared.HeaderRefusal.{HeaderRefusal}
use Rattle.numbers.specs.declared.WriteRefusal.{WriteRefusal}
use Rattle.numbers.specs.declared.SealedRefusal.{SealedRefusal}
use Rattle.numbers.specs.declared.SealedRefusal.TheVariants.{BadHeader}
use Rattle.numbers.specs.declared.SealedWriteRefusal.{SealedWriteRefusal}
use Rattle.numbers.specs.declared.SealedWriteRefusal.TheVariants.{NotWritten}
use Rattle.numbers.specs.GivenBack.{refused_with, header_says, writer_says, writer_answer, sealed_says, sealed_answer, sealed_writer_says, sealed_writer_answer}
use Rattle.header_tags.proofs.Laws.{refused_gives}
use Rattle.header_reader.specs.declared.Header.{Header}
use Rattle.header_reader.specs.Reading.{read_header}
use Rattle.header_reader.proofs.Answers.{located, places_taken}
use Rattle.header_writer.specs.Writing.{header_bytes, Write, write, write_header}
use Rattle.header_writer.proofs.Putting.{written}
use Rattle.header_sealed.specs.Profile.{first_difference, sealing, read_sealed, write_sealed}

-- ---- the sealed reader

-- a header that the reader takes, by the place at which it differs
module _ (v : Header) (d : ℕ) where
  pub sealed_in : v.has_hint ≡ true → 256 ≤ d → sealing v d ≡ gives v
  sealed_in h a = simp (h, le-ltb d 256 a) refl

  pub differs_hinted : v.has_hint ≡ true → d < 256 → sealing v d ≡ refused 21 d
  differs_hinted h a = simp (h, lt-ltb d 256 a) refl

  pub differs_hintless : v.has_hint ≡ false → d < 138 → sealing v d ≡ refused 21 d
  differs_hintless h a = simp (h, lt-ltb d 138 a) refl

  pub no_hint_lem : v.has_hint ≡ false → 138 ≤ d → sealing v d ≡ refused 21 138
  no_hint_lem h a = simp (h, le-ltb d 138 a) refl

-- by what the ordinary reader said: its refusals are told first, and its values are compared with the bytes
module _ (s : List ℕ) where
  pub reader_first : {n p : ℕ} → read_header s ≡ refused n p → read_sealed s ≡ refused n p
  unfolding read_sealed
  reader_first e = rw (read_sealed, e) refl

  pub by_values : {v : Header} → read_header s ≡ gives v → read_sealed s ≡ sealing v (first_difference (take 256 s) (header_bytes v))
  unfolding read_sealed
  by_values e = rw (read_sealed, e) refl

-- what a header that the reader takes tells: it is whole, and its size is not 0
pub record Whole (s : List ℕ) (v : Header) : Type 0 where
  pub room : 256 ≤ length s
  pub long : length (take 256 s) ≡ 256
  pub some : v.size ≢ 0

pub whole : (s : List ℕ) (v : Header) → read_header s ≡ gives v → Whole s v
whole s v e =
    let t = places_taken s v e in
    let w = located s t.places t.found in
    record { room = w.room; long = length-take-le 256 s w.room; some = λ z. w.some (sym (ap (λ (u : Header). u.size) t.is) ∙ z) }

-- a refusal of the reader is the sealed reader's
pub handed_on : (s : List ℕ) (r : Result Header SealedRefusal) (w : HeaderRefusal) → IsErrAnd r (λ e. e ≡ BadHeader w)
    → refused_with {A = Header} (header_says w) ≡ read_header s → sealed_answer r ≡ read_sealed s
handed_on s (Ok v) w e f = absurd e
handed_on s (Err h) w e f = ap (λ (x : SealedRefusal). refused_with {A = Header} (sealed_says x)) e ∙ sym (reader_first s (sym f))

-- ---- the sealed writer

module _ (v : Header) (out : List ℕ) where
  pub sealed_short : length out < 256 → write (refused 16 0) out ≡ write_sealed v out
  unfolding write_sealed
  sealed_short a = simp (lt-ltb _ _ a) refl

  pub sealed_zero : 256 ≤ length out → v.size ≡ 0 → write (refused 3 4) out ≡ write_sealed v out
  unfolding write_sealed
  sealed_zero a b = simp (le-ltb _ _ a, eq-eqb _ _ b) refl

  pub sealed_no_hint : 256 ≤ length out → v.size ≢ 0 → v.has_hint ≡ false → write (refused 21 138) out ≡ write_sealed v out
  unfolding write_sealed
  sealed_no_hint room some h = simp (le-ltb _ _ room, ne_eqb _ _ some, h) refl

  -- with a hint it is the ordinary writer
  pub sealed_written : v.has_hint ≡ true → write_header v out ≡ write_sealed v out
  unfolding write_header write_sealed
  sealed_written h = rw h refl

  -- and its refusal is the sealed writer's
  pub written_on : {e : List ℕ} (r : Result (Unit {0}) SealedWriteRefusal) (w : WriteRefusal) → IsErrAnd r (λ x. x ≡ NotWritten w)
      → write (refused_with (writer_says w)) e ≡ write_header v out → v.has_hint ≡ true → write (sealed_writer_answer r) e ≡ write_sealed v out
  written_on (Ok u) w x f h = absurd x
  written_on {e} (Err y) w x f h = ap (λ (z : SealedWriteRefusal). write (refused_with (sealed_writer_says z)) e) x ∙ f ∙ sealed_written h

-- a header written over 256 bytes: it is taken, and they are the written form
module _ (v : Header) (some : v.size ≢ 0) where
  formed : write_header v (replicate 256 0) ≡ write (gives tt) (header_bytes v ++ [])
  formed = sym (written v (replicate 256 0) (omega arith) some refl)

  pub form_taken : (r : Result (Unit {0}) WriteRefusal) (e : List ℕ) → write (writer_answer r) e ≡ write_header v (replicate 256 0) → IsOk r
  form_taken (Ok u) e x = refl
  form_taken (Err w) e x = refused_gives (ap (λ (y : Write). y.answer) (x ∙ formed))

  pub form_is : (w : Write) → w ≡ write_header v (replicate 256 0) → w.bytes ≡ header_bytes v
  form_is w x = ap (λ (y : Write). y.bytes) (x ∙ formed) ∙ append-nil (header_bytes v)
