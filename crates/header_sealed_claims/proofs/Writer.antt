-- What holds of the sealed writer. Assumes nothing.
use mathlib.Core.Path.{◌≡◌, refl, sym, ap, subst, ◌∙◌}
use mathlib.Core.Logic.{◌≢◌}
use Prim.Native.Nat.{ℕ, ◌≤◌, ◌<◌}
use mathlib.Core.List.{List, ◌++◌}
use mathlib.Core.Bool.{Bool, true, false, true≢false}
use native.Mathlib.Omega.{arith}
use native.Mathlib.Decide.{dec_lt, ℕ_discrete}
use lib.ListN.{length, take, drop}
use lib.Seq.{take_at}
use Rattle.numbers.specs.Answer.{gives}
use Rattle.numbers.proofs.Refusals.{apart}
use Rattle.header_reader.specs.declared.Header.{Header}
use Rattle.header_writer.specs.Writing.{Write, write, write_header}
use Rattle.header_round_trips.specs.RoundTrips.{carried_hint, carried, RoundTrip}
use Rattle.header_round_trips.proofs.Back.{header_length, write_then_read}
use Rattle.header_sealed.specs.Profile.{write_sealed}
use Rattle.header_sealed.proofs.Answers.{whole, sealed_short, sealed_zero, sealed_no_hint, sealed_written}
use Rattle.header_writer.proofs.Putting.{written}
use Rattle.header_sealed_claims.specs.Claims.{SealedForm, WriteThenReadSealed, ReadThenWriteSealed, SealedWriterRefuses, WhenSealedWriterRefuses}
use Rattle.header_sealed_claims.proofs.Sealing.{sealed_form, sealed_when, reader_gave}
use Rattle.header_sealed_claims.proofs.Form.{written_form}

-- ---- what is written, read back

-- with a hint all is carried
carries : (v : Header) → v.has_hint ≡ true → carried v ≡ v
carries v hint = λ i. record {
  size = v.size;
  version = v.version;
  timestamp = v.timestamp;
  digest = v.digest;
  signature = v.signature;
  auth_type = v.auth_type;
  has_hint = v.has_hint;
  hint = ap (λ (b : Bool). carried_hint b v.hint) hint i;
}

pub write_then_read_sealed : WriteThenReadSealed
write_then_read_sealed v f hint out room =
    let same : write_header v out ≡ write_sealed v out = sealed_written v out hint in
    let t : RoundTrip (write_sealed v out) out v v =
    subst (λ (u : Header). RoundTrip (write_sealed v out) out v u) (carries v hint)
    (subst (λ (w : Write). RoundTrip w out v (carried v)) same (write_then_read v f out room)) in
    let b : List ℕ = (write_sealed v out).bytes in
    let n : length (take 256 b) ≡ 256 = ap length t.header ∙ header_length v f in
    record {
      form = subst (λ (w : Write). SealedForm w.bytes) same (written_form v f hint out room);
      trip = t;
      back = sealed_when b v t.back hint t.header;
      alone = λ rest. sealed_when (take 256 b ++ rest) v (t.alone rest) hint (take_at (take 256 b) rest 256 n ∙ t.header);
    }

pub read_then_write_sealed : ReadThenWriteSealed
read_then_write_sealed s bytes v e out room =
    let r = reader_gave s v e in
    let w = sealed_form s bytes v r e in
    let some = (whole s v r).some in
    sym (sealed_written v out w.0) ∙ sym (written v out room some refl)
    ∙ ap (λ (l : List ℕ). write (gives tt) (l ++ drop 256 out)) (sym w.1)

-- ---- when it refuses: each case has its answer, and the others not

module _ (v : Header) (out : List ℕ) where
  answers : {w : Write} → write_sealed v out ≡ w → (write_sealed v out).answer ≡ w.answer
  answers e = ap (λ (w : Write). w.answer) e

  by_short : length out < 256 → SealedWriterRefuses v out
  by_short lt =
      let is = sym (sealed_short v out lt) in
      record {
        short = (λ e. lt, λ l. is);
        zero = (λ e. apart (answers is) (answers e) (λ n. omega arith), λ w. absurd (omega (arith, w.0)));
        no_hint = (λ e. apart (answers is) (answers e) (λ n. omega arith), λ w. absurd (omega (arith, w.0)));
        taken = (λ e. apart (answers is) e (λ n. omega arith), λ w. absurd (omega (arith, w.0)));
        same = λ e. apart (answers is) e (λ n. omega arith);
      }

  module _ (room : 256 ≤ length out) where
    by_zero : v.size ≡ 0 → SealedWriterRefuses v out
    by_zero z =
        let is = sym (sealed_zero v out room z) in
        record {
          short = (λ e. apart (answers is) (answers e) (λ n. omega arith), λ l. absurd (omega arith));
          zero = (λ e. (room, z), λ w. is);
          no_hint = (λ e. apart (answers is) (answers e) (λ n. omega arith), λ w. absurd (w.1 z));
          taken = (λ e. apart (answers is) e (λ n. omega arith), λ w. absurd (w.1 z));
          same = λ e. apart (answers is) e (λ n. omega arith);
        }

    module _ (some : v.size ≢ 0) where
      by_no_hint : v.has_hint ≡ false → SealedWriterRefuses v out
      by_no_hint none =
          let is = sym (sealed_no_hint v out room some none) in
          record {
            short = (λ e. apart (answers is) (answers e) (λ n. omega arith), λ l. absurd (omega arith));
            zero = (λ e. apart (answers is) (answers e) (λ n. omega arith), λ w. absurd (some w.1));
            no_hint = (λ e. (room, some, none), λ w. is);
            taken = (λ e. apart (answers is) e (λ n. omega arith), λ w. absurd (true≢false (sym w.2 ∙ none)));
            same = λ e. apart (answers is) e (λ n. omega arith);
          }

      by_hint : v.has_hint ≡ true → SealedWriterRefuses v out
      by_hint hint =
          let like = sym (sealed_written v out hint) in
          let is = like ∙ sym (written v out room some refl) in
          record {
            short = (λ e. apart (answers is) (answers e) (λ n. omega arith), λ l. absurd (omega arith));
            zero = (λ e. apart (answers is) (answers e) (λ n. omega arith), λ w. absurd (some w.1));
            no_hint = (λ e. apart (answers is) (answers e) (λ n. omega arith), λ w. absurd (true≢false (sym hint ∙ w.2)));
            taken = (λ e. (room, some, hint), λ w. answers is);
            same = λ e. like;
          }

pub when_sealed_writer_refuses : WhenSealedWriterRefuses
when_sealed_writer_refuses v out = go (dec_lt (length out) 256) (ℕ_discrete v.size 0) v.has_hint refl
  where
    go : Dec (length out < 256) → Dec (v.size ≡ 0) → (b : Bool) → v.has_hint ≡ b → SealedWriterRefuses v out
    go (yes lt) d b x = by_short v out lt
    go (no ge) (yes z) b x = by_zero v out (omega arith) z
    go (no ge) (no s) true x = by_hint v out (omega arith) s x
    go (no ge) (no s) false x = by_no_hint v out (omega arith) s x
