-- When the writer refuses, and that the premises can be met. Assumes nothing.
use mathlib.Core.Path.{◌≡◌, refl, sym, ap}
use Prim.Native.Nat.{ℕ, ◌≤◌, ◌<◌}
use mathlib.Core.List.{List, [], ◌++◌, append-nil}
use mathlib.Core.Bool.{Bool, true, false}
use native.Mathlib.Omega.{arith}
use native.Mathlib.Decide.{dec_lt, ℕ_discrete}
use lib.ListN.{length, drop}
use lib.Dec.{lit<}
use Rattle.numbers.specs.Answer.{gives, refused}
use Rattle.numbers.proofs.Refusals.{apart}
use Rattle.header_tags.specs.Bytes.{field_bytes}
use Rattle.header_tags.proofs.Tested.{byte_test, tested_bytes}
use Rattle.header_reader.specs.declared.Header.{Header}
use Rattle.header_reader.specs.Reading.{read_header}
use Rattle.header_writer.specs.Writing.{header_bytes, Write, write, write_header}
use Rattle.header_writer.proofs.Putting.{too_short, zero_size, written}
use Rattle.header_round_trips.specs.RoundTrips.{Holdable, WriterRefuses, WhenWriterRefuses, example, PremisesMet}
use Rattle.header_round_trips.proofs.Back.{header_read}

-- the three cases: each has its answer, and the others not
module _ (v : Header) (out : List ℕ) where
  by_short : length out < 256 → WriterRefuses v out
  by_short lt =
      let is : write_header v out ≡ write (refused 16 0) out = sym (too_short v out lt) in
      let told : (write_header v out).answer ≡ refused 16 0 = ap (λ (w : Write). w.answer) is in
      record {
        short = (λ e. omega arith, λ l. is);
        zero = (λ e. apart told (ap (λ (w : Write). w.answer) e) (λ n. omega arith), λ w. absurd (omega (arith, w.0)));
        taken = (λ e. apart told e (λ n. omega arith), λ w. absurd (omega (arith, w.0)));
      }

  by_zero : 256 ≤ length out → v.size ≡ 0 → WriterRefuses v out
  by_zero room none =
      let is : write_header v out ≡ write (refused 3 4) out = sym (zero_size v out room none) in
      let told : (write_header v out).answer ≡ refused 3 4 = ap (λ (w : Write). w.answer) is in
      record {
        short = (λ e. apart told (ap (λ (w : Write). w.answer) e) (λ n. omega arith), λ l. absurd (omega arith));
        zero = (λ e. (room, none), λ w. is);
        taken = (λ e. apart told e (λ n. omega arith), λ w. absurd (w.1 none));
      }

  by_some : 256 ≤ length out → (v.size ≡ 0 → ⊥) → WriterRefuses v out
  by_some room some =
      let is : write_header v out ≡ write (gives tt) (header_bytes v ++ drop 256 out) = sym (written v out room some refl) in
      let told : (write_header v out).answer ≡ gives tt = ap (λ (w : Write). w.answer) is in
      record {
        short = (λ e. apart told (ap (λ (w : Write). w.answer) e) (λ n. omega arith), λ l. absurd (omega arith));
        zero = (λ e. apart told (ap (λ (w : Write). w.answer) e) (λ n. omega arith), λ w. absurd (some w.1));
        taken = (λ e. (room, some), λ w. told);
      }

pub when_writer_refuses : WhenWriterRefuses
when_writer_refuses v out = go (dec_lt (length out) 256) (ℕ_discrete v.size 0)
  where
    go : Dec (length out < 256) → Dec (v.size ≡ 0) → WriterRefuses v out
    go (yes lt) d = by_short v out lt
    go (no ge) (yes z) = by_zero v out (omega arith) z
    go (no ge) (no s) = by_some v out (omega arith) s

example_holdable : (hint : Bool) → Holdable (example hint)
example_holdable hint =
    record {
      some = λ e. absurd (omega arith);
      size = lit< tt;
      version = lit< tt;
      timestamp = lit< tt;
      auth_type = lit< tt;
      digest = refl;
      signature = refl;
      hint = refl;
    }

example_bytes : (hint : Bool) → byte_test (header_bytes (example hint)) ≡ true
unfolding header_bytes field_bytes
example_bytes true = refl
example_bytes false = refl

example_carried : (hint : Bool) → read_header (header_bytes (example hint)) ≡ gives (example hint)
example_carried true = rw (append-nil (header_bytes (example true))) at (header_read (example true) (example_holdable true) [])
example_carried false = rw (append-nil (header_bytes (example false))) at (header_read (example false) (example_holdable false) [])

pub premises_met : PremisesMet
premises_met hint =
    record {
      holdable = example_holdable hint;
      bytes = tested_bytes (header_bytes (example hint)) (example_bytes hint);
      accepted = example_carried hint;
    }
