-- What was read can be written, and reads back. Assumes nothing.
use mathlib.Core.Path.{◌≡◌, refl}
use Prim.Native.Nat.{ℕ, ◌+◌, ◌≤◌}
use mathlib.Core.List.{List}
use mathlib.Core.Bool.{Bool, true, false, cond, not}
use native.Mathlib.Omega.{arith}
use lib.ListN.{length, get_or, take, replicate}
use lib.Seq.{length-take-le}
use lib.Dec.{eqb, lit<}
use Rattle.numbers.specs.Answer.{gives}
use Rattle.header_tags.specs.Bytes.{AllBytes, number}
use Rattle.header_places.specs.Table.{document_table}
use Rattle.header_places.specs.Judging.{places_in}
use Rattle.header_places.proofs.Fitting.{found_within}
use Rattle.header_reader.specs.declared.Header.{Header}
use Rattle.header_reader.specs.Reading.{bytes_at, values_at, read_header}
use Rattle.header_reader.proofs.BytesAt.{length_part, part_bytes, part_below}
use Rattle.header_reader.proofs.Answers.{located, places_taken}
use Rattle.header_writer.specs.Writing.{write_header}
use Rattle.header_round_trips.specs.RoundTrips.{Holdable, carried_hint, carried, RoundTrip, ReadIsHoldable, ReadWriteRead}
use Rattle.header_round_trips.proofs.Back.{write_then_read}

hint_length : (h : List ℕ) (p : ℕ) (b : Bool) → p + 4 + 32 ≤ length h → length (cond b (replicate 32 0) (bytes_at h (p + 4) 32)) ≡ 32
hint_length h p true fits = refl
hint_length h p false fits = length_part h (p + 4) 32 fits

hint_carried : (b : Bool) (x : List ℕ) → carried_hint (not b) (cond b (replicate 32 0) x) ≡ cond b (replicate 32 0) x
hint_carried true x = refl
hint_carried false x = refl

module _ (s : List ℕ) (bytes : AllBytes s) where
  abbrev h : List ℕ
  h = take 256 s

  all_bytes : AllBytes h
  all_bytes = part_bytes s bytes 0 256

  holdable : (l : List ℕ) → 256 ≤ length s → (number (bytes_at h 4 4) ≡ 0 → ⊥) → places_in document_table h ≡ gives l → Holdable (values_at h l)
  holdable l room some found =
      let len : length h ≡ 256 = length-take-le 256 s room in
      let w = found_within h l (omega arith) found in
      record {
        some = some;
        size = part_below h all_bytes 4 4 (omega arith);
        version = part_below h all_bytes (get_or l 0 0 + 4) 4 (w.fits 0 (lit< tt));
        timestamp = part_below h all_bytes (get_or l 1 0 + 4) 8 (w.fits 1 (lit< tt));
        auth_type = part_below h all_bytes (get_or l 4 0 + 4) 2 (w.fits 4 (lit< tt));
        digest = length_part h (get_or l 2 0 + 4) 32 (w.fits 2 (lit< tt));
        signature = length_part h (get_or l 3 0 + 4) 64 (w.fits 3 (lit< tt));
        hint = hint_length h (get_or l 5 0) (eqb (get_or l 5 0) 0) (w.fits 5 (lit< tt));
      }

  -- a header that was read carries what it holds
  carries : (l : List ℕ) → carried (values_at h l) ≡ values_at h l
  carries l = λ i. record {
    size = (values_at h l).size;
    version = (values_at h l).version;
    timestamp = (values_at h l).timestamp;
    digest = (values_at h l).digest;
    signature = (values_at h l).signature;
    auth_type = (values_at h l).auth_type;
    has_hint = (values_at h l).has_hint;
    hint = hint_carried (eqb (get_or l 5 0) 0) (bytes_at h (get_or l 5 0 + 4) 32) i;
  }

  -- what was read can be held, and carries what it holds
  held : (v : Header) → read_header s ≡ gives v → Holdable v
  held v e =
      let t = places_taken s v e in
      let w = located s t.places t.found in
      rw t.is (holdable t.places w.room w.some w.found)

  same_again : (v : Header) → read_header s ≡ gives v → carried v ≡ v
  same_again v e =
      let t = places_taken s v e in
      rw t.is (carries t.places)

pub read_is_holdable : ReadIsHoldable
read_is_holdable s bytes v e = held s bytes v e

pub read_write_read : ReadWriteRead
read_write_read s bytes v e out room =
    let trip : RoundTrip (write_header v out) out v (carried v) = write_then_read v (held s bytes v e) out room in
    rw (same_again s bytes v e) at trip
