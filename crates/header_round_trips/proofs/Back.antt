-- What was written reads back. Assumes nothing.
use mathlib.Core.Path.{◌≡◌, refl, sym, ap, ◌∙◌}
use Prim.Native.Nat.{ℕ, ◌+◌, ◌-◌, ◌%◌, ◌≤◌, ◌<◌}
use mathlib.Core.List.{List, [], ◌∷◌, ◌++◌, append_assoc, append-nil}
use mathlib.Core.Bool.{Bool, true, false, cond, not}
use native.Mathlib.Omega.{arith}
use lib.ListN.{length, take, drop, replicate, length-append, length-drop}
use lib.Seq.{take_at, drop_at, drop-append-add}
use lib.Dec.{lit<, eqb}
use borrow.Author.Tests.{le-ltb, ne_eqb}
use Rattle.numbers.specs.Answer.{gives}
use Rattle.header_tags.specs.Walk.{more, tags_at}
use Rattle.header_tags.specs.Bytes.{little_endian, number, Field, tag_bytes, field_bytes}
use Rattle.header_tags.proofs.Found.{tags_of, Writable, AllWritable, none, one, tags_there, field_append}
use Rattle.header_places.specs.Table.{document_table}
use Rattle.header_places.specs.Judging.{judge, row_of, places_in}
use Rattle.header_reader.specs.declared.Header.{Header}
use Rattle.header_reader.specs.Reading.{magic, bytes_at, tag_places, values_at, read_header}
use Rattle.header_reader.proofs.Answers.{by_tags, by_places}
use Rattle.header_writer.specs.Writing.{front, required_fields, hint_fields, ending, header_bytes, Write, write, write_header}
use Rattle.header_writer.proofs.Putting.{length_required, length_hint, length_header}
use Rattle.header_round_trips.specs.RoundTrips.{Holdable, carried_hint, carried, RoundTrip, WriteThenRead, WritesHeaderLength}
use Rattle.header_round_trips.proofs.Numbers.{number_back}

-- behind a value of n bytes
after_value : (w x : List ℕ) (n k : ℕ) → length w ≡ n → drop (n + k) (w ++ x) ≡ drop k x
after_value w x n k len = rw (← len) (drop-append-add w x k)

-- the places of the tags: that of the hint, or 0
abbrev hint_place : Bool → ℕ
hint_place true = 138
hint_place false = 0

abbrev pub written : Bool → List ℕ
written b = 8 ∷ 16 ∷ 28 ∷ 64 ∷ 132 ∷ hint_place b ∷ []

-- the front and the required tags, and p behind them
module _ (v : Header) (p : List ℕ) (d32 : length v.digest ≡ 32) (s64 : length v.signature ≡ 64) where
  abbrev x₄ : List ℕ
  x₄ = tag_bytes 0x0030 (little_endian 2 v.auth_type) ++ p

  abbrev x₃ : List ℕ
  x₃ = tag_bytes 0x0020 v.signature ++ x₄

  abbrev pub laid : List ℕ
  laid =
      front v
      ++ (tag_bytes 0x0001 (little_endian 4 v.version) ++ (tag_bytes 0x0002 (little_endian 8 v.timestamp) ++ (tag_bytes 0x0003 v.digest ++ x₃)))

  length_laid : length laid ≡ 138 + length p
  length_laid = omega (arith, length-append v.digest x₃, length-append v.signature x₄)

  digest_there : bytes_at laid 32 32 ≡ v.digest
  digest_there = take_at v.digest x₃ 32 d32

  signature_there : bytes_at laid 68 64 ≡ v.signature
  signature_there = ap (take 64) (after_value v.digest x₃ 32 4 d32) ∙ take_at v.signature x₄ 64 s64

  auth_there : bytes_at laid 136 2 ≡ little_endian 2 v.auth_type
  auth_there = ap (take 2) (after_value v.digest x₃ 32 72 d32 ∙ after_value v.signature x₄ 64 4 s64)

  behind_there : drop 142 laid ≡ drop 4 p
  behind_there = after_value v.digest x₃ 32 78 d32 ∙ after_value v.signature x₄ 64 10 s64

-- the hint's value, behind its type and length
hint_behind : (b : Bool) (x q : List ℕ) → b ≡ true → length x ≡ 32 → take 32 (drop 4 (field_bytes (hint_fields b x) ++ q)) ≡ x
unfolding field_bytes
hint_behind true x q e l = ap (λ (y : List ℕ). take 32 (y ++ q)) (append-nil x) ∙ take_at x q 32 l
hint_behind false x q e l = let z : ◌≡◌ {A = ℕ} 0 1 = cc in absurd (omega arith)

regroup : (f a b c d e h p : List ℕ) → f ++ ((a ++ (b ++ (c ++ (d ++ (e ++ [])))) ++ h) ++ p) ≡ f ++ (a ++ (b ++ (c ++ (d ++ (e ++ (h ++ p))))))
regroup f a b c d e h p = simp append_assoc

writable : (t : ℕ) (b : List ℕ) → 0 < t → t < 65536 → t % 256 < 255 → length b < 65536 → Writable (record { type = t; value = b })
writable t b p q r s = record { type_some = p; type_fits = q; type_low = r; value_fits = s }

module _ (v : Header) (f : Holdable v) where
  abbrev hint_bytes : List ℕ
  hint_bytes = field_bytes (hint_fields v.has_hint v.hint)

  abbrev fields : List Field
  fields = required_fields v ++ hint_fields v.has_hint v.hint

  abbrev pub rest : List ℕ
  rest = hint_bytes ++ ending (8 + length (field_bytes fields))

  hint_writable : (b : Bool) → AllWritable (hint_fields b v.hint)
  hint_writable true = one (writable 0x1000 v.hint (lit< tt) (lit< tt) (lit< tt) (omega (arith, f.hint))) none
  hint_writable false = none

  all_writable : AllWritable fields
  all_writable =
      one (writable 0x0001 (little_endian 4 v.version) (lit< tt) (lit< tt) (lit< tt) (lit< tt))
      (one (writable 0x0002 (little_endian 8 v.timestamp) (lit< tt) (lit< tt) (lit< tt) (lit< tt))
      (one (writable 0x0003 v.digest (lit< tt) (lit< tt) (lit< tt) (omega (arith, f.digest)))
      (one (writable 0x0020 v.signature (lit< tt) (lit< tt) (lit< tt) (omega (arith, f.signature)))
      (one (writable 0x0030 (little_endian 2 v.auth_type) (lit< tt) (lit< tt) (lit< tt) (lit< tt)) (hint_writable v.has_hint)))))

  -- the tags of the written header
  pub tags_written : tags_at (header_bytes v) 8
      ≡ more 8 0x0001 4 (more 16 0x0002 8 (more 28 0x0003 32 (more 64 0x0020 64 (more 132 0x0030 2 (tags_of 138 (hint_fields v.has_hint v.hint))))))
  unfolding header_bytes tags_of
  tags_written =
      tags_there (front v) (replicate (254 - (8 + length (field_bytes fields))) 255) all_writable
      ∙ rw (f.digest, f.signature)

  -- what the table makes of them
  judged : (b : Bool) → judge document_table (8 ∷ 16 ∷ 28 ∷ 64 ∷ 132 ∷ 0 ∷ []) (tags_of 138 (hint_fields b v.hint)) ≡ gives (written b)
  unfolding judge row_of tags_of
  judged true = rw f.hint
  judged false = refl

  places_written : places_in document_table (header_bytes v) ≡ gives (written v.has_hint)
  unfolding places_in judge row_of
  places_written = rw tags_written (judged v.has_hint)

  -- the header's bytes, tag by tag
  pub header_laid : header_bytes v ≡ laid v rest f.digest f.signature
  unfolding header_bytes field_bytes
  header_laid =
      ap (λ (t : List ℕ). front v ++ (t ++ ending (8 + length (field_bytes fields)))) (field_append (required_fields v) (hint_fields v.has_hint v.hint))
      ∙ regroup (front v) (tag_bytes 0x0001 (little_endian 4 v.version)) (tag_bytes 0x0002 (little_endian 8 v.timestamp))
      (tag_bytes 0x0003 v.digest) (tag_bytes 0x0020 v.signature) (tag_bytes 0x0030 (little_endian 2 v.auth_type)) hint_bytes
      (ending (8 + length (field_bytes fields)))

  pub header_length : length (header_bytes v) ≡ 256
  header_length =
      length_header v (length_required v f.digest f.signature) (length_hint v.has_hint v.hint f.hint)

  magic_written : number magic ≡ number (bytes_at (header_bytes v) 0 4)
  unfolding header_bytes
  magic_written = refl

  size_written : v.size ≡ number (bytes_at (header_bytes v) 4 4)
  unfolding header_bytes
  size_written = sym (number_back 4 v.size f.size)

  abbrev h : List ℕ
  h = laid v rest f.digest f.signature

  hint_there : (b : Bool) → v.has_hint ≡ b → cond (eqb (hint_place b) 0) (replicate 32 0) (bytes_at h (hint_place b + 4) 32) ≡ carried_hint b v.hint
  hint_there true e =
      ap (take 32) (behind_there v rest f.digest f.signature)
      ∙ hint_behind v.has_hint v.hint (ending (8 + length (field_bytes fields))) e f.hint
  hint_there false e = refl

  values_written : values_at h (written v.has_hint) ≡ carried v
  values_written = λ i. record {
    size = number_back 4 v.size f.size i;
    version = number_back 4 v.version f.version i;
    timestamp = number_back 8 v.timestamp f.timestamp i;
    digest = digest_there v rest f.digest f.signature i;
    signature = signature_there v rest f.digest f.signature i;
    auth_type = (ap number (auth_there v rest f.digest f.signature) ∙ number_back 2 v.auth_type f.auth_type) i;
    has_hint = hinted v.has_hint i;
    hint = hint_there v.has_hint refl i;
  }
    where
      hinted : (b : Bool) → not (eqb (hint_place b) 0) ≡ b
      hinted true = refl
      hinted false = refl

-- the tags of what is written are found at their places, whatever stands behind it
pub places_read : (v : Header) → Holdable v → (rest : List ℕ) → tag_places (header_bytes v ++ rest) ≡ gives (written v.has_hint)
places_read v f rest =
    let w : List ℕ = header_bytes v in
    let same : take 256 (w ++ rest) ≡ w = take_at w rest 256 (header_length v f) in
    let room : 256 ≤ length (w ++ rest) = omega (arith, length-append w rest, header_length v f) in
    by_tags (w ++ rest) room (rw same (magic_written v f)) refl (rw same (size_written v f)) f.some
    ∙ ap (places_in document_table) same ∙ places_written v f

-- and its values read back
pub header_read : (v : Header) → Holdable v → (rest : List ℕ) → read_header (header_bytes v ++ rest) ≡ gives (carried v)
header_read v f rest =
    let w : List ℕ = header_bytes v in
    let same : take 256 (w ++ rest) ≡ w = take_at w rest 256 (header_length v f) in
    by_places (w ++ rest) (places_read v f rest)
    ∙ ap (λ (l : List ℕ). gives (values_at l (written v.has_hint))) (same ∙ header_laid v f)
    ∙ ap gives (values_written v f)

-- the header in front of what stood behind it
round_trip : {w : Write} (v : Header) → Holdable v → (out : List ℕ) → 256 ≤ length out → w ≡ write (gives tt) (header_bytes v ++ drop 256 out)
    → RoundTrip w out v (carried v)
round_trip {w} v f out room is =
    let h : List ℕ = header_bytes v in
    let b : List ℕ = drop 256 out in
    let bytes : w.bytes ≡ h ++ b = ap (λ (x : Write). x.bytes) is in
    let first : take 256 w.bytes ≡ h = ap (take 256) bytes ∙ take_at h b 256 (header_length v f) in
    record {
      taken = ap (λ (x : Write). x.answer) is;
      header = first;
      others = ap (drop 256) bytes ∙ drop_at h b 256 (header_length v f);
      extent = ap length bytes ∙ omega (arith, length-append h b, header_length v f, length-drop 256 out);
      back = ap read_header bytes ∙ header_read v f b;
      alone = λ rest. ap (λ (l : List ℕ). read_header (l ++ rest)) first ∙ header_read v f rest;
    }

pub write_then_read : WriteThenRead
unfolding write_header
write_then_read v f out room = round_trip v f out (omega arith) (simp (le-ltb (length out) 256 (omega arith), ne_eqb v.size 0 f.some))

pub writes_header_length : WritesHeaderLength
writes_header_length v f = header_length v f
