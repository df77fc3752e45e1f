-- The sealed form: the writer's, told by its tags. Assumes nothing.
use mathlib.Core.Path.{◌≡◌, refl, sym, ap, ap₂, subst, ◌∙◌}
use Prim.Native.Nat.{ℕ, ◌+◌, ◌-◌, ◌≤◌, ◌<◌}
use mathlib.Core.List.{List, [], ◌∷◌, ◌++◌, append-nil}
use mathlib.Core.Bool.{true}
use native.Mathlib.Omega.{arith}
use lib.ListN.{length, get_or, take, drop, replicate, length-append, length-drop, length-replicate, get_or-replicate, take-append-drop}
use lib.Seq.{length-take-le, drop-cons, ext_get_or, get_or-take, get_or-drop}
use Rattle.numbers.specs.Answer.{gives}
use Rattle.header_tags.specs.Bytes.{AllBytes, little_endian, number, tag_bytes, field_bytes}
use Rattle.header_tags.specs.Walk.{tags_at}
use Rattle.header_tags.proofs.Found.{tags_of}
use Rattle.header_tags.proofs.Standing.{begins}
use Rattle.header_places.specs.Table.{document_table}
use Rattle.header_places.specs.Judging.{judge, row_of, places_in}
use Rattle.header_reader.specs.declared.Header.{Header}
use Rattle.header_reader.specs.Reading.{bytes_at, values_at, read_header}
use Rattle.header_reader.specs.Refusing.{HasMagic, HasSizeZero}
use Rattle.header_reader.proofs.BytesAt.{part_bytes}
use Rattle.header_reader.proofs.Answers.{by_tags, by_places}
use Rattle.header_reader.proofs.Refusing.{magic_there, has_zero}
use Rattle.header_writer.specs.Writing.{front, hint_fields, header_bytes, Write, write_header}
use Rattle.header_writer.specs.Filled.{end_place, EndsFilled}
use Rattle.header_writer.proofs.Filled.{fills_to_256}
use Rattle.header_writer.proofs.Putting.{written}
use Rattle.header_round_trips.specs.RoundTrips.{Holdable}
use Rattle.header_round_trips.proofs.Back.{laid, rest, header_laid, tags_written, write_then_read}
use Rattle.header_round_trips.proofs.Marked.{tags_length}
use Rattle.header_round_trips.proofs.Again.{read_is_holdable}
use Rattle.header_sealed.specs.Profile.{read_sealed}
use Rattle.header_sealed.proofs.Answers.{whole}
use Rattle.header_sealed_claims.specs.Claims.{six_tags, SealedForm, TakesTheSealedForm}
use Rattle.header_sealed_claims.proofs.Sealing.{sealed_form, sealed_when, reader_gave}
use Rattle.header_sealed_claims.proofs.Parts.{tag_there, number_there, front_there}

-- ---- what the writer leaves has the form

module _ (v : Header) (f : Holdable v) (hint : v.has_hint ≡ true) (out : List ℕ) (room : 256 ≤ length out) where
  abbrev b : List ℕ
  b = header_bytes v ++ drop 256 out

  left : (write_header v out).bytes ≡ b
  left = ap (λ (w : Write). w.bytes) (sym (written v out room f.some refl))

  has_magic : HasMagic b
  unfolding header_bytes
  has_magic = (refl, refl, refl, refl)

  has_size : HasSizeZero b → ⊥
  unfolding header_bytes
  has_size z = f.some (omega (arith, z.0, z.1, z.2, z.3, f.size))

  six : tags_at (header_bytes v) 8 ≡ six_tags
  unfolding tags_of
  six =
      tags_written v f
      ∙ rw (hint, f.hint) refl

  pub written_form : SealedForm (write_header v out).bytes
  written_form =
      let w = write_then_read v f out room in
      let e = fills_to_256 v f.some f.digest f.signature f.hint out room in
      let g : EndsFilled (write_header v out).bytes 174 = subst (EndsFilled (write_header v out).bytes) (ap end_place hint) e in
      record {
        room = omega (arith, w.extent);
        magic = subst HasMagic (sym left) has_magic;
        some = λ z. has_size (subst HasSizeZero left z);
        tags = ap (λ (l : List ℕ). tags_at l 8) w.header ∙ six;
        end = (g.low, g.high);
        filled = λ i a b. g.filled i (omega arith) b;
      }

-- ---- what has the form is what the writer makes of its values

module _ (s : List ℕ) (bytes : AllBytes s) (form : SealedForm s) where
  abbrev h : List ℕ
  h = take 256 s

  h_bytes : AllBytes h
  h_bytes = part_bytes s bytes 0 256

  long : length h ≡ 256
  long = length-take-le 256 s form.room

  abbrev places : List ℕ
  places = 8 ∷ 16 ∷ 28 ∷ 64 ∷ 132 ∷ 138 ∷ []

  abbrev values : Header
  values = values_at h places

  found : places_in document_table h ≡ gives places
  unfolding places_in judge row_of
  found = rw form.tags refl

  pub read : read_header s ≡ gives values
  read =
      by_places s
      (by_tags s form.room {m = number (bytes_at h 0 4)} refl (magic_there s bytes form.room form.magic)
      {z = number (bytes_at h 4 4)} refl (λ z. form.some (has_zero s bytes form.room z))
      ∙ found)

  held : Holdable values
  held = read_is_holdable s bytes values read

  -- the end, and the padding behind it
  byte : (i : ℕ) → i < 256 → get_or h i 0 ≡ get_or s i 0
  byte i lt = get_or-take 256 s i 0 lt

  padding : drop 176 h ≡ replicate 80 0xFF
  padding =
      let n : length (drop 176 h) ≡ 80 = omega (arith, length-drop 176 h, long) in
      ext_get_or 0 (drop 176 h) (replicate 80 0xFF) (n ∙ sym (length-replicate {A = ℕ} 80 0xFF))
      (λ i lt. get_or-drop 176 h i 0 ∙ byte (176 + i) (omega arith) ∙ form.filled (176 + i) (omega arith) (omega arith)
      ∙ sym (get_or-replicate 80 i 0xFF 0 (omega arith)))

  ends : drop 174 h ≡ 0 ∷ 0 ∷ replicate 80 0xFF
  ends =
      drop-cons h 174 0 (omega (arith, long))
      ∙ ap₂ (λ (x : ℕ) (l : List ℕ). x ∷ l) (byte 174 (omega arith) ∙ form.end.0)
      (drop-cons h 175 0 (omega (arith, long)) ∙ ap₂ (λ (x : ℕ) (l : List ℕ). x ∷ l) (byte 175 (omega arith) ∙ form.end.1) padding)

  -- the hint's tag and the end are what the writer puts behind the required tags
  behind : tag_bytes 0x1000 values.hint ++ 0 ∷ 0 ∷ replicate 80 0xFF ≡ rest values held
  unfolding field_bytes
  behind =
      let x : List ℕ = tag_bytes 0x1000 values.hint in
      let l : length (field_bytes (hint_fields true values.hint)) ≡ 36 = omega (arith, length-append values.hint [], held.hint) in
      let n = tags_length values held true 36 refl l in
      ap₂ (λ (a : List ℕ) (k : ℕ). a ++ 0 ∷ 0 ∷ replicate (254 - k) 0xFF) (sym (append-nil x)) (sym n)

  whole_form : h ≡ laid values (rest values held) held.digest held.signature
  whole_form =
      let b₁ = begins h 8 form.tags in
      let b₂ = begins h 16 b₁.behind in
      let b₃ = begins h 28 b₂.behind in
      let b₄ = begins h 64 b₃.behind in
      let b₅ = begins h 132 b₄.behind in
      let b₆ = begins h 138 b₅.behind in
      front_there s bytes values read
      ∙ ap (λ (l : List ℕ). front values ++ l)
      (number_there h h_bytes 8 b₁.stands refl ∙ ap (λ (l : List ℕ). tag_bytes 0x0001 (little_endian 4 values.version) ++ l)
      (number_there h h_bytes 16 b₂.stands refl ∙ ap (λ (l : List ℕ). tag_bytes 0x0002 (little_endian 8 values.timestamp) ++ l)
      (tag_there h h_bytes 28 b₃.stands refl ∙ ap (λ (l : List ℕ). tag_bytes 0x0003 values.digest ++ l)
      (tag_there h h_bytes 64 b₄.stands refl ∙ ap (λ (l : List ℕ). tag_bytes 0x0020 values.signature ++ l)
      (number_there h h_bytes 132 b₅.stands refl ∙ ap (λ (l : List ℕ). tag_bytes 0x0030 (little_endian 2 values.auth_type) ++ l)
      (tag_there h h_bytes 138 b₆.stands refl ∙ ap (λ (l : List ℕ). tag_bytes 0x1000 values.hint ++ l) ends ∙ behind))))))

  pub taken : read_sealed s ≡ gives values
  taken = sealed_when s values read refl (whole_form ∙ sym (header_laid values held))

pub takes_the_sealed_form : TakesTheSealedForm
takes_the_sealed_form s bytes = (λ g. has s bytes g.0 g.1, λ form. (values s bytes form, taken s bytes form))
  where
    has : (s : List ℕ) → AllBytes s → (v : Header) → read_sealed s ≡ gives v → SealedForm s
    has s bytes v e =
        let r = reader_gave s v e in
        let w = sealed_form s bytes v r e in
        let f = read_is_holdable s bytes v r in
        let room = (whole s v r).room in
        let same : (write_header v s).bytes ≡ s =
        left v f w.0 s room ∙ ap (λ (l : List ℕ). l ++ drop 256 s) (sym w.1) ∙ take-append-drop 256 s in
        subst SealedForm same (written_form v f w.0 s room)
