-- Document 01's marked cases 7 to 9. Assumes nothing.
use mathlib.Core.Path.{◌≡◌, refl, sym, ap, ◌∙◌}
use Prim.Native.Nat.{ℕ, ◌+◌, ◌-◌, ◌≤◌}
use mathlib.Core.List.{List, [], ◌∷◌, ◌++◌, append_assoc}
use mathlib.Core.Bool.{Bool, true, false}
use native.Mathlib.Omega.{arith}
use lib.ListN.{length, take, replicate, length-append}
use lib.Seq.{take_all}
use Rattle.numbers.specs.Answer.{gives, refused, then}
use Rattle.header_tags.specs.Walk.{end, item_at, item_from, tags_from, Tags, ended, more, tags_at}
use Rattle.header_tags.specs.Bytes.{little_endian, number, field_bytes}
use Rattle.header_tags.proofs.Found.{tags_of, end_there, field_append}
use Rattle.header_places.specs.Table.{document_table}
use Rattle.header_places.specs.Judging.{judge, row_of, places_in}
use Rattle.header_reader.specs.declared.Header.{Header}
use Rattle.header_reader.specs.Reading.{magic, values_at}
use Rattle.header_reader.proofs.Answers.{by_tags, by_places}
use Rattle.header_writer.specs.Writing.{front, required_fields, hint_fields, header_bytes, write_header}
use Rattle.header_writer.proofs.Putting.{length_required}
use Rattle.header_round_trips.specs.RoundTrips.{Holdable}
use Rattle.header_round_trips.specs.Cases.{HeaderCaseHolds, written, refusing, two_versions, HeaderCases}
use Rattle.header_round_trips.proofs.Numbers.{number_back}
use Rattle.header_round_trips.proofs.Back.{tags_written, write_then_read}

-- case 7: the end stands behind the tags
end_at : (v : Header) (n : ℕ) → 8 + length (field_bytes (required_fields v ++ hint_fields v.has_hint v.hint)) ≡ n
    → item_at (header_bytes v) n ≡ gives end
unfolding header_bytes
end_at v n e =
    let t : List ℕ = field_bytes (required_fields v ++ hint_fields v.has_hint v.hint) in
    let pad : List ℕ = replicate (254 - (8 + length t)) 255 in
    let at : length (front v ++ t) ≡ n = omega arith in
    let same : header_bytes v ≡ front v ++ t ++ 0 ∷ 0 ∷ pad = sym (append_assoc (front v) t (0 ∷ 0 ∷ pad)) in
    ap (λ (l : List ℕ). item_at l n) same ∙ sym (rw at at (end_there (front v ++ t) pad))

pub tags_length : (v : Header) (f : Holdable v) (b : Bool) (n : ℕ) → v.has_hint ≡ b → length (field_bytes (hint_fields b v.hint)) ≡ n
    → 8 + length (field_bytes (required_fields v ++ hint_fields v.has_hint v.hint)) ≡ 138 + n
tags_length v f b n e l =
    let r = length_required v f.digest f.signature in
    let a = ap length (field_append (required_fields v) (hint_fields v.has_hint v.hint)) in
    let c = length-append (field_bytes (required_fields v)) (field_bytes (hint_fields v.has_hint v.hint)) in
    let d : length (field_bytes (hint_fields v.has_hint v.hint)) ≡ n = rw e l in
    omega arith

-- the written header is what stands in the output's first 256 bytes
in_output : (v : Header) → Holdable v → (out : List ℕ) → 256 ≤ length out → {tags : Tags} (n : ℕ) → tags_at (header_bytes v) 8 ≡ tags
    → item_at (header_bytes v) n ≡ gives end
    → ((write_header v out).answer ≡ gives tt)
    × (tags_at (take 256 (write_header v out).bytes) 8 ≡ tags)
    × (item_at (take 256 (write_header v out).bytes) n ≡ gives end)
in_output v f out room n x y =
    let w = write_then_read v f out room in (
      w.taken,
      ap (λ (h : List ℕ). tags_at h 8) w.header ∙ x,
      ap (λ (h : List ℕ). item_at h n) w.header ∙ y,
    )

-- without hint, and with hint; n is the place behind the tags
without_hint_lem : (n : ℕ) → 138 ≡ n
    → HeaderCaseHolds (written false (more 8 0x0001 4 (more 16 0x0002 8 (more 28 0x0003 32 (more 64 0x0020 64 (more 132 0x0030 2 ended))))) n)
unfolding tags_of field_bytes
without_hint_lem n at v f e out room =
    let tags : tags_of 138 (hint_fields v.has_hint v.hint) ≡ ended = rw e in
    in_output v f out room n
    (tags_written v f ∙ ap (λ (t : Tags). more 8 0x0001 4 (more 16 0x0002 8 (more 28 0x0003 32 (more 64 0x0020 64 (more 132 0x0030 2 t))))) tags)
    (end_at v n (tags_length v f false 0 e refl ∙ at))

with_hint : (n : ℕ) → 174 ≡ n
    → HeaderCaseHolds (written true
    (more 8 0x0001 4 (more 16 0x0002 8 (more 28 0x0003 32 (more 64 0x0020 64 (more 132 0x0030 2 (more 138 0x1000 32 ended)))))) n)
unfolding tags_of field_bytes
with_hint n at v f e out room =
    let tags : tags_of 138 (hint_fields v.has_hint v.hint) ≡ more 138 0x1000 32 ended = rw (e, f.hint) in
    let l : length (field_bytes (hint_fields true v.hint)) ≡ 36 = omega (arith, length-append v.hint [], f.hint) in
    in_output v f out room n
    (tags_written v f ∙ ap (λ (t : Tags). more 8 0x0001 4 (more 16 0x0002 8 (more 28 0x0003 32 (more 64 0x0020 64 (more 132 0x0030 2 t))))) tags)
    (end_at v n (tags_length v f true 36 e l ∙ at))

-- cases 8 and 9: the tags are refused, whatever the size
pub refuses : (bytes : List ℕ) (n p : ℕ) → length bytes ≡ 248
    → ((size : ℕ) → places_in document_table (magic ++ (little_endian 4 size ++ bytes)) ≡ refused n p) → HeaderCaseHolds (refusing bytes n p)
refuses bytes n p len tags size some fits =
    let s : List ℕ = magic ++ (little_endian 4 size ++ bytes) in
    let same : take 256 s ≡ s = take_all 256 s (omega arith) in
    by_places s (by_tags s (omega arith) {m = number magic} refl refl {z = size} (sym (number_back 4 size fits)) (omega arith))
    ∙ ap (λ (l : List ℕ). then (places_in document_table l) (λ x. gives (values_at l x))) same
    ∙ ap (λ a. then a (λ x. gives (values_at s x))) (tags size)

no_end : (size : ℕ) → places_in document_table (magic ++ (little_endian 4 size ++ replicate 248 0xFF)) ≡ refused 7 256
unfolding places_in judge row_of tags_from item_from item_at
no_end size = refl

half_tag : (size : ℕ) → places_in document_table (magic ++ (little_endian 4 size ++ (replicate 247 0xFF ++ 0x01 ∷ []))) ≡ refused 4 255
unfolding places_in judge row_of tags_from item_from item_at
half_tag size = refl

wrong_and_repeated : (size : ℕ) → places_in document_table (magic ++ (little_endian 4 size ++ two_versions)) ≡ refused 5 16
unfolding places_in judge row_of tags_from item_from item_at
wrong_and_repeated size = refl

pub header_cases_lem : HeaderCases
header_cases_lem = (
  without_hint_lem _ refl,
  (
    with_hint _ refl,
    (
      refuses (replicate 248 0xFF) 7 256 refl no_end,
      (
        refuses (replicate 247 0xFF ++ 0x01 ∷ []) 4 255 refl half_tag,
        (refuses two_versions 5 16 refl wrong_and_repeated, tt),
      ),
    ),
  ),
)
