-- The end of a written header, and FF behind it. Assumes nothing.
use mathlib.Core.Path.{◌≡◌, refl, sym, ap, ◌∙◌}
use mathlib.Core.Logic.{◌≢◌}
use Prim.Native.Nat.{ℕ, ◌+◌, ◌-◌, ◌≤◌, ◌<◌}
use mathlib.Core.List.{List, [], ◌∷◌, ◌++◌, append_assoc}
use mathlib.Core.Bool.{Bool, true, false}
use native.Mathlib.Omega.{arith}
use lib.ListN.{length, get_or, drop, replicate, length-append, get_or-replicate, get_or-append}
use lib.Seq.{get_or-append-add}
use Rattle.header_tags.specs.Bytes.{field_bytes}
use Rattle.header_tags.proofs.Found.{field_append}
use Rattle.header_reader.specs.declared.Header.{Header}
use Rattle.header_writer.specs.Writing.{front, required_fields, hint_fields, header_bytes, Write, write_header}
use Rattle.header_writer.specs.Filled.{end_place, FillsTo256}
use Rattle.header_writer.proofs.Putting.{length_required, length_hint, length_header, written}

length_of_hint : (b : Bool) (h : List ℕ) → length h ≡ 32 → 138 + length (field_bytes (hint_fields b h)) ≡ end_place b
unfolding field_bytes
length_of_hint true h e = omega (arith, length-append h [])
length_of_hint false h e = refl

module _ (v : Header) (d32 : length v.digest ≡ 32) (s64 : length v.signature ≡ 64) (h32 : length v.hint ≡ 32) where
  abbrev tags : List ℕ
  tags = field_bytes (required_fields v ++ hint_fields v.has_hint v.hint)

  abbrev pre : List ℕ
  pre = front v ++ tags

  abbrev padding : List ℕ
  padding = replicate (254 - (8 + length tags)) 0xFF

  before : length pre ≡ end_place v.has_hint
  before =
      let a = ap length (field_append (required_fields v) (hint_fields v.has_hint v.hint)) in
      let c = length-append (field_bytes (required_fields v)) (field_bytes (hint_fields v.has_hint v.hint)) in
      let r = length_required v d32 s64 in
      let k = length_of_hint v.has_hint v.hint h32 in
      omega arith

  laid : header_bytes v ≡ pre ++ 0 ∷ 0 ∷ padding
  unfolding header_bytes
  laid = sym (append_assoc (front v) tags (0 ∷ 0 ∷ padding))

  behind : (k d : ℕ) → get_or (header_bytes v) (end_place v.has_hint + k) d ≡ get_or (0 ∷ 0 ∷ padding) k d
  behind k d =
      ap (λ (l : List ℕ). get_or l (end_place v.has_hint + k) d) laid
      ∙ ap (λ (n : ℕ). get_or (pre ++ 0 ∷ 0 ∷ padding) (n + k) d) (sym before)
      ∙ get_or-append-add pre (0 ∷ 0 ∷ padding) k d

  filled : (i : ℕ) → end_place v.has_hint + 2 ≤ i → i < 256 → get_or (header_bytes v) i 0 ≡ 0xFF
  filled i a b =
      let n : ℕ = end_place v.has_hint in
      let k : ℕ = i - (n + 2) in
      let e : i ≡ n + (2 + k) = omega arith in
      let few : k < 254 - (8 + length tags) = omega (arith, before) in
      ap (λ (j : ℕ). get_or (header_bytes v) j 0) e
      ∙ behind (2 + k) 0
      ∙ get_or-append-add (0 ∷ 0 ∷ []) padding k 0
      ∙ get_or-replicate (254 - (8 + length tags)) k 0xFF 0 few

  whole : length (header_bytes v) ≡ 256
  whole = length_header v (length_required v d32 s64) (length_hint v.has_hint v.hint h32)

  in_output : v.size ≢ 0 → (out : List ℕ) → 256 ≤ length out → (i : ℕ) → i < 256 → get_or (write_header v out).bytes i 0 ≡ get_or (header_bytes v) i 0
  in_output some out room i lt =
      ap (λ (w : Write). get_or w.bytes i 0) (sym (written v out room some refl))
      ∙ get_or-append (header_bytes v) (drop 256 out) 0 i (omega (arith, whole))

  place_small : end_place v.has_hint + 2 ≤ 176
  place_small = go v.has_hint
    where
      go : (b : Bool) → end_place b + 2 ≤ 176
      go true = omega arith
      go false = omega arith

pub fills_to_256 : FillsTo256
fills_to_256 v some d32 s64 h32 out room =
    let n : ℕ = end_place v.has_hint in
    let s = place_small v d32 s64 h32 in
    let o = in_output v d32 s64 h32 some out room in
    let z : n ≡ n + 0 = omega arith in
    record {
      low = o n (omega arith) ∙ ap (λ (j : ℕ). get_or (header_bytes v) j 0) z ∙ behind v d32 s64 h32 0 0;
      high = o (n + 1) (omega arith) ∙ behind v d32 s64 h32 1 0;
      filled = λ i a b. o i b ∙ filled v d32 s64 h32 i a b;
    }
