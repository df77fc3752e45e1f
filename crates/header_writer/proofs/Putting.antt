-- A header written part by part. Assumes nothing.
use mathlib.Core.Path.{◌≡◌, refl, sym, ap, ◌∙◌}
use Prim.Native.Nat.{ℕ, zero, suc, ◌+◌, ◌-◌, ◌/◌, ◌%◌, ◌^◌, ◌≤◌, ◌<◌}
use mathlib.Core.List.{List, [], ◌∷◌, ◌++◌, append_assoc, append-nil}
use native.Mathlib.Omega.{arith}
use Rattle.std.proofs.Math.Nat.{pow-suc, div-div-eq-div-mul}
use Rattle.std.specs.Int.{w16, w32, w64, bytes_low_first, to_le_bytes}
use lib.ListN.{length, take, drop, replicate, length-append, length-drop, length-replicate}
use lib.Seq.{length-take-le}
use borrow.Rule.Slice.PartMut.{put_mid}
use borrow.Author.Tests.{lt-ltb, le-ltb, eq-eqb, ne_eqb}
use Rattle.output.specs.Puts.{Puts}
use Rattle.output.proofs.Laws.{puts_then, puts_none, puts_as, puts_length, puts_copied, puts_whole}
use Rattle.numbers.specs.Answer.{gives, refused}
use mathlib.Core.Bool.{Bool, true, false}
use Rattle.header_tags.specs.Bytes.{little_endian, tag_bytes, field_bytes}
use Rattle.header_tags.proofs.Found.{field_append}
use Rattle.header_reader.specs.declared.Header.{Header}
use Rattle.header_writer.specs.Writing.{front, required_fields, hint_fields, ending, header_bytes, write, write_header}

-- a number's bytes by the library, from the byte i + 1 on and whole
low_from : (k i n : ℕ) → bytes_low_first (suc i) k n ≡ little_endian k (n / 256 ^ suc i)
low_from zero i n = refl
low_from (suc k) i n =
    let next : n / 256 ^ suc (suc i) ≡ n / 256 ^ suc i / 256 = ap (λ (m : ℕ). n / m) (pow-suc 256 (suc i)) ∙ sym (div-div-eq-div-mul n (256 ^ suc i) 256) in
    ap (λ (l : List ℕ). n / 256 ^ suc i % 256 ∷ l) (low_from k (suc i) n ∙ ap (little_endian k) next)

low_first : (k n : ℕ) → bytes_low_first 0 k n ≡ little_endian k n
low_first zero n = refl
low_first (suc k) n = ap (λ (l : List ℕ). n % 256 ∷ l) (low_from k 0 n)

-- a tag, in three parts
pub puts_tag : {d d₁ d₂ d₃ x y b : List ℕ} {p p₁ p₂ p₃ : ℕ} (t : ℕ) → x ≡ little_endian 2 t → y ≡ little_endian 2 (length b)
    → Puts d d₁ p x p₁ → Puts d₁ d₂ p₁ y p₂ → Puts d₂ d₃ p₂ b p₃ → Puts d d₃ p (tag_bytes t b) p₃
puts_tag {b = b} t ex ey a c e =
    puts_as (puts_then (puts_then (puts_as a ex) (puts_as c ey)) e) (append_assoc (little_endian 2 t) (little_endian 2 (length b)) b)

-- the end, and the padding y behind it, over what is left of the 256 bytes
pub puts_end : {d d₁ y : List ℕ} {p p₁ : ℕ} → p + 2 ≤ 256 → 256 ≤ length d → Puts d d₁ p (0 ∷ 0 ∷ []) p₁
    → y ≡ replicate (length (take (256 - p₁) (drop p₁ d₁))) 0xFF → Puts d (put_mid p₁ (256 - p₁) d₁ y) p (ending p) 256
puts_end {d} {d₁} {y} {p} {p₁} le room x is =
    let long = puts_length x in
    let left : length (take (256 - p₁) (drop p₁ d₁)) ≡ 254 - p = length-take-le (256 - p₁) (drop p₁ d₁) (omega (arith, x.behind, length-drop p₁ d₁)) ∙ omega (arith, x.behind) in
    let n = length-replicate {A = ℕ} (254 - p) 0xFF in
    puts_then x (puts_copied d₁ (replicate (254 - p) 0xFF) y p₁ (256 - p₁) 256 (omega (arith, x.behind)) (omega (arith, x.behind)) (omega (arith, x.behind)) (is ∙ ap (λ (k : ℕ). replicate k 0xFF) left))

-- the five required tags, one behind another
pub puts_required : {d d₁ d₂ d₃ d₄ d₅ a t u w₁ w₂ w₃ w₄ w₅ : List ℕ} {p p₁ p₂ p₃ p₄ p₅ : ℕ} (v : Header)
    → a ≡ to_le_bytes w32 v.version → t ≡ to_le_bytes w64 v.timestamp → u ≡ to_le_bytes w16 v.auth_type
    → Puts d d₁ p w₁ p₁ → Puts d₁ d₂ p₁ w₂ p₂ → Puts d₂ d₃ p₂ w₃ p₃ → Puts d₃ d₄ p₃ w₄ p₄ → Puts d₄ d₅ p₄ w₅ p₅
    → w₁ ≡ tag_bytes 0x0001 a → w₂ ≡ tag_bytes 0x0002 t → w₃ ≡ tag_bytes 0x0003 v.digest → w₄ ≡ tag_bytes 0x0020 v.signature
    → w₅ ≡ tag_bytes 0x0030 u → Puts d d₅ p (field_bytes (required_fields v)) p₅
unfolding field_bytes
puts_required v ea et eu x₁ x₂ x₃ x₄ x₅ e₁ e₂ e₃ e₄ e₅ =
    puts_as
    (puts_then (puts_as x₁ (e₁ ∙ ap (tag_bytes 0x0001) (ea ∙ low_first 4 v.version)))
    (puts_then (puts_as x₂ (e₂ ∙ ap (tag_bytes 0x0002) (et ∙ low_first 8 v.timestamp)))
    (puts_then (puts_as x₃ e₃) (puts_then (puts_as x₄ e₄) (puts_as x₅ (e₅ ∙ ap (tag_bytes 0x0030) (eu ∙ low_first 2 v.auth_type)))))))
    (ap (λ (l : List ℕ). tag_bytes 0x0001 (little_endian 4 v.version) ++ (tag_bytes 0x0002 (little_endian 8 v.timestamp) ++ (tag_bytes 0x0003 v.digest ++ (tag_bytes 0x0020 v.signature ++ l))))
    (sym (append-nil (tag_bytes 0x0030 (little_endian 2 v.auth_type)))))

-- the hint's tag, or none
pub puts_hint : {d e : List ℕ} {p q : ℕ} {b : Bool} (h : List ℕ) → b ≡ true → Puts d e p (tag_bytes 0x1000 h) q
    → Puts d e p (field_bytes (hint_fields b h)) q
unfolding field_bytes
puts_hint h on x = rw on (puts_as x (sym (append-nil (tag_bytes 0x1000 h))))

pub puts_no_hint : {d : List ℕ} {p : ℕ} {b : Bool} (h : List ℕ) → b ≡ false → Puts d d p (field_bytes (hint_fields b h)) p
unfolding field_bytes
puts_no_hint h off = rw off puts_none

-- how long the tags are
pub length_required : (v : Header) → length v.digest ≡ 32 → length v.signature ≡ 64 → length (field_bytes (required_fields v)) ≡ 130
unfolding field_bytes
length_required v d32 s64 = simp length-append (omega arith)

pub length_hint : (b : Bool) (h : List ℕ) → length h ≡ 32 → length (field_bytes (hint_fields b h)) ≤ 36
unfolding field_bytes
length_hint true h h32 = simp length-append (omega arith)
length_hint false h h32 = omega arith

-- the written header is as long as a header
pub length_header : (v : Header) → length (field_bytes (required_fields v)) ≡ 130 → length (field_bytes (hint_fields v.has_hint v.hint)) ≤ 36
    → length (header_bytes v) ≡ 256
unfolding header_bytes
length_header v required optional =
    let a : List ℕ = field_bytes (required_fields v) in
    let b : List ℕ = field_bytes (hint_fields v.has_hint v.hint) in
    let t : List ℕ = field_bytes (required_fields v ++ hint_fields v.has_hint v.hint) in
    let split : length t ≡ length a + length b =
    ap length (field_append (required_fields v) (hint_fields v.has_hint v.hint)) ∙ length-append a b in
    omega (arith, length-append t (ending (8 + length t)), length-replicate {A = ℕ} (254 - (8 + length t)) 255)

-- the whole header, from a buffer's start
pub puts_header : {d d₁ d₂ d₃ d₄ : List ℕ} {p₁ p₂ p₃ p₄ : ℕ} (v : Header) → 256 ≤ length d → length (field_bytes (required_fields v)) ≡ 130
    → length (field_bytes (hint_fields v.has_hint v.hint)) ≤ 36 → Puts d d₁ 0 (front v) p₁
    → Puts d₁ d₂ p₁ (field_bytes (required_fields v)) p₂ → Puts d₂ d₃ p₂ (field_bytes (hint_fields v.has_hint v.hint)) p₃
    → Puts d₃ d₄ p₃ (ending p₃) p₄ → d₄ ≡ header_bytes v ++ drop 256 d
unfolding header_bytes
puts_header {d} {d₄ = d₄} {p₃ = p₃} {p₄ = p₄} v room required optional x₁ x₂ x₃ x₄ =
    let a : List ℕ = field_bytes (required_fields v) in
    let b : List ℕ = field_bytes (hint_fields v.has_hint v.hint) in
    let t : List ℕ = field_bytes (required_fields v ++ hint_fields v.has_hint v.hint) in
    let split : t ≡ a ++ b = field_append (required_fields v) (hint_fields v.has_hint v.hint) in
    let place : p₃ ≡ 8 + length t = rw split (omega (arith, x₁.behind, x₂.behind, x₃.behind, length-append a b)) in
    let whole : Puts d d₄ 0 (header_bytes v) p₄ =
    puts_as (puts_then x₁ (puts_then (puts_then x₂ x₃) x₄))
    (ap (λ (l : List ℕ). front v ++ (l ++ ending p₃)) (sym split) ∙ ap (λ (k : ℕ). front v ++ (t ++ ending k)) place) in
    let l : length (header_bytes v) ≡ 256 = length_header v required optional in
    puts_whole whole (omega arith) ∙ ap (λ (k : ℕ). header_bytes v ++ drop k d) l

-- what the writer answers, by the tests on the way
module _ (v : Header) (out : List ℕ) where
  pub too_short : length out < 256 → write (refused 16 0) out ≡ write_header v out
  unfolding write_header
  too_short a = simp (lt-ltb _ _ a)

  pub zero_size : 256 ≤ length out → v.size ≡ 0 → write (refused 3 4) out ≡ write_header v out
  unfolding write_header
  zero_size a b = simp (le-ltb _ _ a, eq-eqb _ _ b)

  pub written : {e : List ℕ} → 256 ≤ length out → (v.size ≡ 0 → ⊥) → e ≡ header_bytes v ++ drop 256 out → write (gives tt) e ≡ write_header v out
  unfolding write_header
  written a b p = rw p (simp (le-ltb _ _ a, ne_eqb _ _ b))
