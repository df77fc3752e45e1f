-- Tags that were written are found again: over any list of tags, at any place of any header. Assumes nothing.
use mathlib.Core.Path.{◌≡◌, refl, sym, ap, subst, ◌∙◌}
use Prim.Native.Nat.{ℕ, ◌+◌, ◌/◌, ◌%◌, ◌<◌}
use mathlib.Core.List.{List, [], ◌∷◌, ◌++◌, append_assoc}
use native.Mathlib.Omega.{arith}
use lib.ListN.{length, get_or, length-append}
use lib.Seq.{get_or-append-add, get_or-append_seam}
use Rattle.numbers.specs.Answer.{Answer, gives}
use Rattle.header_tags.specs.Walk.{type_at, length_at, Item, tag, end, item_at, next_item, Tags, ended as no_more, more, on_item, tags_at}
use Rattle.header_tags.specs.Bytes.{Field, tag_bytes, field_bytes}
use Rattle.header_tags.proofs.Laws.{the_end, found, next_item_lem, tags_step}

-- the tags that a walk finds where fields were written from p on, and ended
unfoldable pub tags_of : ℕ → List Field → Tags
tags_of p [] = no_more
tags_of p (f ∷ l) = more p f.type (length f.value) (tags_of (p + 4 + length f.value) l)

-- a type and a value that can be written: the type is not the end's, and its low byte is no padding
pub record Writable (f : Field) : Type 0 where
  pub type_some : 0 < f.type
  pub type_fits : f.type < 65536
  pub type_low : f.type % 256 < 255
  pub value_fits : length f.value < 65536

module _ (pre rest : List ℕ) (f : Field) (good : Writable f) where
  abbrev h : List ℕ
  h = pre ++ (tag_bytes f.type f.value ++ rest)

  abbrev tail : List ℕ
  tail = tag_bytes f.type f.value ++ rest

  byte_0 : get_or h (length pre) 0 ≡ f.type % 256
  byte_0 = get_or-append_seam pre _ _ 0

  type_there : type_at h (length pre) ≡ f.type
  type_there =
      let e : get_or h (length pre + 1) 0 ≡ f.type / 256 % 256 = get_or-append-add pre tail 1 0 in
      omega (arith, byte_0, good.type_fits)

  length_there : length_at h (length pre) ≡ length f.value
  length_there =
      let e : get_or h (length pre + 2) 0 ≡ length f.value % 256 = get_or-append-add pre tail 2 0 in
      let d : get_or h (length pre + 3) 0 ≡ length f.value / 256 % 256 = get_or-append-add pre tail 3 0 in
      omega (arith, good.value_fits)

  length_h : length h ≡ length pre + 4 + length f.value + length rest
  length_h = omega (arith, length-append pre tail, length-append f.value rest)

  pub tag_there : gives (tag (length pre) f.type (length f.value)) ≡ item_at h (length pre)
  tag_there =
      let l = length_h in
      found h (length pre) (sym type_there) (sym length_there) (omega (arith, good.type_some)) (omega arith) (omega arith)

  next_there : next_item h (length pre) ≡ gives (tag (length pre) f.type (length f.value))
  next_there =
      let l = length_h in
      sym (tag_there ∙ next_item_lem h (length pre) (omega arith) (omega (arith, byte_0, good.type_low)))

-- the end that was written is found
module _ (pre rest : List ℕ) where
  abbrev ended : List ℕ
  ended = pre ++ 0 ∷ 0 ∷ rest

  first_zero : get_or ended (length pre) 0 ≡ 0
  first_zero = get_or-append_seam pre _ _ 0

  length_ended : length ended ≡ length pre + (2 + length rest)
  length_ended = omega (arith, length-append pre (0 ∷ 0 ∷ rest))

  pub end_there : gives end ≡ item_at ended (length pre)
  end_there =
      let d : get_or ended (length pre + 1) 0 ≡ 0 = get_or-append-add pre (0 ∷ 0 ∷ rest) 1 0 in
      the_end ended (length pre) (omega (arith, length_ended)) (omega (arith, first_zero))

  next_end : next_item ended (length pre) ≡ gives end
  next_end = sym (end_there ∙ next_item_lem ended (length pre) (omega (arith, length_ended)) (omega (arith, first_zero)))

pub data AllWritable : List Field → Type 0 where
  none : AllWritable []
  one : {f : Field} {l : List Field} → Writable f → AllWritable l → AllWritable (f ∷ l)

-- tags that were written from a place on, up to the end, are found from there on
pub tags_there : (pre rest : List ℕ) {l : List Field} → AllWritable l
    → tags_at (pre ++ (field_bytes l ++ 0 ∷ 0 ∷ rest)) (length pre) ≡ tags_of (length pre) l
unfolding field_bytes tags_of
tags_there pre rest none =
    tags_step _ _ ∙ ap (λ (s : Answer Item). on_item s (λ q. tags_at (pre ++ 0 ∷ 0 ∷ rest) q)) (next_end pre rest)
tags_there pre rest (one {f} {l} g gs) =
    let t : List ℕ = tag_bytes f.type f.value in
    let m : List ℕ = field_bytes l ++ 0 ∷ 0 ∷ rest in
    let len : length (pre ++ t) ≡ length pre + 4 + length f.value = omega (arith, length-append pre t) in
    let ih : tags_at (pre ++ t ++ m) (length (pre ++ t)) ≡ tags_of (length (pre ++ t)) l = tags_there (pre ++ t) rest gs in
    ap (λ (x : List ℕ). tags_at (pre ++ x) (length pre)) (append_assoc t (field_bytes l) (0 ∷ 0 ∷ rest))
    ∙ tags_step (pre ++ (t ++ m)) (length pre)
    ∙ ap (λ (s : Answer Item). on_item s (λ q. tags_at (pre ++ (t ++ m)) q)) (next_there pre m f g)
    ∙ ap (more (length pre) f.type (length f.value))
    (subst (λ (x : ℕ). tags_at (pre ++ (t ++ m)) x ≡ tags_of x l) len
    (subst (λ (x : List ℕ). tags_at x (length (pre ++ t)) ≡ tags_of (length (pre ++ t)) l) (append_assoc pre t m) ih))

pub field_append : (a b : List Field) → field_bytes (a ++ b) ≡ field_bytes a ++ field_bytes b
unfolding field_bytes
field_append [] b = refl
field_append (f ∷ a) b =
    ap (λ (x : List ℕ). tag_bytes f.type f.value ++ x) (field_append a b)
    ∙ sym (append_assoc (tag_bytes f.type f.value) (field_bytes a) (field_bytes b))
