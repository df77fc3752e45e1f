-- Laws of parts and patches of a list, at any offset and length.
use mathlib.Core.Path.{◌≡◌, refl, sym, ap, ap₂, ◌∙◌}
use mathlib.Core.List.{List, ◌++◌, append_assoc}
use Prim.Native.Nat.{ℕ, zero, suc, ◌+◌, ◌-◌, ◌*◌, ◌≤◌, ◌<◌}
use native.Mathlib.Omega.{arith}
use lib.ListN.{length, take, drop, get_or, set, length-append, length-drop, take-append-drop, get_or-append}
use native.Mathlib.Nat.{suc-mul}
use lib.Seq.{take-add, length-take-le, take_at, drop_at, take-append-le, drop-append-le, drop-append-add, drop-drop, get_or-drop, get_or-take, drop-set-add, take-set-le}
use Rattle.flash.specs.Sectors.{part, patch}

pub length_part : (a s : ℕ) (l : List ℕ) → a + s ≤ length l → length (part a s l) ≡ s
unfolding part
length_part a s l h = length-take-le s (drop a l) (omega (arith, length-drop a l))

-- a part that lies in the front
part_front : (b s : ℕ) (h r : List ℕ) → b + s ≤ length h → part b s (h ++ r) ≡ part b s h
unfolding part
part_front b s h r k =
    ap (λ (z : List ℕ). take s z) (drop-append-le b h r (omega arith))
    ∙ take-append-le s (drop b h) r (omega (arith, length-drop b h))

module _ (a : ℕ) (x l : List ℕ) (k : a + length x ≤ length l) where
  head_length : length (take a l ++ x) ≡ a + length x
  head_length = omega (arith, length-append (take a l) x, length-take-le a l (omega arith))

  pub length_patch : length (patch a x l) ≡ length l
  unfolding patch
  length_patch = omega (arith, length-append (take a l ++ x) (drop (a + length x) l), head_length, length-drop (a + length x) l)

  pub part_patch : part a (length x) (patch a x l) ≡ x
  unfolding part patch
  part_patch =
      ap (λ (z : List ℕ). take (length x) (drop a z)) (append_assoc (take a l) x (drop (a + length x) l))
      ∙ ap (λ (z : List ℕ). take (length x) z) (drop_at (take a l) (x ++ drop (a + length x) l) a (length-take-le a l (omega arith)))
      ∙ take_at x (drop (a + length x) l) (length x) refl

  drop_patch : (i : ℕ) → drop (a + length x + i) (patch a x l) ≡ drop (a + length x + i) l
  unfolding patch
  drop_patch i =
      ap (λ (n : ℕ). drop (n + i) (take a l ++ x ++ drop (a + length x) l)) (sym head_length)
      ∙ drop-append-add (take a l ++ x) (drop (a + length x) l) i
      ∙ drop-drop i (a + length x) l

  pub part_patch_above : (b s : ℕ) → a + length x ≤ b → part b s (patch a x l) ≡ part b s l
  unfolding part
  part_patch_above b s h =
      let e : a + length x + (b - (a + length x)) ≡ b = omega arith in
      ap (λ (z : List ℕ). take s z) (rw e at (drop_patch (b - (a + length x))))

  pub get_d_patch_above : (p d : ℕ) → a + length x ≤ p → get_or (patch a x l) p d ≡ get_or l p d
  get_d_patch_above p d h =
      let i : ℕ = p - (a + length x) in
      let e : p ≡ a + length x + 0 + i = omega arith in
      ap (λ (n : ℕ). get_or (patch a x l) n d) e
      ∙ sym (get_or-drop (a + length x + 0) (patch a x l) i d)
      ∙ ap (λ (z : List ℕ). get_or z i d) (drop_patch 0)
      ∙ get_or-drop (a + length x + 0) l i d
      ∙ ap (λ (n : ℕ). get_or l n d) (sym e)

  pub get_d_patch : (i d : ℕ) → i < length x → get_or (patch a x l) (a + i) d ≡ get_or x i d
  unfolding patch
  get_d_patch i d h =
      sym (get_or-drop a (take a l ++ x ++ drop (a + length x) l) i d)
      ∙ ap (λ (z : List ℕ). get_or (drop a z) i d) (append_assoc (take a l) x (drop (a + length x) l))
      ∙ ap (λ (z : List ℕ). get_or z i d) (drop_at (take a l) (x ++ drop (a + length x) l) a (length-take-le a l (omega arith)))
      ∙ get_or-append x (drop (a + length x) l) d i h

  pub part_patch_below : (b s : ℕ) → b + s ≤ a → part b s (patch a x l) ≡ part b s l
  unfolding patch
  part_patch_below b s h =
      let n : length (take a l) ≡ a = length-take-le a l (omega arith) in
      ap (λ (z : List ℕ). part b s z) (append_assoc (take a l) x (drop (a + length x) l))
      ∙ part_front b s (take a l) (x ++ drop (a + length x) l) (omega arith)
      ∙ sym (part_front b s (take a l) (drop a l) (omega arith))
      ∙ ap (λ (z : List ℕ). part b s z) (take-append-drop a l)

  pub take_patch : take a (patch a x l) ≡ take a l
  unfolding patch
  take_patch =
      ap (λ (z : List ℕ). take a z) (append_assoc (take a l) x (drop (a + length x) l))
      ∙ take_at (take a l) (x ++ drop (a + length x) l) a (length-take-le a l (omega arith))

  pub get_d_patch_below : (p d : ℕ) → p < a → get_or (patch a x l) p d ≡ get_or l p d
  get_d_patch_below p d h =
      sym (get_or-take a (patch a x l) p d h) ∙ ap (λ (z : List ℕ). get_or z p d) take_patch ∙ get_or-take a l p d h

-- a store past a part
pub part_set : (b s p v : ℕ) (l : List ℕ) → b + s ≤ p → part b s (set l p v) ≡ part b s l
unfolding part
part_set b s p v l h =
    let e : p ≡ b + (p - b) = omega arith in
    ap (λ (n : ℕ). take s (drop b (set l n v))) e
    ∙ ap (λ (z : List ℕ). take s z) (drop-set-add b l (p - b) v)
    ∙ take-set-le s (drop b l) (p - b) v (omega arith)

-- where the first m sectors agree, the first m × s bytes agree
pub sectors_front : (s m : ℕ) (l l' : List ℕ) → ((i : ℕ) → i < m → part (i * s) s l ≡ part (i * s) s l') → take (m * s) l ≡ take (m * s) l'
unfolding part
sectors_front s zero l l' h =
    let e : 0 * s ≡ 0 = omega arith in
    ap (λ (n : ℕ). take n l) e ∙ ap (λ (n : ℕ). take n l') (sym e)
sectors_front s (suc m) l l' h =
    let e : suc m * s ≡ m * s + s = suc-mul m s in
    ap (λ (n : ℕ). take n l) e ∙ take-add (m * s) s l
    ∙ ap₂ (λ (x y : List ℕ). x ++ y) (sectors_front s m l l' (λ i k. h i (omega arith))) (h m (omega arith))
    ∙ sym (take-add (m * s) s l') ∙ ap (λ (n : ℕ). take n l') (sym e)
