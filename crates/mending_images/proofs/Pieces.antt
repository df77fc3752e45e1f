-- An image whose sectors lie in several places: what each has of the firmware, what the digest covers sector by sector, and what is left of
-- that behind the whole blocks.
use mathlib.Core.Path.{◌≡◌, refl, sym, ap, ap₂, ◌∙◌}
use mathlib.Core.List.{List, [], ◌∷◌, ◌++◌, append_assoc, append-nil}
use Prim.Native.Nat.{ℕ, zero, suc, ◌+◌, ◌-◌, ◌*◌, ◌/◌, ◌%◌, min, ◌≤◌, ◌<◌}
use native.Mathlib.Nat.{zero-mul, suc-mul, mul-le-mul_right}
use native.Mathlib.Decide.{dec_lt, ℕ_discrete}
use native.Mathlib.Omega.{arith}
use lib.ListN.{length, take, drop, length-append, length-drop}
use lib.Seq.{take_all, take-length, take-nil, drop-nil, take-append-le, take-append-add, drop-append-le, drop-append-add, take-take, drop-drop, length-take-le}
use Rattle.digest_sha256.specs.Parts.{left_of}
use Rattle.flash.specs.declared.Geometry.{Geometry}
use Rattle.flash.specs.Sectors.{part, sector_of}
use Rattle.image.specs.Check.{covered}
use Rattle.mending.specs.OldImages.{joined}
use Rattle.mending.proofs.Images.{length_joined}
use Rattle.mending_images.specs.Parts.{firmware_in}

-- ---- parts of a list

pub drop_take : (a z : ℕ) (l : List ℕ) → drop a (take z l) ≡ take (z - a) (drop a l)
drop_take zero z l = let e : z - 0 ≡ z = omega arith in ap (λ (k : ℕ). take k l) (sym e)
drop_take (suc a) z [] = drop_nil' (suc a) (take z []) (take-nil z) ∙ sym (take-nil (z - suc a))
  where
    drop_nil' : (n : ℕ) (x : List ℕ) → x ≡ [] → drop n x ≡ []
    drop_nil' n x e = ap (drop n) e ∙ drop-nil n
drop_take (suc a) zero (x ∷ l) = let e : 0 - suc a ≡ 0 = omega arith in drop-nil (suc a) ∙ sym (ap (λ (k : ℕ). take k (drop a l)) e)
drop_take (suc a) (suc z) (x ∷ l) = let e : suc z - suc a ≡ z - a = omega arith in drop_take a z l ∙ sym (ap (λ (k : ℕ). take k (drop a l)) e)

-- a part of a part
pub part_part : (a n b z : ℕ) (l : List ℕ) → a + n ≤ z → part a n (part b z l) ≡ part (b + a) n l
unfolding part
part_part a n b z l h =
    ap (take n) (drop_take a z (drop b l)) ∙ take-take n (z - a) (drop a (drop b l)) (omega arith) ∙ ap (take n) (drop-drop a b l)

-- a sector of a partition, as it is lent
pub sector_part : (g : Geometry) (i at : ℕ) (l : List ℕ) → at ≡ i * g.size → take (at + g.size - at) (drop at l) ≡ sector_of g i l
unfolding part
sector_part g i at l e =
    let q : at + g.size - at ≡ g.size = omega arith in
    ap (λ (k : ℕ). take k (drop at l)) q ∙ ap (λ (k : ℕ). take g.size (drop k l)) e

-- n bytes of a sector, as they are lent
pub lent_part : (at n : ℕ) (l : List ℕ) → take (at + n - at) (drop at l) ≡ part at n l
unfolding part
lent_part at n l = let q : at + n - at ≡ n = omega arith in ap (λ (k : ℕ). take k (drop at l)) q

-- ---- what a sector has of the firmware

take_least : (n : ℕ) (l : List ℕ) → take (min n (length l)) l ≡ take n l
take_least n l = by (dec_lt n (length l))
  where
    by : Dec (n < length l) → take (min n (length l)) l ≡ take n l
    by (yes h) = let e : min n (length l) ≡ n = omega arith in ap (λ (k : ℕ). take k l) e
    by (no h) = let e : min n (length l) ≡ length l = omega arith in ap (λ (k : ℕ). take k l) e ∙ take-length l ∙ sym (take_all n l (omega arith))

module _ (s i end : ℕ) (l : List ℕ) {at : ℕ} (is : at ≡ i * s) where
  pub piece_first : {to : ℕ} → i ≡ 0 → 256 ≤ length l → 256 ≤ end → to ≡ min end (length l) → take (to - 256) (drop 256 l) ≡ firmware_in s i end l
  piece_first {to} z S E m =
      let o : i * s ≡ 0 = ap (λ (k : ℕ). k * s) z ∙ zero-mul s in
      let e : to - 256 ≡ min (end - 256) (length (drop 256 l)) = omega (arith, length-drop 256 l) in
      let a : 256 ≡ 256 - i * s = omega arith in
      let b : end ≡ end - i * s = omega arith in
      ap (λ (k : ℕ). take k (drop 256 l)) e ∙ take_least (end - 256) (drop 256 l) ∙ sym (drop_take 256 end l)
      ∙ ap₂ (λ (x y : ℕ). drop x (take y l)) a b

-- ---- what a digest covers

-- nothing of nothing
pub covered_none : (at n : ℕ) → covered [] at n ≡ []
covered_none at n = rw (take-nil at, take-nil n) refl

-- it reads the front of an image
covered_front : (b : List ℕ) (w at n : ℕ) → at ≤ w → 256 + n ≤ w → covered (take w b) at n ≡ covered b at n
covered_front b w at n h k =
    ap₂ (λ (x y : List ℕ). x ++ y) (take-take at w b h) (ap (take n) (drop_take 256 w b) ∙ take-take n (w - 256) (drop 256 b) (omega arith))

-- ---- what is left behind the whole blocks

pub left_length : (b : List ℕ) → length (left_of b) % 64 ≡ length b % 64
left_length b = omega (arith, length-drop (64 * (length b / 64)) b)

-- of two lists it lies in the second, where that has whole blocks and room for it
left_second : (x y : List ℕ) → length y % 64 ≡ 0 → length x % 64 ≤ length y → left_of (x ++ y) ≡ drop (length y - length x % 64) y
left_second x y Y h =
    let e : 64 * (length (x ++ y) / 64) ≡ length x + (length y - length x % 64) = omega (arith, length-append x y) in
    ap (λ (n : ℕ). drop n (x ++ y)) e ∙ drop-append-add x y (length y - length x % 64)

behind_header : (w r : ℕ) → 256 + r ≤ w → 256 + (w - 256 - r) ≡ w - r
behind_header w r h = omega arith

-- of an image of whole blocks, more than the header, it is the image's end
left_end : (b : List ℕ) (at : ℕ) → length b % 64 ≡ 0 → 256 < length b → at ≤ 256 → left_of (covered b at (length b - 256)) ≡ drop (length b - at % 64) b
left_end b at B W A =
    let room : 256 + at % 64 ≤ length b = omega arith in
    let d : length (drop 256 b) ≡ length b - 256 = length-drop 256 b in
    let even : length (drop 256 b) % 64 ≡ 0 = omega arith in
    let h : length (take at b) ≡ at = length-take-le at b (omega arith) in
    ap (λ (y : List ℕ). left_of (take at b ++ y)) (take_all (length b - 256) (drop 256 b) (omega arith))
    ∙ left_second (take at b) (drop 256 b) even (omega arith) ∙ ap₂ (λ (x y : ℕ). drop (x - y % 64) (drop 256 b)) d h
    ∙ drop-drop (length b - 256 - at % 64) 256 b ∙ ap (λ (x : ℕ). drop x b) (behind_header (length b) (at % 64) room)

-- of the front of a list
left_front : (n : ℕ) (l : List ℕ) → n ≤ length l → left_of (take n l) ≡ take (n - (n - n % 64)) (drop (n - n % 64) l)
left_front n l h =
    let e : 64 * (length (take n l) / 64) ≡ n - n % 64 = omega (arith, length-take-le n l h) in
    ap (λ (k : ℕ). drop k (take n l)) e ∙ drop_take (n - n % 64) n l

-- ---- the sectors of an image

-- what the digest covers before the firmware of sector n, where that lies before the firmware's end
unfoldable pub covers_before : (ℕ → List ℕ) → ℕ → ℕ → ℕ → List ℕ
covers_before s z at zero = take at (s 0)
covers_before s z at (suc n) = covered (joined s (suc n)) at (suc n * z - 256)

module _ (s : ℕ → List ℕ) (z : ℕ) where
  -- the first sectors are the image's front
  joined_front : (n m : ℕ) → n ≤ m → ((i : ℕ) → i < m → length (s i) ≡ z) → take (n * z) (joined s m) ≡ joined s n
  unfolding joined
  joined_front n zero h L = let e : n ≡ 0 = omega arith in take-nil (n * z) ∙ ap (joined s) (sym e)
  joined_front n (suc m) h L = by (ℕ_discrete n (suc m)) (λ l. joined_front n m l (λ i k. L i (omega arith)))
    where
      by : Dec (n ≡ suc m) → (n ≤ m → take (n * z) (joined s m) ≡ joined s n) → take (n * z) (joined s (suc m)) ≡ joined s n
      by (yes e) below =
          ap (λ (k : ℕ). take (k * z) (joined s (suc m))) e
          ∙ take_all (suc m * z) (joined s (suc m)) (omega (arith, length_joined s z (suc m) L)) ∙ ap (joined s) (sym e)
      by (no e) below =
          let l : n ≤ m = omega arith in
          take-append-le (n * z) (joined s m) (s m) (omega (arith, length_joined s z m (λ i k. L i (omega arith)), mul-le-mul_right z l)) ∙ below l

  module _ (at m : ℕ) (A : at ≤ 256) (B : 256 ≤ z) (L : (i : ℕ) → i < m → length (s i) ≡ z) where
    first_length : (n : ℕ) → n ≤ m → length (joined s n) ≡ n * z
    first_length n h = length_joined s z n (λ i l. L i (omega arith))

    -- sector n, with what its firmware has before place e
    covered_next : (e n : ℕ) → n < m → 256 ≤ e → n * z ≤ e → covered (joined s (suc n)) at (e - 256) ≡ covers_before s z at n ++ firmware_in z n e (s n)
    unfolding joined covers_before
    covered_next e zero l E h =
        let a : 256 ≡ 256 - 0 * z = omega (arith, zero-mul z) in
        let b : e ≡ e - 0 * z = omega (arith, zero-mul z) in
        ap (λ (x : List ℕ). take at (s 0) ++ x) (sym (drop_take 256 e (s 0)) ∙ ap₂ (λ (x y : ℕ). drop x (take y (s 0))) a b)
    covered_next e (suc i) l E h =
        let n : ℕ = suc i in
        let J : List ℕ = joined s n in
        let k : length J ≡ n * z = first_length n (omega arith) in
        let one : z ≤ n * z = omega (arith, suc-mul i z) in
        let d : length (drop 256 J) ≡ n * z - 256 = length-drop 256 J ∙ ap (λ (x : ℕ). x - 256) k in
        let q : e - 256 ≡ length (drop 256 J) + (e - n * z) = omega arith in
        let o : 0 ≡ 256 - n * z = omega arith in
        let rest : take (e - 256) (drop 256 (J ++ s n)) ≡ take (n * z - 256) (drop 256 J) ++ firmware_in z n e (s n) =
        ap (take (e - 256)) (drop-append-le 256 J (s n) (omega arith)) ∙ ap (λ (x : ℕ). take x (drop 256 J ++ s n)) q
        ∙ take-append-add (drop 256 J) (s n) (e - n * z)
        ∙ ap₂ (λ (x : List ℕ) (y : ℕ). x ++ drop y (take (e - n * z) (s n))) (sym (take_all (n * z - 256) (drop 256 J) (omega arith))) o in
        ap₂ (λ (x y : List ℕ). x ++ y) (take-append-le at J (s n) (omega arith)) rest
        ∙ sym (append_assoc (take at J) (take (n * z - 256) (drop 256 J)) (firmware_in z n e (s n)))

    -- the image up to place e, in sector n
    pub covered_all : (e n : ℕ) → n < m → 256 ≤ e → n * z ≤ e → e ≤ suc n * z → covered (joined s m) at (e - 256) ≡ covers_before s z at n ++ firmware_in z n e (s n)
    covered_all e n l E h k =
        sym (covered_front (joined s m) (suc n * z) at (e - 256) (omega arith) (omega arith))
        ∙ ap (λ (b : List ℕ). covered b at (e - 256)) (joined_front (suc n) m l L) ∙ covered_next e n l E h

    -- whole sectors, as sector n adds all of its firmware
    pub covered_whole : (e n : ℕ) → n < m → suc n * z ≤ e → covered (joined s (suc n)) at (suc n * z - 256) ≡ covers_before s z at n ++ firmware_in z n e (s n)
    covered_whole e n l h =
        let J : List ℕ = joined s (suc n) in
        let d : length (drop 256 J) ≡ suc n * z - 256 = length-drop 256 J ∙ ap (λ (x : ℕ). x - 256) (first_length (suc n) l) in
        let q : take (suc n * z - 256) (drop 256 J) ≡ take (e - 256) (drop 256 J) =
        take_all (suc n * z - 256) (drop 256 J) (omega arith) ∙ sym (take_all (e - 256) (drop 256 J) (omega arith)) in
        ap (λ (x : List ℕ). take at J ++ x) q ∙ covered_next e n l (omega (arith, suc-mul n z)) (omega (arith, suc-mul n z))

    -- what is left behind the blocks of the sectors up to sector i: where they are the header alone, the end of what the digest covers of it
    pub left_in_header : (i : ℕ) → i < m → suc i * z ≡ 256
        → take (at - (at - at % 64)) (drop (at - at % 64) (s i)) ≡ left_of (covered (joined s (suc i)) at (suc i * z - 256))
    unfolding joined
    left_in_header zero l e =
        let n : 1 * z - 256 ≡ 0 = omega arith in
        sym (ap (λ (x : ℕ). left_of (take at (s 0) ++ take x (drop 256 (s 0)))) n ∙ ap left_of (append-nil (take at (s 0)))
        ∙ left_front at (s 0) (omega (arith, L 0 l)))
    left_in_header (suc i) l e = absurd (omega (arith, suc-mul (suc i) z, suc-mul i z))

    module _ (Z : z % 64 ≡ 0) where
      -- whole sectors are whole blocks
      sectors_even : (n : ℕ) → (n * z) % 64 ≡ 0
      sectors_even zero = omega (arith, zero-mul z)
      sectors_even (suc n) = omega (arith, suc-mul n z, sectors_even n)

      -- else the end of sector i
      pub left_in_sector : (i : ℕ) → i < m → ¬ (suc i * z ≡ 256)
          → take (length (s i) - (z - at % 64)) (drop (z - at % 64) (s i)) ≡ left_of (covered (joined s (suc i)) at (suc i * z - 256))
      unfolding joined
      left_in_sector i l other =
          let r : ℕ = at % 64 in
          let J : List ℕ = joined s (suc i) in
          let k : length J ≡ suc i * z = first_length (suc i) l in
          let from : length J - r ≡ length (joined s i) + (z - r) = omega (arith, suc-mul i z, first_length i (omega arith)) in
          take_all (length (s i) - (z - r)) (drop (z - r) (s i)) (omega (arith, length-drop (z - r) (s i)))
          ∙ sym (ap (λ (x : ℕ). left_of (covered J at (x - 256))) (sym k)
          ∙ left_end J at (omega (arith, sectors_even (suc i))) (omega (arith, suc-mul i z)) A
          ∙ ap (λ (x : ℕ). drop x J) from ∙ drop-append-add (joined s i) (s i) (z - r))
