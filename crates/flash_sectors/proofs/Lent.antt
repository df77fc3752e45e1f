-- The loop of copy, and a part of a partition that is lent and comes back.
use mathlib.Core.Path.{◌≡◌, refl, sym, ap, ◌∙◌}
use mathlib.Core.List.{List, [], ◌∷◌, ◌++◌, append-nil, append_assoc}
use Prim.Native.Nat.{ℕ, zero, suc, ◌+◌, ◌-◌, ◌≤◌, ◌<◌}
use native.Mathlib.Nat.{le_of_suc-le-suc, not-suc-le-zero, add-sub_cancel_left}
use native.Mathlib.Numerals.{add-one}
use native.Mathlib.Omega.{arith}
use lib.ListN.{length, take, drop, get_or, set, length-take, length-drop, drop_of_length-le, length-replicate}
use lib.Seq.{take_all, drop-drop}
use borrow.Author.Tests.{eq-eqb}
use borrow.Rule.Slice.PartMut.{put_mid, mid_of}
use Rattle.flash.specs.Sectors.{part, patch, erased}
use Rattle.flash_sectors.specs.Copying.{Copy, copy_of}

-- ---- the loop: what stands after i turns, and after the last

stored : (src dst : List ℕ) (i : ℕ) → i < length src → i < length dst → set (take i src ++ drop i dst) i (get_or src i 0) ≡ take (suc i) src ++ drop (suc i) dst
stored [] dst i h k = absurd (not-suc-le-zero h)
stored (x ∷ xs) [] i h k = absurd (not-suc-le-zero k)
stored (x ∷ xs) (y ∷ ys) zero h k = refl
stored (x ∷ xs) (y ∷ ys) (suc i) h k = ap (λ (l : List ℕ). x ∷ l) (stored xs ys i (le_of_suc-le-suc h) (le_of_suc-le-suc k))

pub copy_more : (src dst : List ℕ) (i : ℕ) → i < length src → i < length dst → set (take i src ++ drop i dst) i (get_or src i 0) ≡ take (i + 1) src ++ drop (i + 1) dst
copy_more src dst i h k = rw add-one (stored src dst i h k)

pub copy_done : (src dst : List ℕ) (i : ℕ) → length src ≤ i → length dst ≤ i → take i src ++ drop i dst ≡ src
copy_done src dst i h k = rw (take_all i src h, drop_of_length-le dst k) (append-nil src)

-- a copy between equal lengths leaves the source's bytes
pub copy_whole : (src dst : List ℕ) {c : Copy} → length dst ≡ length src → c ≡ copy_of dst src → c.bytes ≡ src
unfolding copy_of
copy_whole src dst h e = ap (λ (x : Copy). x.bytes) (rw (eq-eqb _ _ h) at e)

-- ---- a lent part from a to a + s, where a is the place b

pub mid_length : (a s : ℕ) (xs : List ℕ) → a + s ≤ length xs → length (mid_of a ((a + s) - a) xs) ≡ s
mid_length a s xs h = simp (length-take, length-drop) (omega arith)

-- read
pub part_read : {a b : ℕ} (s : ℕ) (xs : List ℕ) → a ≡ b → mid_of a ((a + s) - a) xs ≡ part b s xs
unfolding part
part_read {a} {b} s xs e = rw (add-sub_cancel_left a s, e)

-- copied to another buffer of s bytes
pub part_copied : {a b : ℕ} (s : ℕ) (xs dst : List ℕ) {c : Copy} → a ≡ b → a + s ≤ length xs → length dst ≡ s → c ≡ copy_of dst (mid_of a ((a + s) - a) xs)
    → c.bytes ≡ part b s xs
part_copied {a} s xs dst e h k q = copy_whole (mid_of a ((a + s) - a) xs) dst (k ∙ sym (mid_length a s xs h)) q ∙ part_read s xs e

-- given back at ys
pub part_put : {a b : ℕ} (s : ℕ) (xs : List ℕ) {last ys : List ℕ} → a ≡ b → last ≡ ys → length ys ≡ s → put_mid a ((a + s) - a) xs last ≡ patch b ys xs
unfolding patch
part_put {a} {b} s xs {last} {ys} e h k =
    rw (h, add-sub_cancel_left a s, e, append_assoc (take b xs) ys (drop (b + length ys) xs), k, ← drop-drop s b xs)

-- given back erased
pub part_erased : (s a b : ℕ) (xs last : List ℕ) → a ≡ b → a + s ≤ length xs → last ≡ erased (length (mid_of a ((a + s) - a) xs)) → put_mid a ((a + s) - a) xs last ≡ patch b (erased s) xs
unfolding erased
part_erased s a b xs last p h e = part_put s xs p (rw (mid_length a s xs h) at e) (length-replicate s 0xFF)
