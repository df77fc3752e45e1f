-- Parts of a list of bytes, and numbers in them. Assumes nothing.
use mathlib.Core.Path.{◌≡◌, refl}
use Prim.Native.Nat.{ℕ, suc, ◌+◌, ◌*◌, ◌^◌, ◌≤◌, ◌<◌}
use mathlib.Core.List.{List, [], ◌∷◌}
use native.Mathlib.Omega.{arith}
use native.Mathlib.Nat.{pow-suc}
use native.Mathlib.Decide.{dec_lt}
use lib.Dec.{lit<}
use native.Mathlib.Numerals.{add-one}
use lib.ListN.{length, get_or, drop, length-take, length-drop, get_or-eq_default}
use lib.Seq.{drop-cons, length-take-le, get_or-take, get_or-drop}
use Rattle.header_tags.specs.Bytes.{AllBytes, number}
use Rattle.header_reader.specs.Reading.{bytes_at}

module _ (h : List ℕ) where
  pub length_part : (p n : ℕ) → p + n ≤ length h → length (bytes_at h p n) ≡ n
  length_part p n fits = length-take-le n (drop p h) (omega (arith, length-drop p h))

  part_cons : (p q n : ℕ) → p < length h → q ≡ p + 1 → bytes_at h p (suc n) ≡ get_or h p 0 ∷ bytes_at h q n
  part_cons p q n fits e = rw (e, add-one, drop-cons h p 0 fits)

  pub part_2 : (p : ℕ) → p + 2 ≤ length h → bytes_at h p 2 ≡ get_or h p 0 ∷ get_or h (p + 1) 0 ∷ []
  part_2 p fits = rw (part_cons p (p + 1) 1 (omega arith) refl, part_cons (p + 1) (p + 2) 0 (omega arith) (omega arith))

  pub part_4 : (p : ℕ) → p + 4 ≤ length h → bytes_at h p 4 ≡ get_or h p 0 ∷ get_or h (p + 1) 0 ∷ get_or h (p + 2) 0 ∷ get_or h (p + 3) 0 ∷ []
  part_4 p fits =
      rw (
        part_cons p (p + 1) 3 (omega arith) refl,
        part_cons (p + 1) (p + 2) 2 (omega arith) (omega arith),
        part_cons (p + 2) (p + 3) 1 (omega arith) (omega arith),
        part_cons (p + 3) (p + 4) 0 (omega arith) (omega arith),
      )

  pub num_2 : {r : ℕ} (p : ℕ) → p + 2 ≤ length h → r ≡ get_or h p 0 + 256 * get_or h (p + 1) 0 → r ≡ number (bytes_at h p 2)
  num_2 p fits e = rw (part_2 p fits) (omega arith)

  pub num_4 : {r : ℕ} (p : ℕ) → p + 4 ≤ length h → r ≡ get_or h p 0 + 256 * (get_or h (p + 1) 0 + 256 * (get_or h (p + 2) 0 + 256 * get_or h (p + 3) 0)) → r ≡ number (bytes_at h p 4)
  num_4 p fits e = rw (part_4 p fits) (omega arith)

-- n bytes are a number that fits n bytes
number_below : (l : List ℕ) → AllBytes l → number l < 256 ^ length l
number_below [] h = omega arith
number_below (b ∷ l) h =
    let e : 256 ^ suc (length l) ≡ 256 ^ length l * 256 = pow-suc 256 (length l) in
    omega (arith, number_below l (λ i. h (suc i)), h 0)

module _ (h : List ℕ) (bytes : AllBytes h) (p n : ℕ) where
  pub part_bytes : (i : ℕ) → get_or (bytes_at h p n) i 0 < 256
  part_bytes i = go (dec_lt i n)
    where
      go : Dec (i < n) → get_or (bytes_at h p n) i 0 < 256
      go (yes lt) = rw (get_or-take n (drop p h) i 0 lt, get_or-drop p h i 0) (bytes (p + i))
      go (no ge) = rw (get_or-eq_default (bytes_at h p n) 0 {n = i} (omega (arith, length-take n (drop p h)))) (lit< tt)

  pub part_below : p + n ≤ length h → number (bytes_at h p n) < 256 ^ n
  part_below fits =
      let l : length (bytes_at h p n) ≡ n = length-take-le n (drop p h) (omega (arith, length-drop p h)) in
      rw l at (number_below (bytes_at h p n) part_bytes)
