-- The padding of 5.1.1, as the code makes it.
use Rattle.std.proofs.Common.{◌≡◌, ℕ, suc, ◌+◌, ◌-◌, ◌*◌, ◌/◌, ◌%◌, ◌^◌, ◌<◌, ◌≤◌, List, [], ◌∷◌, ◌++◌, length, take, set, replicate, sym, ap, ◌∙◌, ap₂, append_assoc, arith, length-append, take_all, take_at, drop_at}
use lib.ListN.{length-replicate, replicate-append-replicate}
use lib.Seq.{set_at}
use Rattle.digest_fips180.specs.Sha256.{block, words, zeros, big_endian, padding, compress, hash}
use Rattle.digest_sha256.specs.Parts.{zeroed}
use Rattle.digest_sha256.proofs.Concatenation.{field_wrap}

-- ---- blocks

pub one_block : (h a : List ℕ) → length a ≡ 64 → hash h a (length a / 64) ≡ compress h (words a)
unfolding hash block
one_block h a l = rw l (ap (λ (x : List ℕ). compress h (words x)) (take_all 64 a (omega arith)))

two_blocks : (h a b : List ℕ) → length a ≡ 64 → length b ≡ 64
    → hash h (a ++ b) (length (a ++ b) / 64) ≡ compress (compress h (words a)) (words b)
unfolding hash block
two_blocks h a b la lb =
    let l : length (a ++ b) ≡ 128 = length-append a b ∙ omega arith in
    rw l (ap₂ (λ (x y : List ℕ). compress (compress h (words x)) (words y)) (take_at a b 64 la)
    (ap (take 64) (drop_at a b 64 la) ∙ take_all 64 b (omega arith)))

-- ---- the mark and the length

-- the bytes that are left, the mark, and zeros to the end of the block
abbrev pub marked : List ℕ → List ℕ
marked r = (r ++ 0x80 ∷ []) ++ replicate (63 - length r) 0

pub marked_law : (r : List ℕ) (n : ℕ) {b t : List ℕ} → length r ≡ n → n < 64 → b ≡ zeroed r → t ≡ set b n 0x80 → t ≡ marked r
marked_law r n l h eb et =
    let k : ℕ = 63 - length r in
    let e : 64 - length r ≡ suc k = omega arith in
    et ∙ ap (λ (x : List ℕ). set x n 0x80) (eb ∙ ap (λ (x : ℕ). r ++ replicate x 0) e)
    ∙ set_at r 0 (replicate k 0) 0x80 n l
    ∙ sym (append_assoc r (0x80 ∷ []) (replicate k 0))

pub length_marked : (r : List ℕ) → length r < 64 → length (marked r) ≡ 64
length_marked r h =
    let a : length (marked r) ≡ length (r ++ 0x80 ∷ []) + length {A = ℕ} (replicate (63 - length r) 0) =
    length-append (r ++ 0x80 ∷ []) (replicate (63 - length r) 0) in
    let b : length (r ++ 0x80 ∷ []) ≡ length r + 1 = length-append r (0x80 ∷ []) in
    let c : length {A = ℕ} (replicate (63 - length r) 0) ≡ 63 - length r = length-replicate (63 - length r) 0 in
    omega arith

-- zeros and the length
abbrev tail : ℕ → ℕ → List ℕ
tail z n = replicate z 0 ++ big_endian 8 n

length_tail : (z n : ℕ) → length (tail z n) ≡ z + 8
unfolding big_endian
length_tail z n = length-append (replicate z 0) (big_endian 8 n) ∙ ap (λ (x : ℕ). x + 8) (length-replicate z 0)

tail_split : (a b n : ℕ) → replicate a 0 ++ tail b n ≡ tail (a + b) n
tail_split a b n =
    sym (append_assoc (replicate a 0) (replicate b 0) (big_endian 8 n))
    ∙ ap (λ (x : List ℕ). x ++ big_endian 8 n) (replicate-append-replicate a b 0)

field : (n : ℕ) → big_endian 8 (n * 2 ^ 3 % 2 ^ 64) ≡ big_endian 8 (8 * n)
field n = field_wrap (n * 2 ^ 3 % 2 ^ 64) (8 * n) (omega arith)

-- ---- the padded message

module _ (h r : List ℕ) (n : ℕ) (left : length r ≡ n % 64) where
  -- the padding ends the block
  pub ends_law : {t g b s : List ℕ} → length r < 56 → t ≡ marked r → g ≡ h → b ≡ take 56 t ++ big_endian 8 (n * 2 ^ 3 % 2 ^ 64)
      → s ≡ compress g (words b)
      → s ≡ hash h (r ++ padding n) (length (r ++ padding n) / 64)
  unfolding padding zeros
  ends_law {t} {b = b} lt et eg eb es =
      let z : ℕ = 55 - length r in
      let m : List ℕ = r ++ 0x80 ∷ [] in
      let e : z ≡ (119 - n % 64) % 64 = omega arith in
      let lm : length m ≡ length r + 1 = length-append r (0x80 ∷ []) in
      let lz : length (m ++ replicate z 0) ≡ 56 =
      length-append m (replicate z 0) ∙ ap (λ (x : ℕ). length m + x) (length-replicate z 0) ∙ omega arith in
      let k : 63 - length r ≡ z + 8 = omega arith in
      let u : marked r ≡ (m ++ replicate z 0) ++ replicate 8 0 =
      ap (λ (x : ℕ). m ++ replicate x 0) k ∙ ap (λ (x : List ℕ). m ++ x) (sym (replicate-append-replicate z 8 0))
      ∙ sym (append_assoc m (replicate z 0) (replicate 8 0)) in
      let v : take 56 t ≡ m ++ replicate z 0 = ap (take 56) (et ∙ u) ∙ take_at (m ++ replicate z 0) (replicate 8 0) 56 lz in
      let w : b ≡ r ++ 0x80 ∷ tail z (8 * n) =
      eb ∙ ap₂ (λ (x y : List ℕ). x ++ y) v (field n) ∙ append_assoc m (replicate z 0) (big_endian 8 (8 * n))
      ∙ append_assoc r (0x80 ∷ []) (tail z (8 * n)) in
      let l : length (r ++ 0x80 ∷ tail z (8 * n)) ≡ 64 =
      length-append r (0x80 ∷ tail z (8 * n)) ∙ ap (λ (x : ℕ). length r + suc x) (length_tail z (8 * n)) ∙ omega arith in
      es ∙ ap₂ (λ (x y : List ℕ). compress x (words y)) eg w ∙ sym (one_block h (r ++ 0x80 ∷ tail z (8 * n)) l)
      ∙ ap (λ (x : ℕ). hash h (r ++ 0x80 ∷ tail x (8 * n)) (length (r ++ 0x80 ∷ tail x (8 * n)) / 64)) e

  -- the padding takes one block more
  pub more_law : {t z a b s : List ℕ} → 56 ≤ length r → t ≡ marked r → z ≡ replicate 64 0 → a ≡ compress h (words t)
      → b ≡ take 56 z ++ big_endian 8 (n * 2 ^ 3 % 2 ^ 64) → s ≡ compress a (words b)
      → s ≡ hash h (r ++ padding n) (length (r ++ padding n) / 64)
  unfolding padding zeros
  more_law {b = b} ge et ez ea eb es =
      let k : ℕ = 63 - length r in
      let m : List ℕ = r ++ 0x80 ∷ [] in
      let e : k + 56 ≡ (119 - n % 64) % 64 = omega arith in
      let q : b ≡ tail 56 (8 * n) = eb ∙ ap₂ (λ (x y : List ℕ). take 56 x ++ y) ez (field n) in
      let p : marked r ++ tail 56 (8 * n) ≡ r ++ 0x80 ∷ tail (k + 56) (8 * n) =
      append_assoc m (replicate k 0) (tail 56 (8 * n)) ∙ ap (λ (x : List ℕ). m ++ x) (tail_split k 56 (8 * n))
      ∙ append_assoc r (0x80 ∷ []) (tail (k + 56) (8 * n)) in
      es ∙ ap₂ (λ (x y : List ℕ). compress x (words y)) (ea ∙ ap (λ (x : List ℕ). compress h (words x)) et) q
      ∙ sym (two_blocks h (marked r) (tail 56 (8 * n)) (length_marked r (omega arith)) (length_tail 56 (8 * n)))
      ∙ ap (λ (x : List ℕ). hash h x (length x / 64)) (p ∙ ap (λ (x : ℕ). r ++ 0x80 ∷ tail x (8 * n)) e)
