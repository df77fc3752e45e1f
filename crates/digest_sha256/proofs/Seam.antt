-- A message that lies in two places, as the code hashes it.
use Rattle.std.proofs.Common.{◌≡◌, ℕ, ◌+◌, ◌-◌, ◌*◌, ◌/◌, ◌%◌, ◌^◌, ◌<◌, ◌≤◌, min, List, [], ◌++◌, length, take, drop, replicate, sym, ap, ◌∙◌, ap₂, append_assoc, append-nil, arith, length-append, length-drop, take-append-drop, drop_of_length-le, length-take-le}
use native.Mathlib.Decide.{dec_lt}
use lib.Seq.{drop-append-le, drop-append-add}
use Rattle.digest_fips180.specs.Sha256.{words, padding, H0, compress, hash, bytes, sha256}
use Rattle.digest_sha256.specs.Parts.{hash_over, left_of, zeroed, digest_after}
use Rattle.digest_sha256.proofs.Pending.{from, laid, laid_is}
use Rattle.digest_sha256.proofs.Padding.{one_block}
use Rattle.digest_sha256.proofs.Concatenation.{hash_front_on, hash_on, after_blocks, digest_law, padding_wrap}

-- ---- one block

-- a full block has no zeros behind it
full : (q : List ℕ) → length q ≡ 64 → zeroed q ≡ q
full q l = let z : 64 - length q ≡ 0 = omega arith in ap (λ (k : ℕ). q ++ replicate k 0) z ∙ append-nil q

-- ---- the whole blocks of a and then b

module _ (h a b : List ℕ) {s : List ℕ} (hashed : s ≡ hash_over h a) where
  length_left : length (left_of a) ≡ length a % 64
  length_left = length-drop (64 * (length a / 64)) a ∙ omega arith

  -- b does not fill the block that a begins
  pub none_more : length b < 64 - length a % 64 → s ≡ hash_over h (a ++ b)
  unfolding hash
  none_more lt =
      let l : length (left_of a ++ b) ≡ length a % 64 + length b = length-append (left_of a) b ∙ ap (λ (x : ℕ). x + length b) length_left in
      let z : length (left_of a ++ b) / 64 ≡ 0 = omega arith in
      hashed ∙ sym (ap (hash (hash_over h a) (left_of a ++ b)) z) ∙ hash_front_on h a b

  -- the block that a begins ends with the first k bytes of b
  pub block_more : (k : ℕ) {f : ℕ} {p g r : List ℕ} → k ≡ 64 - length a % 64 → k ≤ length b → f ≡ length a - length a % 64
      → p ≡ laid (take (length a - f) (drop f a)) (take k b) → g ≡ compress s (words p)
      → r ≡ hash_over g (take (length b - k) (drop k b)) → r ≡ hash_over h (a ++ b)
  block_more k {f} {p} {g} e le ef ep eg er =
      let q : List ℕ = left_of a ++ take k b in
      let l : length q ≡ 64 =
      length-append (left_of a) (take k b) ∙ ap₂ (λ (x y : ℕ). x + y) length_left (length-take-le k b le) ∙ omega arith in
      let i : f ≡ 64 * (length a / 64) = omega arith in
      let t : p ≡ q = ep ∙ laid_is (take (length a - f) (drop f a)) (take k b) ∙ ap (λ (x : List ℕ). zeroed (x ++ take k b)) (from a f ∙ ap (λ (n : ℕ). drop n a) i) ∙ full q l in
      let w : length q % 64 ≡ 0 = omega arith in
      er
      ∙ ap₂ hash_over (eg ∙ ap₂ (λ (x y : List ℕ). compress x (words y)) hashed t ∙ sym (one_block (hash_over h a) q l)) (from b k)
      ∙ hash_on (hash_over h a) q (drop k b) w
      ∙ ap (hash_over (hash_over h a)) (append_assoc (left_of a) (take k b) (drop k b) ∙ ap (λ (x : List ℕ). left_of a ++ x) (take-append-drop k b))
      ∙ hash_front_on h a b

-- ---- the bytes behind them

-- how many these are
pub left_over : (n m : ℕ) → (n % 64 + m % 64) % 64 ≡ (n + m) % 64
left_over n m = omega arith

begins_in_a : (n m r : ℕ) → r ≡ (n + m) % 64 → m ≤ r → 64 * ((n + m) / 64) ≡ n - (r - m)
begins_in_a n m r e h = omega arith

begins_in_b : (n m r : ℕ) → r ≡ (n + m) % 64 → r ≤ m → 64 * ((n + m) / 64) ≡ n + (m - r)
begins_in_b n m r e h = omega arith

in_both : (n m r k : ℕ) → r - k ≤ n → k ≤ m → k ≤ r → n - (n - (r - k)) + (m - (m - k)) ≡ r
in_both n m r k a b c = omega arith

-- r bytes are left, k of them in b and the others in a
module _ (a b : List ℕ) (r k : ℕ) (rest : r ≡ (length a + length b) % 64) (fewer : k ≡ min r (length b)) where
  some : k ≤ r
  some = omega arith

  within : k ≤ length b
  within = omega arith

  all : k < length b → k ≡ r
  all lt = omega arith

  pub reach : r - k ≤ length a
  reach = by (dec_lt k (length b))
    where
      by : Dec (k < length b) → r - k ≤ length a
      by (yes lt) = omega (arith, all lt)
      by (no ge) = omega arith

  pub left_both : left_of (a ++ b) ≡ drop (length a - (r - k)) a ++ drop (length b - k) b
  left_both = by (dec_lt k (length b))
    where
      by : Dec (k < length b) → left_of (a ++ b) ≡ drop (length a - (r - k)) a ++ drop (length b - k) b
      by (yes lt) =
          let e : 64 * (length (a ++ b) / 64) ≡ length a + (length b - k) =
          ap (λ (n : ℕ). 64 * (n / 64)) (length-append a b) ∙ begins_in_b (length a) (length b) r rest (omega (arith, all lt))
          ∙ ap (λ (n : ℕ). length a + (length b - n)) (sym (all lt)) in
          let z : ◌≡◌ {A = List ℕ} (drop (length a - (r - k)) a) [] = drop_of_length-le a {i = length a - (r - k)} (omega (arith, all lt)) in
          ap (λ (n : ℕ). drop n (a ++ b)) e ∙ drop-append-add a b (length b - k)
          ∙ sym (ap (λ (x : List ℕ). x ++ drop (length b - k) b) z)
      by (no ge) =
          let m : length b ≡ k = omega arith in
          let e : 64 * (length (a ++ b) / 64) ≡ length a - (r - k) =
          ap (λ (n : ℕ). 64 * (n / 64)) (length-append a b) ∙ begins_in_a (length a) (length b) r rest (omega arith)
          ∙ ap (λ (n : ℕ). length a - (r - n)) m in
          let z : length b - k ≡ 0 = omega arith in
          ap (λ (n : ℕ). drop n (a ++ b)) e ∙ drop-append-le (length a - (r - k)) a b (omega arith)
          ∙ sym (ap (λ (n : ℕ). drop (length a - (r - k)) a ++ drop n b) z)

  abbrev i : ℕ
  i = length a - (r - k)

  abbrev j : ℕ
  j = length b - k

  pub length_both : length (take (length a - i) (drop i a)) + length (take (length b - j) (drop j b)) ≡ (length a + length b) % 64
  length_both =
      ap₂ (λ (x y : ℕ). x + y) (ap length (from a i) ∙ length-drop i a) (ap length (from b j) ∙ length-drop j b)
      ∙ in_both (length a) (length b) r k reach within some ∙ rest

  pub ends_both : (h : List ℕ) (n : ℕ) {s d : List ℕ} → s ≡ hash_over h (a ++ b)
      → d ≡ digest_after s (take (length a - i) (drop i a) ++ take (length b - j) (drop j b)) n → d ≡ digest_after h (a ++ b) n
  ends_both h n {s} hashed e =
      e ∙ ap₂ (λ (x y : List ℕ). digest_after s (x ++ y) n) (from a i) (from b j)
      ∙ ap₂ (λ (x y : List ℕ). digest_after x y n) hashed (sym left_both) ∙ after_blocks h (a ++ b) n

-- the count is taken modulo 2^64
pub wrapped : (m : List ℕ) (n : ℕ) → n ≡ length m % 2 ^ 64 → digest_after H0 m n ≡ sha256 m
unfolding digest_after
wrapped m n e =
    ap (λ (x : List ℕ). bytes (hash H0 (m ++ x) (length (m ++ x) / 64))) (ap padding e ∙ padding_wrap (length m)) ∙ digest_law m
