-- The bytes of the first words of a hash value, as a loop writes them, one word behind another.
use Rattle.std.proofs.Common.{◌≡◌, ℕ, zero, suc, ◌+◌, ◌*◌, ◌≤◌, List, [], ◌++◌, length, take, sym, refl, ap, ◌∙◌, arith, add-one}
use Rattle.std.proofs.lemmas.List.{take_all}
use Rattle.std.proofs.lemmas.Slice.{take-put_mid}
use Rattle.std.specs.Int.{w32, to_be_bytes}
use borrow.Rule.Slice.PartMut.{put_mid}
use Rattle.digest_fips180.specs.Sha256.{◌!◌, big_endian, bytes}
use Rattle.digest_fips180.proofs.Bytes.{bytes_are}

abbrev pub bytes_of : List ℕ → ℕ → List ℕ
bytes_of h zero = []
bytes_of h (suc n) = bytes_of h n ++ big_endian 4 (h ! n)

-- one word more
pub words_more : (h l : List ℕ) (n k : ℕ) {w : List ℕ} → take (4 * n) l ≡ bytes_of h n → 4 * n + 4 ≤ length l → w ≡ to_be_bytes w32 (h ! n)
    → take (4 * (n + 1)) (put_mid (4 * n) k l w) ≡ bytes_of h (n + 1)
words_more h l n k {w} p b q =
    let e : 4 * (n + 1) ≡ 4 * n + length w = omega (arith, ap length q) in
    take-put_mid (4 * n) k l w (4 * (n + 1)) e (omega arith) ∙ rw (add-one, p, q, bytes_are 4 (h ! n)) refl

-- all eight
pub words_all : (h l : List ℕ) → length l ≡ 32 → take 32 l ≡ bytes_of h 8 → l ≡ bytes h
unfolding bytes big_endian
words_all h l e p = sym (take_all 32 l (omega arith)) ∙ p
