-- The pending block, as the code makes it.
use Rattle.std.proofs.Common.{◌≡◌, ℕ, ◌+◌, ◌-◌, ◌*◌, ◌/◌, ◌%◌, ◌^◌, ◌<◌, List, [], ◌++◌, length, take, drop, replicate, sym, refl, ap, ◌∙◌, ap₂, append-nil, arith, length-append, length-drop, take-append-drop, drop_of_length-le, take_all}
use lib.Seq.{take-append-le}
use Rattle.std.proofs.lemmas.List.{drop-replicate}
use Rattle.digest_sha256.specs.declared.Hasher.{Hasher}
use Rattle.digest_fips180.specs.Sha256.{block, words, compress, hash}
use Rattle.digest_sha256.specs.Parts.{zeroed, settle, waiting, absorb_of, finish_of, digest_after}
use Rattle.digest_sha256.proofs.Concatenation.{same, length_waiting, concatenation, after_blocks}

-- a slice's elements from n on
pub from : (p : List ℕ) (n : ℕ) → take (length p - n) (drop n p) ≡ drop n p
from p n = take_all (length p - n) (drop n p) (rw length-drop (omega arith))

-- the hash value g after the whole blocks of m, and the bytes from there on
pub behind_blocks : (h m : List ℕ) (n f : ℕ) (g : List ℕ) → f ≡ 64 * (length m / 64) → g ≡ hash h m (length m / 64)
    → digest_after g (take (length m - f) (drop f m)) n ≡ digest_after h m n
behind_blocks h m n f g e eg =
    ap₂ (λ (x b : List ℕ). digest_after x b n) eg (from m f ∙ ap (λ (k : ℕ). drop k m) e) ∙ after_blocks h m n

-- x, and y behind it, over the front of zeros, as `lay` leaves them
abbrev pub laid : List ℕ → List ℕ → List ℕ
laid x y = (x ++ y) ++ drop (length x + length y) (replicate 64 0)

pub laid_is : (x y : List ℕ) → laid x y ≡ zeroed (x ++ y)
laid_is x y =
    ap (λ (l : List ℕ). (x ++ y) ++ l)
    (drop-replicate (length x + length y) 64 0 ∙ ap (λ (k : ℕ). replicate (64 - k) 0) (sym (length-append x y)))

-- what waits stands in the pending block
pub waits : (d : Hasher) → length d.pending ≡ 64 → take (d.count % 64) d.pending ≡ waiting d
unfolding waiting
waits d l = sym (take-append-le (d.count % 64) d.pending (replicate 64 0) (omega arith))

-- the digest of what waits, behind the hash value
pub finished_law : (d : Hasher) {r : List ℕ} → length d.pending ≡ 64 → r ≡ digest_after d.words (take (d.count % 64) d.pending) d.count → r ≡ finish_of d
unfolding finish_of absorb_of settle digest_after
finished_law d l e = e ∙ ap (λ (b : List ℕ). digest_after d.words b d.count) (waits d l)

-- a part laid behind what waits
pub laid_waiting : (d : Hasher) (p : List ℕ) → length d.pending ≡ 64 → laid (take (d.count % 64) d.pending) p ≡ zeroed (waiting d ++ p)
laid_waiting d p l = laid_is (take (d.count % 64) d.pending) p ∙ ap (λ (w : List ℕ). zeroed (w ++ p)) (waits d l)

module _ (d : Hasher) (p : List ℕ) where
  abbrev k : ℕ
  k = d.count % 64

  length_all : length (waiting d ++ p) ≡ k + length p
  length_all = length-append (waiting d) p ∙ ap (λ x. x + length p) (length_waiting d)

  -- the block is not full
  pub waits_law : {t : List ℕ} {n : ℕ} → k + length p < 64 → t ≡ zeroed (waiting d ++ p) → n ≡ (d.count + length p) % 2 ^ 64
      → ◌≡◌ {A = Hasher} (record { words = d.words; pending = t; count = n }) (absorb_of d p)
  unfolding absorb_of settle hash
  waits_law h et en =
      let z : length (waiting d ++ p) / 64 ≡ 0 = omega (arith, length_all) in
      let m : length (waiting d ++ p) % 64 ≡ length (waiting d ++ p) = omega (arith, length_all) in
      rw (z, m) (same refl et en)

  -- the block is full
  pub full_law : {t h : List ℕ} {n : ℕ} → k + length p ≡ 64 → t ≡ zeroed (waiting d ++ p) → h ≡ compress d.words (words t)
      → n ≡ (d.count + length p) % 2 ^ 64
      → ◌≡◌ {A = Hasher} (record { words = h; pending = replicate 64 0; count = n }) (absorb_of d p)
  unfolding absorb_of settle hash block
  full_law {t} h et eh en =
      let b : List ℕ = waiting d ++ p in
      let l : length b ≡ 64 = length_all ∙ h in
      let f : t ≡ take 64 b = et ∙ ap (λ x. b ++ replicate (64 - x) 0) l ∙ append-nil b ∙ sym (take_all 64 b (omega arith)) in
      let dn : drop 64 b ≡ [] = drop_of_length-le b {i = 64} (omega arith) in
      rw l (same (eh ∙ ap (λ x. compress d.words (words x)) f) (ap (λ x. x ++ replicate 64 0) (sym dn)) en)

  -- nothing waits
  pub blocks_law : {f n : ℕ} {h t : List ℕ} → k ≡ 0 → f ≡ length p - length p % 64 → h ≡ hash d.words p (length p / 64)
      → t ≡ laid (take (length p - f) (drop f p)) [] → n ≡ (d.count + length p) % 2 ^ 64
      → ◌≡◌ {A = Hasher} (record { words = h; pending = t; count = n }) (absorb_of d p)
  unfolding absorb_of settle waiting
  blocks_law {f} e ef eh et en =
      let l : length (drop f p) ≡ length p % 64 = length-drop f p ∙ omega arith in
      let g : f ≡ 64 * (length p / 64) = omega arith in
      rw e (same eh
      (et ∙ laid_is (take (length p - f) (drop f p)) [] ∙ ap zeroed (append-nil (take (length p - f) (drop f p)) ∙ from p f)
      ∙ ap₂ (λ x y. drop x p ++ replicate (64 - y) 0) g l) en)

-- a part is cut where the block is full
pub split_law : (d e : Hasher) (p : List ℕ) (n : ℕ) {r : Hasher}
    → e ≡ absorb_of d (take n p) → r ≡ absorb_of e (take (length p - n) (drop n p)) → r ≡ absorb_of d p
split_law d e p n f g =
    g ∙ ap₂ absorb_of f (from p n) ∙ concatenation d (take n p) (drop n p) ∙ ap (absorb_of d) (take-append-drop n p)

-- the count after the block is full
pub full_count : (d e : Hasher) (a : List ℕ) → (d.count + length a) % 64 ≡ 0 → e ≡ absorb_of d a → e.count % 64 ≡ 0
unfolding absorb_of settle
full_count d e a h f =
    let c : e.count ≡ (d.count + length a) % 2 ^ 64 = ap (λ x. x.count) f in
    omega arith
