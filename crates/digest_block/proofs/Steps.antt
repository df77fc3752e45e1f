-- One more round, and one more block.
use Rattle.std.proofs.Common.{◌≡◌, ℕ, ◌+◌, ◌*◌, ◌/◌, ◌<◌, ◌≤◌, List, ◌++◌, length, take, drop, refl, sym, ap, ap₂, ◌∙◌, add-one, arith, length-append, length-drop, drop-drop, take_at, drop_at}
use Rattle.digest_fips180.specs.Sha256.{◌!◌, K, block, words, compress, hash}
use Rattle.digest_rounds.specs.declared.Rounds.{Rounds}
use Rattle.digest_rounds.specs.Window.{round_on, begin, after}

-- no round
pub none : (m h : List ℕ) → ◌≡◌ {A = Rounds} (record { window = m; variables = h }) (after (begin m h) 0)
unfolding begin after
none m h = refl

-- one more round
pub round_more : (b : Rounds) (t u : ℕ) {x r : Rounds} → x ≡ after b t → r ≡ round_on x t (K ! t) → u ≡ t + 1 → r ≡ after b u
unfolding after
round_more b t u p q e = rw (e, add-one) (q ∙ ap (λ y. round_on y t (K ! t)) p)

-- s is the hash value after n blocks of m, from h on, and l is what is left of m
pub record Hashed (h m s l : List ℕ) (n : ℕ) : Type 0 where
  pub value : s ≡ hash h m n
  pub left : l ≡ drop (64 * n) m
  pub within : 64 * n ≤ length m

-- no block
pub hashed_none : (h m : List ℕ) {l : List ℕ} → l ≡ m → Hashed h m h l 0
unfolding hash
hashed_none h m e = record { value = refl; left = e; within = omega arith }

-- one block more, x
pub hashed_more : (x t : List ℕ) {h m s l r : List ℕ} {n k : ℕ} → Hashed h m s l n → k ≡ n + 1 → l ≡ x ++ t → length x ≡ 64 → r ≡ compress s (words x)
    → Hashed h m r t k
unfolding hash block
hashed_more x t {m = m} {n = n} {k = k} d e cut whole p =
    let behind : drop (64 * n) m ≡ x ++ t = sym d.left ∙ cut in
    let first : x ≡ take 64 (drop (64 * n) m) = sym (take_at x t 64 whole) ∙ ap (take 64) (sym behind) in
    let next : 64 * n + 64 ≡ 64 * k = omega arith in
    record {
      value = rw (e, add-one) (p ∙ ap₂ compress d.value (ap words first));
      left = sym (drop_at x t 64 whole) ∙ ap (drop 64) (sym behind) ∙ drop-drop 64 (64 * n) m ∙ ap (λ j. drop j m) next;
      within = omega (arith, simp (length-append, length-drop) at (ap length behind));
    }

-- all whole blocks
pub hashed_all : {h m s l : List ℕ} {n : ℕ} → Hashed h m s l n → length l < 64 → s ≡ hash h m (length m / 64)
hashed_all {h} {m} {n = n} d few =
    let e : n ≡ length m / 64 = omega (arith, simp length-drop at (ap length d.left), d.within) in
    d.value ∙ ap (hash h m) e
