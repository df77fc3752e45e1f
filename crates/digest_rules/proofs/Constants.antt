-- The constants follow their rule: one test over each table, which antt computes.
use mathlib.Core.Path.{◌≡◌, refl}
use mathlib.Core.Bool.{Bool, true, cond, not, ◌&&◌}
use mathlib.Core.List.{List}
use Prim.Native.Nat.{ℕ, zero, suc, ◌+◌, ◌-◌, ◌*◌, ◌%◌, ◌^◌, ◌≤◌, ◌<◌}
use native.Mathlib.Nat.{le_of_suc-le-suc, not-suc-le-zero}
use native.Mathlib.Omega.{arith}
use lib.Dec.{T, leb, ltb, eqb, leb→le, le→leb, ltb→lt, eqb→eq, T_not, not_T}
use lib.Ieee.Fits.{and_i, and_l, and_r}
use lib.ListN.{length}
use Rattle.digest_fips180.specs.Sha256.{◌!◌, K, H0}
use Rattle.digest_rules.specs.Rules.{Prime, NextPrime, primes, FirstPrimes, Fraction, RootTable, ConstantsRule}

-- ---- tests

-- the test f passes at each number below n
abbrev all : ℕ → (ℕ → Bool) → Bool
all zero f = true
all (suc n) f = f 0 && all n (λ i. f (suc i))

all_at : (n : ℕ) (f : ℕ → Bool) → T (all n f) → (t : ℕ) → t < n → T (f t)
all_at zero f p t l = absurd (not-suc-le-zero l)
all_at (suc n) f p zero l = and_l (f 0) (all n (λ i. f (suc i))) p
all_at (suc n) f p (suc t) l = all_at n (λ i. f (suc i)) (and_r (f 0) (all n (λ i. f (suc i))) p) t (le_of_suc-le-suc l)

all_of : (n : ℕ) (f : ℕ → Bool) → ((t : ℕ) → t < n → T (f t)) → T (all n f)
all_of zero f p = tt
all_of (suc n) f p = and_i (f 0) (all n (λ i. f (suc i))) (p 0 (omega arith)) (all_of n (λ i. f (suc i)) (λ t l. p (suc t) (omega arith)))

-- ---- primes

-- i + 2 does not divide p
unfoldable keeps : ℕ → ℕ → Bool
keeps p i = not (eqb (p % (i + 2)) 0)

unfoldable prime? : ℕ → Bool
prime? p = leb 2 p && all (p - 2) (keeps p)

prime_sound : (p : ℕ) → T (prime? p) → Prime p
unfolding prime? keeps
prime_sound p t =
    let l : 2 ≤ p = leb→le 2 p (and_l (leb 2 p) _ t) in
    record {
      least = l;
      only = λ d g h e.
          let s : d - 2 + 2 ≡ d = omega arith in
          let n = all_at (p - 2) (keeps p) (and_r (leb 2 p) _ t) (d - 2) (omega arith) in
          T_not (eqb (p % (d - 2 + 2)) 0) n (rw (s, e) tt);
    }

prime_complete : (p : ℕ) → Prime p → T (prime? p)
unfolding prime? keeps
prime_complete p r =
    let l : 2 ≤ p = r.least in
    and_i (leb 2 p) (all (p - 2) (keeps p)) (le→leb 2 p l)
    (all_of (p - 2) (keeps p) (λ i h. not_T (eqb (p % (i + 2)) 0) (λ w. r.only (i + 2) (omega arith) (omega arith) (eqb→eq (p % (i + 2)) 0 w))))

-- the number i + 1 above p is no prime
unfoldable passes : ℕ → ℕ → Bool
passes p i = not (prime? (p + 1 + i))

unfoldable next? : ℕ → ℕ → Bool
next? p q = ltb p q && (prime? q && all (q - (p + 1)) (passes p))

next_sound : (p q : ℕ) → T (next? p q) → NextPrime p q
unfolding next? passes
next_sound p q t =
    let r = and_r (ltb p q) _ t in
    record {
      above = ltb→lt p q (and_l (ltb p q) _ t);
      prime = prime_sound q (and_l (prime? q) _ r);
      none = λ d g h w.
          let s : p + 1 + (d - (p + 1)) ≡ d = omega arith in
          let n = all_at (q - (p + 1)) (passes p) (and_r (prime? q) _ r) (d - (p + 1)) (omega arith) in
          T_not (prime? (p + 1 + (d - (p + 1)))) n (rw s (prime_complete d w));
    }

next_at : ℕ → Bool
next_at t = next? (primes ! t) (primes ! (t + 1))

first_primes : FirstPrimes
unfolding primes next? prime? passes keeps next_at
first_primes =
    record {
      first = next_sound 0 (primes ! 0) tt;
      next = λ t h. next_sound (primes ! t) (primes ! (t + 1)) (all_at 63 next_at tt t h);
    }

-- ---- fractions

-- the greatest number up to n whose e-th power is at most p
unfoldable whole_root : ℕ → ℕ → ℕ → ℕ
whole_root e p zero = zero
whole_root e p (suc n) = cond (leb (suc n ^ e) p) (suc n) (whole_root e p n)

unfoldable fraction? : ℕ → ℕ → ℕ → Bool
fraction? e p k =
    let q : ℕ = whole_root e p 18 in
    ltb k (2 ^ 32) && (leb ((q * 2 ^ 32 + k) ^ e) (p * (2 ^ 32) ^ e) && ltb (p * (2 ^ 32) ^ e) ((q * 2 ^ 32 + k + 1) ^ e))

fraction_sound : (e p k : ℕ) → T (fraction? e p k) → Fraction e p k
unfolding fraction?
fraction_sound e p k t =
    let q : ℕ = whole_root e p 18 in
    let r = and_r (ltb k (2 ^ 32)) _ t in
    let low = leb ((q * 2 ^ 32 + k) ^ e) (p * (2 ^ 32) ^ e) in
    record {
      whole = q;
      small = ltb→lt k (2 ^ 32) (and_l (ltb k (2 ^ 32)) _ t);
      below = leb→le ((q * 2 ^ 32 + k) ^ e) (p * (2 ^ 32) ^ e) (and_l low _ r);
      above = ltb→lt (p * (2 ^ 32) ^ e) ((q * 2 ^ 32 + k + 1) ^ e) (and_r low _ r);
    }

fraction_at : ℕ → List ℕ → ℕ → Bool
fraction_at e l t = fraction? e (primes ! t) (l ! t)

table_sound : (e n : ℕ) (l : List ℕ) → length l ≡ n → T (all n (fraction_at e l)) → RootTable e n l
unfolding fraction_at
table_sound e n l s t =
    record { size = s; entry = λ i h. fraction_sound e (primes ! i) (l ! i) (all_at n (fraction_at e l) t i h) }

pub constants : ConstantsRule
unfolding K H0 primes fraction_at fraction? whole_root
constants =
    record {
      primes_rule = first_primes;
      K-rule = table_sound _ _ _ refl tt;
      H0-rule = table_sound _ _ _ refl tt;
    }
