-- Digits, and what they stand for. Assumes nothing.
use mathlib.Core.Path.{◌≡◌, refl, sym, ◌∙◌}
use Prim.Native.Nat.{ℕ, zero, suc, ◌+◌, ◌-◌, ◌*◌, ◌≤◌, ◌<◌}
use mathlib.Core.List.{List, [], ◌∷◌, ◌++◌, append_assoc, append-nil}
use mathlib.Core.Bool.{Bool, true, false, ◌&&◌, cond}
use Rattle.std.proofs.Math.Bool.{and-false}
use native.Mathlib.Omega.{arith}
use native.Mathlib.Numerals.{add-one}
use lib.ListN.{length, get_or, take, drop, set, drop_of_length-le}
use lib.Seq.{drop-cons, take-suc-set, take_all}
use lib.Dec.{ltb, leb}
use borrow.Author.Tests.{lt-ltb, le-ltb, lt-leb, le-leb, leb-true, ltb-true}
use Rattle.std.specs.Prelude.{Option, Some, None, SomeIff, IsSome}
use Rattle.std.specs.Option.{is_some}
use Rattle.numbers.proofs.Tests.{first_of, second_of}
use Rattle.release_digits.specs.Digits.{between, is_digit, all_digits, number_from, decimal, decimal_up_to, hex_digit, all_hex, hex_bytes}

-- ---- tests

pub both : {a b : Bool} → a ≡ true → b ≡ true → a && b ≡ true
both p q = rw (p, q)

pub inside : (a b c : ℕ) → a ≤ c → c ≤ b → between a b c ≡ true
inside a b c p q = rw (le-leb a c p, le-leb c b q)

pub above : (a b c : ℕ) → b < c → between a b c ≡ false
above a b c p = rw (lt-leb c b p) (and-false (leb a c))

-- a digit is one of "0" to "9", and a byte behind them is none
pub not_above : (c : ℕ) → 57 < c → is_digit c ≡ false
not_above c p = above _ _ c p

pub is_digit_lem : (c : ℕ) → 48 ≤ c → c ≤ 57 → is_digit c ≡ true
is_digit_lem c p q = inside _ _ c (omega arith) q

-- ---- decimal numbers

-- a number does not fall by digits behind it
from_below : (n : ℕ) (l : List ℕ) → n ≤ number_from n l
unfolding number_from
from_below n [] = omega arith
from_below n (c ∷ l) = omega (arith, from_below (10 * n + (c - 48)) l)

-- From place i of s on, behind digits that stand for n, it goes as from the start.
pub record Read (s : List ℕ) (n i : ℕ) : Type 0 where
  pub digits : all_digits (drop i s) ≡ all_digits s
  pub is : number_from n (drop i s) ≡ decimal s

pub nothing_read : (s : List ℕ) → Read s 0 0
nothing_read s = record { digits = refl; is = refl }

module _ {s : List ℕ} {n i : ℕ} (read : Read s n i) where
  module _ (lt : i < length s) where
    here_digits : all_digits s ≡ is_digit (get_or s i 0) && all_digits (drop (suc i) s)
    unfolding all_digits
    here_digits = sym read.digits ∙ rw (drop-cons s i 0 lt)

    here_number : decimal s ≡ number_from (10 * n + (get_or s i 0 - 48)) (drop (suc i) s)
    unfolding number_from
    here_number = sym read.is ∙ rw (drop-cons s i 0 lt)

    pub one_read : is_digit (get_or s i 0) ≡ true → Read s (10 * n + (get_or s i 0 - 48)) (i + 1)
    one_read d = record { digits = rw add-one (sym (here_digits ∙ rw d)); is = rw add-one (sym here_number) }

    -- a digit or a number that is refused
    pub refuses : (most : ℕ) → (is_digit (get_or s i 0) && leb (10 * n + (get_or s i 0 - 48)) most ≡ true → ⊥) → decimal_up_to most s ≡ true → ⊥
    refuses most not e =
        let tests = second_of (ltb 0 (length s)) (all_digits s && leb (decimal s) most) e in
        let digit = first_of (is_digit (get_or s i 0)) (all_digits (drop (suc i) s)) (sym here_digits ∙ first_of (all_digits s) (leb (decimal s) most) tests) in
        let le = leb-true (decimal s) most (second_of (all_digits s) (leb (decimal s) most) tests) in
        not (rw (digit, le-leb (10 * n + (get_or s i 0 - 48)) most (omega (arith, here_number, from_below (10 * n + (get_or s i 0 - 48)) (drop (suc i) s)))))

  -- at the end
  module _ (end : length s ≤ i) where
    end_digits : all_digits s ≡ true
    unfolding all_digits
    end_digits = sym read.digits ∙ rw (drop_of_length-le s end)

    end_number : n ≡ decimal s
    unfolding number_from
    end_number = rw (drop_of_length-le s end) at read.is

    pub all_read : (most : ℕ) → 0 < length s → n ≤ most → (decimal_up_to most s ≡ true) × (n ≡ decimal s)
    all_read most some le = (rw (lt-ltb _ _ some, end_digits, ← end_number, le-leb _ _ le), end_number)

-- ---- hexadecimal digits

pub hex_inside : (c : ℕ) → hex_digit c ≤ 16
hex_inside c = go (is_digit c) (between 97 102 c) (between 65 70 c) refl refl refl
  where
    go : (a b d : Bool) → is_digit c ≡ a → between 97 102 c ≡ b → between 65 70 c ≡ d → cond a (c - 48) (cond b (c - 87) (cond d (c - 55) 16)) ≤ 16
    go true b d p q r = let k = leb-true c 57 (second_of (leb 48 c) (leb c 57) p) in omega arith
    go false true d p q r = let k = leb-true c 102 (second_of (leb 97 c) (leb c 102) q) in omega arith
    go false false true p q r = let k = leb-true c 70 (second_of (leb 65 c) (leb c 70) r) in omega arith
    go false false false p q r = omega arith

-- each of them
pub hex_each : (s : List ℕ) (i : ℕ) → all_hex s ≡ true → i < length s → hex_digit (get_or s i 0) < 16
unfolding all_hex
hex_each [] i e lt = absurd (omega arith)
hex_each (c ∷ l) zero e lt = ltb-true _ _ (first_of (ltb (hex_digit c) 16) (all_hex l) e)
hex_each (c ∷ l) (suc i) e lt = hex_each l i (second_of (ltb (hex_digit c) 16) (all_hex l) e) (omega arith)

-- what a byte's worth as a digit tells
pub digit_there : (o : Option ℕ) {n : ℕ} → SomeIff o (n < 16) n → n < 16 → IsSome o
digit_there (Some x) e lt = refl
digit_there None e lt = absurd (e lt)

pub digit_told : (o : Option ℕ) (n : ℕ) → SomeIff o (n < 16) n → is_some o ≡ ltb n 16
digit_told (Some x) n e = sym (lt-ltb n 16 e.0)
digit_told None n e = sym (le-ltb n 16 (omega (arith, e)))

-- two digits are one byte
bytes_next : (s : List ℕ) (j : ℕ) → j + 1 < length s
    → hex_bytes (drop j s) ≡ (16 * hex_digit (get_or s j 0) + hex_digit (get_or s (j + 1) 0)) ∷ hex_bytes (drop (j + 2) s)
unfolding hex_bytes
bytes_next s j lt =
    let e : j + 2 ≡ suc (j + 1) = omega arith in
    let f : j + 1 ≡ suc j = omega arith in
    rw (e, drop-cons s j 0 (omega arith), ← f, drop-cons s (j + 1) 0 lt)

-- The first i bytes stand in o, and those behind them are still to come.
pub record Put (s o : List ℕ) (i : ℕ) : Type 0 where
  pub is : take i o ++ hex_bytes (drop (2 * i) s) ≡ hex_bytes s

pub one_put : {s o : List ℕ} {i : ℕ} (x : ℕ) → Put s o i → i < length o → length s ≡ 2 * length o
    → x ≡ 16 * hex_digit (get_or s (2 * i) 0) + hex_digit (get_or s (2 * i + 1) 0) → Put s (set o i x) (i + 1)
one_put {s} {o} {i} x p lt len e =
    let two : 2 * (i + 1) ≡ 2 * i + 2 = omega arith in
    record {
      is =
          rw (two, add-one, take-suc-set o i x lt, append_assoc, e, ← bytes_next s (2 * i) (omega arith)) p.is;
    }

pub all_put : {s o : List ℕ} {i : ℕ} → Put s o i → length o ≤ i → length s ≡ 2 * length o → o ≡ hex_bytes s
unfolding hex_bytes
all_put {s} {o} {i} p le len =
    sym (append-nil o) ∙ rw (take_all i o le, drop_of_length-le s {i = 2 * i} (omega arith)) at p.is
