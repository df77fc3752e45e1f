-- Numbers and bytes as text, read again. Assumes nothing.
use mathlib.Core.Path.{◌≡◌, refl, sym, ap, ap₂, ◌∙◌}
use Prim.Native.Nat.{ℕ, zero, suc, ◌+◌, ◌-◌, ◌*◌, ◌/◌, ◌%◌, ◌^◌, ◌≤◌, ◌<◌}
use mathlib.Core.List.{List, [], ◌∷◌, ◌++◌}
use mathlib.Core.Bool.{Bool, true, false, cond, not, ◌&&◌, true≢false}
use native.Mathlib.Omega.{arith}
use native.Mathlib.Nat.{pow-suc, div-lt_iff_lt-mul}
use lib.ListN.{length, length-append}
use lib.Dec.{eqb, ltb}
use borrow.Author.Tests.{lt-ltb, le-leb, eq-eqb, ltb-true, ltb-false, eqb-true}
use Rattle.numbers.specs.Every.{Every}
use Rattle.io.specs.Digits.{hex_digit_ascii, last_digits}
use Rattle.listing_lines.specs.Lines.{digit_count, decimal as decimal_text}
use Rattle.listing_lines.proofs.Numbers.{fewest_digits}
use Rattle.release_digits.specs.Digits.{is_digit, all_digits, number_from, decimal, decimal_up_to, hex_digit, all_hex, hex_digits, hex_bytes}
use Rattle.numbers.proofs.Tests.{first_of, second_of}
use Rattle.release_digits.proofs.Laws.{both, inside, not_above, is_digit_lem}
use Rattle.header_tags.specs.Bytes.{same}
use Rattle.release_lines.specs.Lines.{no_hint}
use Rattle.header_tags.proofs.Same.{same_true}
use Rattle.release_claims.specs.ReadsBack.{hex_text}

-- ---- decimal numbers

-- one digit more at the end
number_end : (n : ℕ) (l : List ℕ) (c : ℕ) → number_from n (l ++ (c ∷ [])) ≡ 10 * number_from n l + (c - 48)
unfolding number_from
number_end n [] c = refl
number_end n (d ∷ l) c = number_end (10 * n + (d - 48)) l c

digits_end : (l : List ℕ) (c : ℕ) → all_digits l ≡ true → is_digit c ≡ true → all_digits (l ++ (c ∷ [])) ≡ true
unfolding all_digits
digits_end [] c e d = both d refl
digits_end (b ∷ l) c e d = both (first_of (is_digit b) (all_digits l) e) (digits_end l c (second_of (is_digit b) (all_digits l) e) d)

glyph_is : (d : ℕ) → d < 10 → hex_digit_ascii d ≡ 48 + d
glyph_is d lt = rw (lt-ltb d 10 lt)

written_digits : (k n : ℕ) → all_digits (last_digits 10 k n) ≡ true
unfolding all_digits
written_digits zero n = refl
written_digits (suc k) n =
    let small : n % 10 < 10 = omega arith in
    digits_end (last_digits 10 k (n / 10)) (hex_digit_ascii (n % 10)) (written_digits k (n / 10)) (rw (glyph_is (n % 10) small) (is_digit_lem (48 + n % 10) (omega arith) (omega arith)))

written_number : (k n : ℕ) → n < 10 ^ k → decimal (last_digits 10 k n) ≡ n
unfolding number_from
written_number zero n lt = omega arith
written_number (suc k) n lt =
    let small : n % 10 < 10 = omega arith in
    let tenth : n / 10 < 10 ^ k = (div-lt_iff_lt-mul {k = 10} {x = n} {y = 10 ^ k} (omega arith)).1 (rw (← pow-suc 10 k) lt) in
    number_end 0 (last_digits 10 k (n / 10)) (hex_digit_ascii (n % 10))
    ∙ rw (written_number k (n / 10) tenth, glyph_is (n % 10) small) (omega arith)

written_length : (b k n : ℕ) → length (last_digits b k n) ≡ k
written_length b zero n = refl
written_length b (suc k) n = simp (length-append, written_length b k (n / b)) (omega arith)

pub text_digits : (n : ℕ) → all_digits (decimal_text n) ≡ true
unfolding decimal_text
text_digits n = written_digits (digit_count n) n

pub text_number : (n : ℕ) → decimal (decimal_text n) ≡ n
unfolding decimal_text
text_number n = written_number (digit_count n) n (fewest_digits n).1

text_some : (n : ℕ) → 0 < length (decimal_text n)
unfolding decimal_text
text_some n = omega (arith, written_length 10 (digit_count n) n, (fewest_digits n).0)

pub text_taken : (most n : ℕ) → n ≤ most → decimal_up_to most (decimal_text n) ≡ true
text_taken most n le = both (lt-ltb 0 (length (decimal_text n)) (text_some n)) (both (text_digits n) (rw (text_number n) (le-leb n most le)))

-- ---- hexadecimal digits

hex_glyph : (d : ℕ) → d < 16 → hex_digit (hex_digit_ascii d) ≡ d
hex_glyph d lt = go (ltb d 10) refl
  where
    go : (b : Bool) → ltb d 10 ≡ b → hex_digit (cond b (48 + d) (87 + d)) ≡ d
    go true e = let k = ltb-true d 10 e in rw (is_digit_lem (48 + d) (omega arith) (omega arith)) (omega arith)
    go false e =
        let k = ltb-false d 10 e in
        rw (not_above (87 + d) (omega arith), inside 97 102 (87 + d) (omega arith) (omega arith)) (omega arith)

module _ (b : ℕ) (lt : b < 256) where
  high : b / 16 % 16 < 16
  high = omega arith

  low : b % 16 < 16
  low = omega arith

  byte_is : 16 * hex_digit (hex_digit_ascii (b / 16 % 16)) + hex_digit (hex_digit_ascii (b % 16)) ≡ b
  byte_is = rw (hex_glyph (b / 16 % 16) high, hex_glyph (b % 16) low) (omega arith)

  byte_hex : (l : List ℕ) → all_hex l ≡ true → all_hex (last_digits 16 2 b ++ l) ≡ true
  unfolding all_hex
  byte_hex l e =
      let h : ltb (hex_digit (hex_digit_ascii (b / 16 % 16))) 16 ≡ true = rw (hex_glyph (b / 16 % 16) high) (lt-ltb _ _ high) in
      let k : ltb (hex_digit (hex_digit_ascii (b % 16))) 16 ≡ true = rw (hex_glyph (b % 16) low) (lt-ltb _ _ low) in
      both h (both k e)

pub hex_length : (l : List ℕ) → length (hex_text l) ≡ 2 * length l
unfolding hex_text
hex_length [] = refl
hex_length (b ∷ l) = omega (arith, hex_length l)

pub hex_all : (l : List ℕ) → Every (λ b. b < 256) l → all_hex (hex_text l) ≡ true
unfolding hex_text all_hex
hex_all [] e = refl
hex_all (b ∷ l) e = byte_hex b e.0 (hex_text l) (hex_all l e.1)

pub hex_back : (l : List ℕ) → Every (λ b. b < 256) l → hex_bytes (hex_text l) ≡ l
unfolding hex_text hex_bytes
hex_back [] e = refl
hex_back (b ∷ l) e = ap₂ (λ (x : ℕ) (m : List ℕ). x ∷ m) (byte_is b e.0) (hex_back l e.1)

pub hex_taken : (n : ℕ) (l : List ℕ) → Every (λ b. b < 256) l → length l ≡ n → hex_digits (2 * n) (hex_text l) ≡ true
hex_taken n l e len = both (eq-eqb (length (hex_text l)) (2 * n) (hex_length l ∙ ap (λ (k : ℕ). 2 * k) len)) (hex_all l e)

-- 64 digits are not "no"
pub hex_not_no : (l : List ℕ) → length l ≡ 32 → same (hex_text l) no_hint ≡ false
hex_not_no l len = go (same (hex_text l) no_hint) refl
  where
    go : (b : Bool) → same (hex_text l) no_hint ≡ b → b ≡ false
    go true e = absurd (let k = ap (λ (m : List ℕ). length m) (same_true (hex_text l) no_hint e) in omega (arith, hex_length l))
    go false e = refl

-- ---- no line feed in them

unfoldable pub no_feed : List ℕ → Bool
no_feed [] = true
no_feed (c ∷ l) = not (eqb c 10) && no_feed l

-- what a test that a line feed does not pass says of a byte
not_feed : (test : ℕ → Bool) → test 10 ≡ false → (c : ℕ) → test c ≡ true → not (eqb c 10) ≡ true
not_feed test f c t = go (eqb c 10) refl
  where
    go : (b : Bool) → eqb c 10 ≡ b → not b ≡ true
    go true e = absurd (true≢false (sym t ∙ ap test (eqb-true c 10 e) ∙ f))
    go false e = refl

pub digits_no_feed : (l : List ℕ) → all_digits l ≡ true → no_feed l ≡ true
unfolding all_digits no_feed
digits_no_feed [] e = refl
digits_no_feed (c ∷ l) e =
    both (not_feed (λ x. is_digit x) refl c (first_of (is_digit c) (all_digits l) e)) (digits_no_feed l (second_of (is_digit c) (all_digits l) e))

pub hex_no_feed : (l : List ℕ) → all_hex l ≡ true → no_feed l ≡ true
unfolding all_hex no_feed
hex_no_feed [] e = refl
hex_no_feed (c ∷ l) e =
    both (not_feed (λ x. ltb (hex_digit x) 16) refl c (first_of (ltb (hex_digit c) 16) (all_hex l) e))
    (hex_no_feed l (second_of (ltb (hex_digit c) 16) (all_hex l) e))
