-- What is read can be written again. Assumes nothing.
use mathlib.Core.Path.{◌≡◌, refl, ap}
use Prim.Native.Nat.{ℕ, zero, suc, ◌-◌, ◌*◌, ◌^◌, ◌≤◌, ◌<◌}
use mathlib.Core.List.{List, [], ◌∷◌}
use mathlib.Core.Bool.{Bool, true, false, cond, not, ◌&&◌, ◌||◌}
use native.Mathlib.Omega.{arith}
use lib.ListN.{length, replicate}
use lib.Dec.{ltb, leb, lit<}
use borrow.Author.Tests.{ltb-true, leb-true, not-false}
use Rattle.numbers.specs.Every.{Every}
use Rattle.release_digits.specs.Digits.{all_digits, decimal, decimal_up_to, hex_digit, all_hex, hex_digits, hex_bytes}
use Rattle.numbers.proofs.Tests.{first_of, second_of}
use Rattle.header_tags.specs.Bytes.{same}
use Rattle.release_lines.specs.Lines.{no_hint, is_hint}
use Rattle.release_sheet.specs.Reading.{value_in, hint_bytes}
use Rattle.release_sheet.proofs.Fitting.{given}
use Rattle.release_sheet.proofs.Answers.{hex_is}
use Rattle.release_claims.specs.ReadsBack.{ReadIsWritable}
use Rattle.release_claims.proofs.Once.{taken}

number_below : (most : ℕ) (l : List ℕ) → decimal_up_to most l ≡ true → decimal l ≤ most
number_below most l e =
    leb-true (decimal l) most
    (second_of (all_digits l) (leb (decimal l) most) (second_of (ltb 0 (length l)) (all_digits l && leb (decimal l) most) e))

bytes_length : (k : ℕ) (l : List ℕ) → length l ≡ 2 * k → length (hex_bytes l) ≡ k
unfolding hex_bytes
bytes_length zero [] e = refl
bytes_length zero (a ∷ l) e = absurd (omega arith)
bytes_length (suc k) [] e = absurd (omega arith)
bytes_length (suc k) (a ∷ []) e = absurd (omega arith)
bytes_length (suc k) (a ∷ b ∷ l) e = ap suc (bytes_length k l (omega arith))

bytes_below : (k : ℕ) (l : List ℕ) → length l ≡ 2 * k → all_hex l ≡ true → Every (λ b. b < 256) (hex_bytes l)
unfolding hex_bytes all_hex
bytes_below zero [] e h = tt
bytes_below zero (a ∷ l) e h = absurd (omega arith)
bytes_below (suc k) [] e h = absurd (omega arith)
bytes_below (suc k) (a ∷ []) e h = absurd (omega arith)
bytes_below (suc k) (a ∷ b ∷ l) e h =
    let behind = second_of (ltb (hex_digit a) 16) (ltb (hex_digit b) 16 && all_hex l) h in
    let high = ltb-true (hex_digit a) 16 (first_of (ltb (hex_digit a) 16) (ltb (hex_digit b) 16 && all_hex l) h) in
    let low = ltb-true (hex_digit b) 16 (first_of (ltb (hex_digit b) 16) (all_hex l) behind) in
    (omega arith, bytes_below k l (omega arith) (second_of (ltb (hex_digit b) 16) (all_hex l) behind))

zeros_below : (k : ℕ) → Every (λ b. b < 256) (replicate k 0)
zeros_below zero = tt
zeros_below (suc k) = (lit< tt, zeros_below k)

-- a hint's bytes
record Hint (l : List ℕ) : Type 0 where
  extent : length (hint_bytes l) ≡ 32
  bytes : Every (λ b. b < 256) (hint_bytes l)
  none : not (same l no_hint) ≡ false → hint_bytes l ≡ replicate 32 0

hint_of : (l : List ℕ) → is_hint l ≡ true → Hint l
hint_of l e = record { extent = go_extent (same l no_hint) e; bytes = go_bytes (same l no_hint) e; none = λ n. rw (not-false (same l no_hint) n) }
  where
    go_extent : (b : Bool) → b || hex_digits 64 l ≡ true → length (cond b (replicate 32 0) (hex_bytes l)) ≡ 32
    go_extent true e = refl
    go_extent false e = bytes_length 32 l (hex_is 64 l e).0

    go_bytes : (b : Bool) → b || hex_digits 64 l ≡ true → Every (λ x. x < 256) (cond b (replicate 32 0) (hex_bytes l))
    go_bytes true e = zeros_below 32
    go_bytes false e = bytes_below 32 l (hex_is 64 l e).0 (hex_is 64 l e).1

pub read_is_writable : ReadIsWritable
read_is_writable text v e =
    let t = taken text v e in
    let g = given text t.seen t.is in
    let hint = hint_of (value_in t.seen 4) (g.fits 4 (lit< tt)) in
    let signature = hex_is 128 (value_in t.seen 2) (g.fits 2 (lit< tt)) in
    rw t.stated
    (record {
      statable =
          record {
            version = omega (arith, number_below (2 ^ 32 - 1) (value_in t.seen 0) (g.fits 0 (lit< tt)));
            timestamp = omega (arith, number_below (2 ^ 64 - 1) (value_in t.seen 1) (g.fits 1 (lit< tt)));
            auth_type = omega (arith, number_below (2 ^ 16 - 1) (value_in t.seen 3) (g.fits 3 (lit< tt)));
            signature = bytes_length 64 (value_in t.seen 2) signature.0;
            hint = hint.extent;
            no_hint = hint.none;
          };
      signature = bytes_below 64 (value_in t.seen 2) signature.0 signature.1;
      hint = hint.bytes;
    })
