-- Text written one part behind another. Assumes nothing.
use mathlib.Core.Path.{◌≡◌, sym, ◌∙◌}
use Prim.Native.Nat.{ℕ}
use mathlib.Core.List.{List, [], ◌∷◌, append_assoc}
use Rattle.output.specs.Puts.{Puts}
use Rattle.output.proofs.Laws.{puts_then, puts_as}
use Rattle.io.specs.Digits.{last_digits, IsDigitCount}
use Rattle.header_reader.specs.declared.Header.{Header}
use Rattle.listing_lines.specs.Lines.{named, line, size, version, timestamp, auth, hint, fields, refused_word, at_word, refusal}
use Rattle.listing_lines.proofs.Numbers.{is_decimal}

-- words, and behind them as many digits as are needed
pub puts_named : {d e f w t : List ℕ} {p q r : ℕ} (n k : ℕ) → IsDigitCount 10 1 n k → t ≡ last_digits 10 k n → Puts d e p w q → Puts e f q t r
    → Puts d f p (named w n) r
puts_named n k few is x y = puts_then x (puts_as y (is ∙ is_decimal n k few))

-- the five lines, one behind another
pub puts_fields : {d d₁ d₂ d₃ d₄ d₅ : List ℕ} {p p₁ p₂ p₃ p₄ p₅ : ℕ} (v : Header) → Puts d d₁ p (line (named size v.size)) p₁
    → Puts d₁ d₂ p₁ (line (named version v.version)) p₂ → Puts d₂ d₃ p₂ (line (named timestamp v.timestamp)) p₃
    → Puts d₃ d₄ p₃ (line (named auth v.auth_type)) p₄ → Puts d₄ d₅ p₄ (line (hint v.has_hint)) p₅ → Puts d d₅ p (fields v) p₅
unfolding fields
puts_fields v x₁ x₂ x₃ x₄ x₅ = puts_then x₁ (puts_then x₂ (puts_then x₃ (puts_then x₄ x₅)))

-- the line of a refusal, in two parts
pub puts_refusal : {d e f : List ℕ} {p q r : ℕ} (n k : ℕ) → Puts d e p (named refused_word n) q → Puts e f q (line (named at_word k)) r
    → Puts d f p (refusal n k) r
unfolding refusal
puts_refusal n k x y = puts_as (puts_then x y) (sym (append_assoc (named refused_word n) (named at_word k) (10 ∷ [])))
