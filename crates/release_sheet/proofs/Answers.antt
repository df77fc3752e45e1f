-- What the reader makes of the values at their places. Assumes nothing.
use mathlib.Core.Path.{◌≡◌, refl, sym, ap, ◌∙◌}
use Prim.Native.Nat.{ℕ, ◌<◌}
use mathlib.Core.List.{List}
use mathlib.Core.Bool.{Bool, true, false, not}
use lib.ListN.{length, get_or, replicate}
use Rattle.std.specs.Prelude.{Option as CodeOption, Some, None, SomeIff, Result, Ok, Err}
use Rattle.std.specs.Option.{is_some, unwrap_or}
use lib.Dec.{lit<, eqb}
use borrow.Author.Tests.{eqb-true}
use Rattle.numbers.specs.Answer.{Answer, gives, then}
use Rattle.numbers.specs.GivenBack.{sheet_says, refused_with}
use Rattle.numbers.specs.declared.SheetRefusal.{SheetRefusal}
use Rattle.release_values.specs.declared.Stated.{Stated}
use Rattle.release_digits.specs.Digits.{decimal, all_hex, hex_digits, hex_bytes}
use Rattle.numbers.proofs.Tests.{first_of, second_of}
use Rattle.header_tags.specs.Bytes.{same}
use Rattle.release_lines.specs.Lines.{no_hint, is_hint}
use Rattle.release_places.specs.Judging.{Seen, judged, rest_of_line, values_at, Finds}
use Rattle.release_sheet.specs.Reading.{value_in, hint_bytes, stated_in, read_sheet, ValuesFit}
use Rattle.release_sheet.proofs.Fitting.{places_fit, value_there}

-- ---- one value

pub hex_is : (n : ℕ) (l : List ℕ) → hex_digits n l ≡ true → (length l ≡ n) × (all_hex l ≡ true)
hex_is n l e = (eqb-true (length l) n (first_of (eqb (length l) n) (all_hex l) e), second_of (eqb (length l) n) (all_hex l) e)

-- a hint that is not "no"
pub hint_is : (l : List ℕ) → is_hint l ≡ true → same l no_hint ≡ false → hex_digits 64 l ≡ true
hint_is l e t = rw t at e

pub hint_told : (l : List ℕ) (o : CodeOption (List ℕ)) → SomeIff o (same l no_hint ≡ false) (hex_bytes l)
    → (is_some o ≡ not (same l no_hint)) × (unwrap_or o (replicate 32 0) ≡ hint_bytes l)
hint_told l (Some x) w = (rw w.0, rw w.0 w.1)
hint_told l None w = let t = not_false (same l no_hint) w in (rw t, rw t)
  where
    not_false : (b : Bool) → (b ≡ false → ⊥) → b ≡ true
    not_false true n = refl
    not_false false n = absurd (n refl)

-- ---- the values

-- each of them is the one that lies at its place
pub all_read : {text places : List ℕ} {v : Stated} → ValuesFit text places
    → v.version ≡ decimal (rest_of_line text (get_or places 0 0))
    → v.timestamp ≡ decimal (rest_of_line text (get_or places 1 0))
    → v.signature ≡ hex_bytes (rest_of_line text (get_or places 2 0))
    → v.auth_type ≡ decimal (rest_of_line text (get_or places 3 0))
    → v.has_hint ≡ not (same (rest_of_line text (get_or places 4 0)) no_hint)
    → v.hint ≡ hint_bytes (rest_of_line text (get_or places 4 0))
    → v ≡ stated_in (values_at text places)
all_read {text} {places} {v} f e₀ e₁ e₂ e₃ e₄ e₅ =
    let at : (row : ℕ) → row < 5 → rest_of_line text (get_or places row 0) ≡ value_in (values_at text places) row =
    λ row lt. sym (value_there text places row (f.seen row lt)) in
    λ i. record {
      version = (e₀ ∙ ap decimal (at 0 (lit< tt))) i;
      timestamp = (e₁ ∙ ap decimal (at 1 (lit< tt))) i;
      signature = (e₂ ∙ ap hex_bytes (at 2 (lit< tt))) i;
      auth_type = (e₃ ∙ ap decimal (at 3 (lit< tt))) i;
      has_hint = (e₄ ∙ ap (λ (l : List ℕ). not (same l no_hint)) (at 4 (lit< tt))) i;
      hint = (e₅ ∙ ap hint_bytes (at 4 (lit< tt))) i;
    }

-- ---- the reader

by_values : (text : List ℕ) {a : Answer Seen} → judged text ≡ a → read_sheet text ≡ then a (λ s. gives (stated_in s))
unfolding read_sheet
by_values text e = ap (λ (a : Answer Seen). then a (λ s. gives (stated_in s))) e

pub fit : (text places : List ℕ) {r : Result (List ℕ) SheetRefusal} → Finds text r → r ≡ Ok places → ValuesFit text places
fit text places finds is = places_fit text places (sym (rw is at finds.answer)) (finds.within places is)

pub taken_in : (text places : List ℕ) {r : Result (List ℕ) SheetRefusal} {v : Stated} → Finds text r → r ≡ Ok places → v ≡ stated_in (values_at text places)
    → gives v ≡ read_sheet text
taken_in text places finds is e = sym (by_values text (sym (rw is at finds.answer)) ∙ ap gives (sym e))

-- the sheet is refused
pub turned_on : (text : List ℕ) {r : Result (List ℕ) SheetRefusal} {x : SheetRefusal} → Finds text r → r ≡ Err x → refused_with (sheet_says x) ≡ read_sheet text
turned_on text finds is = sym (by_values text (sym (rw is at finds.answer)))
