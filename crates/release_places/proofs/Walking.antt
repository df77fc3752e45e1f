-- What the lines from a place on make of the sheet. Assumes nothing.
use mathlib.Core.Path.{◌≡◌, refl, sym, ap, ◌∙◌}
use Prim.Native.Nat.{ℕ, suc, ◌+◌, ◌-◌, ◌≤◌, ◌<◌}
use mathlib.Core.List.{List}
use mathlib.Core.Option.{Option, some}
use Rattle.std.specs.Prelude.{Option as CodeOption, Some, None, Result, Ok, Err}
use native.Mathlib.Omega.{arith}
use native.Mathlib.Numerals.{add-one}
use lib.ListN.{length, get_or, take, drop, set, replicate, length-take, get_or-map}
use lib.Seq.{drop-drop}
use Rattle.std.proofs.lemmas.List.{map-set}
use borrow.Author.Tests.{lt-ltb, le-ltb, ne_eqb}
use Rattle.numbers.specs.Answer.{Answer, gives, refused, then}
use Rattle.numbers.specs.GivenBack.{sheet_says, refused_with, sheet_answer}
use Rattle.numbers.specs.declared.SheetRefusal.{SheetRefusal}
use Rattle.release_lines.specs.declared.Value.{Value}
use Rattle.release_lines.specs.Search.{index_of}
use Rattle.release_lines.specs.Lines.{lines, line_of, entry_of, LineRead, types}
use Rattle.release_places.specs.Judging.{Seen, keep, put, missing_row, complete, judge, judged, rest_of_line, value_at, values_at, Finds}
use Rattle.release_places.proofs.Along.{not_given}
use Rattle.release_places.proofs.Cutting.{then_same, line_first, nothing_left, line_to, rest_of}

-- From the place `at` on, line number n, with the values at these places seen, it goes as from the start.
pub record Goes (text places : List ℕ) (at n : ℕ) : Type 0 where
  pub is : judge (values_at text places) n (lines (drop at text)) ≡ judged text

pub begun : (text : List ℕ) → Goes text (replicate 5 0) 0 1
unfolding judged
begun text = record { is = refl }

-- ---- one line

-- what the sheet comes to behind the line, number n, that ends at e
abbrev behind : List ℕ → ℕ → ℕ → Seen → Answer Seen
behind text n e s = judge s (n + 1) (lines (drop (e + 1) text))

module _ {text places : List ℕ} {at n e : ℕ} {r : Result (CodeOption Value) SheetRefusal} (inv : Goes text places at n)
    (end : e ≡ at + index_of 10 (drop at text)) (read : LineRead n (take (e - at) (drop at text)) r) where
  turn : {u : Result (CodeOption Value) SheetRefusal} → r ≡ u
      → then (then (then (sheet_answer u) (λ v. gives (entry_of (rest_of_line text at) v))) (λ x. put (values_at text places) n x)) (λ s. behind text n e s)
      ≡ judged text
  turn is =
      let k : at + suc (index_of 10 (drop at text)) ≡ e + 1 = omega (arith, end) in
      let next : drop (suc (index_of 10 (drop at text))) (drop at text) ≡ drop (e + 1) text =
      drop-drop (suc (index_of 10 (drop at text))) at text ∙ ap (λ (k : ℕ). drop k text) k in
      let said = rw (line_to text at end, is) at read.says in
      let same : (s : Seen) → judge s (suc n) (lines (drop (suc (index_of 10 (drop at text))) (drop at text))) ≡ behind text n e s =
      λ s. rw (next, add-one n) in
      rw said (sym (then_same (then (line_of n (rest_of_line text at)) (λ x. put (values_at text places) n x)) same) ∙ sym (line_first (values_at text places) n (drop at text)) ∙ inv.is)

  pub passed : r ≡ Ok None → Goes text places (e + 1) (n + 1)
  passed is = record { is = turn is }

  pub refused_line : {x : SheetRefusal} → r ≡ Err x → refused_with (sheet_says x) ≡ judged text
  refused_line is = turn is

  module _ {v : Value} (is : r ≡ Ok (Some v)) where
    kept : then (keep (values_at text places) n v.row (drop v.from (rest_of_line text at)) (value_at text (get_or places v.row 0))) (λ s. behind text n e s)
        ≡ judged text
    kept = rw (← get_or-map (λ p. value_at text p) places v.row 0) (turn is)

    pub repeated : (get_or places v.row 0 ≡ 0 → ⊥) → refused 104 n ≡ judged text
    repeated full = rw (ne_eqb _ _ full) at kept

    -- where the value begins
    pub value_in : e ≤ length text → (v.row < 5) × (0 < v.from) × (at + v.from ≤ e)
    value_in le =
        let w = read.within v is in
        let k = length-take (e - at) (drop at text) in
        let b = end in
        (w.0, w.1, omega (arith, w.2))

    pub taken : get_or places v.row 0 ≡ 0 → e ≤ length text → Goes text (set places v.row (at + v.from)) (e + 1) (n + 1)
    taken empty le =
        let w = value_in le in
        let within : v.from ≤ index_of 10 (drop at text) = omega (arith, w.2, end) in
        let rest : drop v.from (rest_of_line text at) ≡ rest_of_line text (at + v.from) =
        rest_of (drop at text) v.from within ∙ rw (drop-drop v.from at text) in
        let now : value_at text (at + v.from) ≡ some (drop v.from (rest_of_line text at)) =
        rw (ne_eqb (at + v.from) 0 (omega (arith, w.1)), rest) in
        let same : values_at text (set places v.row (at + v.from)) ≡ set (values_at text places) v.row (some (drop v.from (rest_of_line text at))) =
        map-set (λ p. value_at text p) places v.row (at + v.from) ∙ ap (λ (w : Option (List ℕ)). set (values_at text places) v.row w) now in
        record { is = rw same (rw empty at kept) }

-- ---- behind the last line

module _ {text places : List ℕ} {at n : ℕ} (inv : Goes text places at n) (end : length text ≤ at) where
  whole : complete (values_at text places) ≡ judged text
  unfolding judge
  whole = sym (nothing_left (values_at text places) n text at end) ∙ inv.is

  pub lacks : {row : ℕ} → row ≡ missing_row (values_at text places) → row < 5 → refused 105 (get_or types row 0) ≡ judged text
  lacks {row} first lt = simp (← first, lt-ltb row 5 lt) at whole

  pub found : 5 ≤ missing_row (values_at text places) → gives (values_at text places) ≡ judged text
  found le = simp (le-ltb _ 5 le) at whole

-- ---- the answer

pub turned : {text : List ℕ} {n p : ℕ} {r : Result (List ℕ) SheetRefusal} → refused n p ≡ judged text
    → then (sheet_answer r) (λ places. gives (values_at text places)) ≡ refused n p → Finds text r
turned is says = record { answer = says ∙ is; within = λ places e. not_given (sym (rw e at says)) }

pub accepted : {text places : List ℕ} → gives (values_at text places) ≡ judged text → ((i : ℕ) → get_or places i 0 ≤ length text) → Finds text (Ok places)
accepted {places = p} is w = record { answer = is; within = λ q e. let z : p ≡ q = cc in rw (← z) w }
