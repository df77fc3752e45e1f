-- A sheet made from values reads back to them. Assumes nothing.
use mathlib.Core.Path.{◌≡◌, refl, sym, ap, ◌∙◌}
use Prim.Native.Nat.{ℕ, zero, suc, ◌-◌, ◌^◌, ◌<◌}
use mathlib.Core.List.{List, [], ◌∷◌, ◌++◌, map, append_assoc}
use mathlib.Core.Bool.{Bool, true, false, not, ◌&&◌}
use mathlib.Core.Logic.{◌≢◌, inl, inr}
use native.Mathlib.Omega.{arith}
use lib.ListN.{get_or}
use lib.Dec.{eqb, ltb, lit<}
use borrow.Author.Tests.{not-true, ltb-true, eqb-false}
use Rattle.numbers.specs.Answer.{Answer, gives, then}
use Rattle.numbers.specs.Every.{Every}
use Rattle.listing_lines.specs.Lines.{line}
use Rattle.release_values.specs.declared.Stated.{Stated}
use Rattle.numbers.proofs.Tests.{first_of, second_of}
use Rattle.header_tags.specs.Bytes.{same}
use Rattle.release_lines.specs.Lines.{in_front, lines, names, no_hint, is_hint, well_formed}
use Rattle.release_places.specs.Judging.{Seen}
use Rattle.release_sheet.specs.Reading.{hint_bytes, stated_in, read_sheet}
use Rattle.release_claims.specs.FromLines.{named, OnlyLine}
use Rattle.release_claims.specs.ReadsBack.{hex_text, hint_text, texts, sheet_of, Writable, SheetFor, SheetReadsBack, EverySheetReadsBack}
use Rattle.release_claims.proofs.Texts.{text_digits, text_number, text_taken, hex_all, hex_back, hex_taken, hex_not_no, no_feed, digits_no_feed, hex_no_feed}
use Rattle.release_claims.proofs.Complete.{same_row, full, each_once}

-- ---- the values' texts

module _ (v : Stated) (w : Writable v) where
  hint_good : (b : Bool) → is_hint (hint_text b v.hint) ≡ true
  unfolding same
  hint_good true = rw (hex_not_no v.hint w.statable.hint) (hex_taken 32 v.hint w.hint w.statable.hint)
  hint_good false = refl

  good : (row : ℕ) → row < 5 → well_formed row (get_or (texts v) row []) ≡ true
  good zero lt = text_taken (2 ^ 32 - 1) v.version (omega (arith, w.statable.version))
  good (suc zero) lt = text_taken (2 ^ 64 - 1) v.timestamp (omega (arith, w.statable.timestamp))
  good (suc (suc zero)) lt = hex_taken 64 v.signature w.signature w.statable.signature
  good (suc (suc (suc zero))) lt = text_taken (2 ^ 16 - 1) v.auth_type (omega (arith, w.statable.auth_type))
  good (suc (suc (suc (suc zero)))) lt = hint_good v.has_hint
  good (suc (suc (suc (suc (suc r))))) lt = absurd (omega arith)

  hint_there : (b : Bool) → not (same (hint_text b v.hint) no_hint) ≡ b
  unfolding same
  hint_there true = rw (hex_not_no v.hint w.statable.hint)
  hint_there false = refl

  hint_same : (b : Bool) → v.has_hint ≡ b → hint_bytes (hint_text b v.hint) ≡ v.hint
  unfolding same
  hint_same true e = rw (hex_not_no v.hint w.statable.hint) (hex_back v.hint w.hint)
  hint_same false e = sym (w.statable.no_hint e)

  stated : stated_in (full (λ row. get_or (texts v) row []) good) ≡ v
  stated =
      λ i. record {
        version = text_number v.version i;
        timestamp = text_number v.timestamp i;
        signature = hex_back v.signature w.signature i;
        auth_type = text_number v.auth_type i;
        has_hint = hint_there v.has_hint i;
        hint = hint_same v.has_hint refl i;
      }

pub every_sheet_reads_back : EverySheetReadsBack
unfolding read_sheet
every_sheet_reads_back v w text s =
    ap (λ (a : Answer Seen). then a (λ t. gives (stated_in t))) (each_once (λ row. get_or (texts v) row []) (good v w) text s.rows s.others)
    ∙ ap gives (stated v w)

-- ---- the plain sheet

-- a first line without a line feed in it
first_line : (a rest : List ℕ) → no_feed a ≡ true → lines (a ++ (10 ∷ rest)) ≡ a ∷ lines rest
unfolding lines no_feed
first_line [] rest e = refl
first_line (c ∷ a) rest e =
    rw (not-true (eqb c 10) (first_of (not (eqb c 10)) (no_feed a) e), lines)
    (ap (in_front c) (first_line a rest (second_of (not (eqb c 10)) (no_feed a) e)))

line_then : (a rest : List ℕ) → no_feed a ≡ true → lines (line a ++ rest) ≡ a ∷ lines rest
line_then a rest e = ap lines (append_assoc a (10 ∷ []) rest) ∙ first_line a rest e

empty_name : (r : ℕ) → r < 5 → (y : List ℕ) → [] ≢ named (get_or names r []) y
empty_name r lr y e = go (get_or names r []) e
  where
    go : (name : List ℕ) → [] ≡ name ++ (32 ∷ y) → ⊥
    go [] e = let z : ◌≡◌ {A = ℕ} 0 1 = cc in omega arith
    go (c ∷ l) e = let z : ◌≡◌ {A = ℕ} 0 1 = cc in omega arith

-- rows of the table, none of them r
off_row : ℕ → List ℕ → Bool
off_row r [] = true
off_row r (q ∷ qs) = (ltb q 5 && not (eqb q r)) && off_row r qs

-- the five lines and the empty one behind them
module _ (x : ℕ → List ℕ) where
  abbrev row_line : ℕ → List ℕ
  row_line q = named (get_or names q []) (x q)

  abbrev five : List (List ℕ)
  five = row_line 0 ∷ row_line 1 ∷ row_line 3 ∷ row_line 2 ∷ row_line 4 ∷ [] ∷ []

  -- lines of other rows, and the empty one
  other_rows : (r : ℕ) → r < 5 → (qs : List ℕ) → off_row r qs ≡ true → Every (λ l. (y : List ℕ) → l ≢ named (get_or names r []) y) (map row_line qs ++ ([] ∷ []))
  unfolding off_row
  other_rows r lt [] e = (empty_name r lt, tt)
  other_rows r lt (q ∷ qs) e =
      let here = first_of (ltb q 5 && not (eqb q r)) (off_row r qs) e in
      let below = ltb-true q 5 (first_of (ltb q 5) (not (eqb q r)) here) in
      let apart = eqb-false q r (not-true (eqb q r) (second_of (ltb q 5) (not (eqb q r)) here)) in
      (λ y h. apart (same_row q r below lt (x q) y h), other_rows r lt qs (second_of (ltb q 5 && not (eqb q r)) (off_row r qs) e))

  each : (row : ℕ) → row < 5 → OnlyLine five (get_or names row []) (x row)
  unfolding off_row
  each zero lt =
      record {
        before = [];
        behind = row_line 1 ∷ row_line 3 ∷ row_line 2 ∷ row_line 4 ∷ [] ∷ [];
        is = refl;
        alone = other_rows 0 lt (1 ∷ 3 ∷ 2 ∷ 4 ∷ []) refl;
      }
  each (suc zero) lt =
      record {
        before = row_line 0 ∷ [];
        behind = row_line 3 ∷ row_line 2 ∷ row_line 4 ∷ [] ∷ [];
        is = refl;
        alone = other_rows 1 lt (0 ∷ 3 ∷ 2 ∷ 4 ∷ []) refl;
      }
  each (suc (suc zero)) lt =
      record {
        before = row_line 0 ∷ row_line 1 ∷ row_line 3 ∷ [];
        behind = row_line 4 ∷ [] ∷ [];
        is = refl;
        alone = other_rows 2 lt (0 ∷ 1 ∷ 3 ∷ 4 ∷ []) refl;
      }
  each (suc (suc (suc zero))) lt =
      record {
        before = row_line 0 ∷ row_line 1 ∷ [];
        behind = row_line 2 ∷ row_line 4 ∷ [] ∷ [];
        is = refl;
        alone = other_rows 3 lt (0 ∷ 1 ∷ 2 ∷ 4 ∷ []) refl;
      }
  each (suc (suc (suc (suc zero)))) lt =
      record {
        before = row_line 0 ∷ row_line 1 ∷ row_line 3 ∷ row_line 2 ∷ [];
        behind = [] ∷ [];
        is = refl;
        alone = other_rows 4 lt (0 ∷ 1 ∷ 3 ∷ 2 ∷ []) refl;
      }
  each (suc (suc (suc (suc (suc r))))) lt = absurd (omega arith)

module _ (v : Stated) (w : Writable v) where
  abbrev text_of : ℕ → List ℕ
  text_of row = get_or (texts v) row []

  hint_line : (b : Bool) → no_feed (hint_text b v.hint) ≡ true
  unfolding no_feed
  hint_line true = hex_no_feed (hex_text v.hint) (hex_all v.hint w.hint)
  hint_line false = refl

  cut : lines (sheet_of v) ≡ five text_of
  unfolding sheet_of no_feed lines
  cut =
      line_then (row_line text_of 0) _ (digits_no_feed _ (text_digits v.version))
      ∙ ap (λ (ls : List (List ℕ)). row_line text_of 0 ∷ ls)
      (line_then (row_line text_of 1) _ (digits_no_feed _ (text_digits v.timestamp))
      ∙ ap (λ (ls : List (List ℕ)). row_line text_of 1 ∷ ls)
      (line_then (row_line text_of 3) _ (digits_no_feed _ (text_digits v.auth_type))
      ∙ ap (λ (ls : List (List ℕ)). row_line text_of 3 ∷ ls)
      (line_then (row_line text_of 2) _ (hex_no_feed _ (hex_all v.signature w.signature))
      ∙ ap (λ (ls : List (List ℕ)). row_line text_of 2 ∷ ls) (first_line (row_line text_of 4) [] (hint_line v.has_hint)))))

  sheet_for : SheetFor v (sheet_of v)
  sheet_for =
      record {
        rows = λ row lt. rw cut (each text_of row lt);
        others = rw cut
            (inr (0, lit< tt, (text_of 0, refl)), (inr (1, lit< tt, (text_of 1, refl)), (inr (3, lit< tt, (text_of 3, refl)), (inr (2, lit< tt, (text_of 2, refl)), (inr (4, lit< tt, (text_of 4, refl)), (inl refl, tt))))));
      }

pub sheet_reads_back : SheetReadsBack
sheet_reads_back v w = every_sheet_reads_back v w (sheet_of v) (sheet_for v w)
