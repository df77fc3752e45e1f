-- The values of a sheet that is not refused pass their tests. Assumes nothing.
use mathlib.Core.Path.{◌≡◌, refl, sym, ap, ◌∙◌}
use Prim.Native.Nat.{ℕ, zero, suc, ◌+◌, ◌≤◌, ◌<◌}
use mathlib.Core.List.{List, [], ◌∷◌}
use mathlib.Core.Option.{Option, none, some}
use mathlib.Core.Bool.{Bool, true, false, cond}
use native.Mathlib.Omega.{arith}
use native.Mathlib.Decide.{ℕ_discrete, dec_lt}
use lib.ListN.{length, get_or, set, take, drop, replicate, get_or-map}
use lib.Seq.{get_or-set_same, get_or-set_other, set_out}
use lib.Dec.{eqb}
use borrow.Author.Tests.{ne_eqb}
use Rattle.numbers.specs.Answer.{gives, refused}
use Rattle.release_lines.specs.Search.{index_of}
use Rattle.release_lines.specs.Lines.{names, row_named, well_formed, Entry, nothing, value, passed_over, line_of}
use Rattle.release_places.specs.Judging.{Seen, keep, put, missing_row, judged, rest_of_line, value_at, values_at}
use Rattle.release_places.proofs.Along.{not_given, along}
use Rattle.numbers.proofs.Refusals.{given_same}
use Rattle.release_sheet.specs.Reading.{value_of, value_in, ValuesFit}

-- each value that is seen passes its row's test
abbrev Fits : Seen → Type 0
Fits s = (row : ℕ) (v : List ℕ) → get_or s row none ≡ some v → well_formed row v ≡ true

-- a line's value passes it
pub line_fits : (n : ℕ) (l : List ℕ) (row : ℕ) (v : List ℕ) → line_of n l ≡ gives (value row v) → well_formed row v ≡ true
unfolding line_of
line_fits n l row v is =
    go (passed_over l) (eqb (index_of 32 l) (length l)) (eqb (row_named names (take (index_of 32 l) l)) 5) _ refl is
  where
    go : (b₁ b₂ b₃ b₄ : Bool) → well_formed (row_named names (take (index_of 32 l) l)) (drop (index_of 32 l + 1) l) ≡ b₄
        → cond b₁ (gives nothing)
        (cond b₂ (refused 101 n)
        (cond b₃ (refused 102 n)
        (cond b₄ (gives (value (row_named names (take (index_of 32 l) l)) (drop (index_of 32 l + 1) l))) (refused 103 n)))) ≡ gives (value row v)
        → well_formed row v ≡ true
    go true b₂ b₃ b₄ x e = let z : ◌≡◌ {A = ℕ} 0 1 = cc in absurd (omega arith)
    go false true b₃ b₄ x e = not_given e
    go false false true b₄ x e = not_given e
    go false false false false x e = not_given e
    go false false false true x e =
        let p : row_named names (take (index_of 32 l) l) ≡ row = cc in
        let q : drop (index_of 32 l + 1) l ≡ v = cc in
        rw (← p, ← q) x

-- one value more
set_fits : (s : Seen) (row : ℕ) (v : List ℕ) → Fits s → well_formed row v ≡ true → Fits (set s row (some v))
set_fits s row v f good i w is = go (dec_lt row (length s)) (ℕ_discrete i row)
  where
    go : Dec (row < length s) → Dec (i ≡ row) → well_formed i w ≡ true
    go (no ge) d = f i w (sym (ap (λ (t : Seen). get_or t i none) (set_out s row (some v) (omega arith))) ∙ is)
    go (yes lt) (no e) = f i w (sym (get_or-set_other s row i (some v) none e) ∙ is)
    go (yes lt) (yes e) =
        let k : some v ≡ some w = sym (get_or-set_same s row (some v) none lt) ∙ ap (λ (j : ℕ). get_or (set s row (some v)) j none) (sym e) ∙ is in
        let j : v ≡ w = cc in
        rw (e, ← j) good

put_fits : (s t : Seen) (n : ℕ) (e : Entry) (l : List ℕ) (ls : List (List ℕ)) → line_of n l ≡ gives e → put s n e ≡ gives t → Fits s → Fits t
put_fits s t n nothing l ls said is f = rw (← given_same is) f
put_fits s t n (value row v) l ls said is f = go (get_or s row none) is
  where
    go : (o : Option (List ℕ)) → keep s n row v o ≡ gives t → Fits t
    go none is = rw (← given_same is) (set_fits s row v f (line_fits n l row v said))
    go (some w) is = not_given is

nothing_seen : (k i : ℕ) (v : List ℕ) → get_or (replicate k none) i none ≡ some v → ⊥
nothing_seen zero i v e = let z : ◌≡◌ {A = ℕ} 0 1 = cc in omega arith
nothing_seen (suc k) zero v e = let z : ◌≡◌ {A = ℕ} 0 1 = cc in omega arith
nothing_seen (suc k) (suc i) v e = nothing_seen k i v e

-- a row before the first without a value has one
pub has_value : (s : Seen) (row : ℕ) → row < missing_row s → get_or s row none ≡ some (value_in s row)
unfolding missing_row
has_value [] row lt = absurd (omega arith)
has_value (none ∷ s) row lt = absurd (omega arith)
has_value (some v ∷ s) zero lt = refl
has_value (some v ∷ s) (suc row) lt = has_value s row (omega arith)

-- What a sheet that is not refused has: a value for each row, which passes its test.
pub record Given (s : Seen) : Type 0 where
  pub has : (row : ℕ) → row < 5 → get_or s row none ≡ some (value_in s row)
  pub fits : (row : ℕ) → row < 5 → well_formed row (value_in s row) ≡ true

pub given : (text : List ℕ) (s : Seen) → judged text ≡ gives s → Given s
unfolding judged
given text s is =
    let w = along (λ t ls. Fits t) put_fits _ (replicate 5 none) s 1 is (λ row v e. absurd (nothing_seen 5 row v e)) in
    record {
      has = λ row lt. has_value s row (omega (arith, w.1));
      fits = λ row lt. w.0 row (value_in s row) (has_value s row (omega (arith, w.1)));
    }

-- by places
pub places_fit : (text places : List ℕ) → judged text ≡ gives (values_at text places) → ((row : ℕ) → get_or places row 0 ≤ length text)
    → ValuesFit text places
places_fit text places is within =
    record {
      seen = seen;
      within = within;
      tested = λ row lt. rw (value_is row lt) at (g.fits row lt);
    }
  where
    g : Given (values_at text places)
    g = given text (values_at text places) is

    there : (row : ℕ) → row < 5 → value_at text (get_or places row 0) ≡ some (value_in (values_at text places) row)
    there row lt = sym (get_or-map (λ p. value_at text p) places row 0) ∙ g.has row lt

    seen : (row : ℕ) → row < 5 → get_or places row 0 ≡ 0 → ⊥
    seen row lt e = let h = rw e at (there row lt) in let z : ◌≡◌ {A = ℕ} 0 1 = cc in omega arith

    value_is : (row : ℕ) → row < 5 → value_in (values_at text places) row ≡ rest_of_line text (get_or places row 0)
    value_is row lt =
        let h = rw (ne_eqb (get_or places row 0) 0 (seen row lt)) at (there row lt) in
        cc

-- and back
pub value_there : (text places : List ℕ) (row : ℕ) → (get_or places row 0 ≡ 0 → ⊥) → value_in (values_at text places) row ≡ rest_of_line text (get_or places row 0)
value_there text places row full =
    ap value_of (get_or-map (λ p. value_at text p) places row 0) ∙ rw (ne_eqb (get_or places row 0) 0 full)
