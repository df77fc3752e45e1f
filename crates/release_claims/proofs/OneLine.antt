-- A line with a name of the table. Assumes nothing.
use mathlib.Core.Path.{◌≡◌, refl, sym, ap, ap₂, ◌∙◌}
use Prim.Native.Nat.{ℕ, zero, suc, ◌+◌, ◌<◌}
use mathlib.Core.List.{List, [], ◌∷◌, ◌++◌}
use mathlib.Core.Bool.{Bool, true, false, cond}
use native.Mathlib.Omega.{arith}
use native.Mathlib.Numerals.{add-one}
use lib.ListN.{length, get_or, take, drop}
use lib.Dec.{eqb}
use borrow.Author.Tests.{eqb-true, eqb-false, ne_eqb}
use Rattle.release_lines.specs.Search.{index_of, index_after}
use Rattle.numbers.specs.Answer.{gives, refused}
use Rattle.header_tags.specs.Bytes.{same}
use Rattle.release_lines.specs.Lines.{names, row_named, well_formed, nothing, value, passed_over, line_of}
use Rattle.header_tags.proofs.Same.{same_true}
use Rattle.release_lines.proofs.Reading.{row_bound}
use Rattle.release_places.proofs.Along.{not_given}
use Rattle.release_claims.specs.FromLines.{named}

-- what it says, of each row
pub named_line : (row : ℕ) → row < 5 → (n : ℕ) (w : List ℕ)
    → line_of n (named (get_or names row []) w) ≡ cond (well_formed row w) (gives (value row w)) (refused 103 n)
unfolding line_of index_of row_named same
named_line zero lt n w = rw (ne_eqb 7 (length (named (get_or names 0 []) w)) (λ e. omega arith))
named_line (suc zero) lt n w = rw (ne_eqb 9 (length (named (get_or names 1 []) w)) (λ e. omega arith))
named_line (suc (suc zero)) lt n w = rw (ne_eqb 9 (length (named (get_or names 2 []) w)) (λ e. omega arith))
named_line (suc (suc (suc zero))) lt n w = rw (ne_eqb 4 (length (named (get_or names 3 []) w)) (λ e. omega arith))
named_line (suc (suc (suc (suc zero)))) lt n w = rw (ne_eqb 4 (length (named (get_or names 4 []) w)) (λ e. omega arith))
named_line (suc (suc (suc (suc (suc row))))) lt n w = absurd (omega arith)

-- cut at a byte that stands in it
split : (b : ℕ) (l : List ℕ) → (index_of b l ≡ length l → ⊥) → l ≡ take (index_of b l) l ++ (b ∷ drop (suc (index_of b l)) l)
unfolding index_of
split b [] ne = absurd (ne refl)
split b (c ∷ l) ne = go (eqb c b) refl ne (λ h. split b l h)
  where
    go : (x : Bool) → eqb c b ≡ x → (index_after x (index_of b l) ≡ suc (length l) → ⊥)
        → ((index_of b l ≡ length l → ⊥) → l ≡ take (index_of b l) l ++ (b ∷ drop (suc (index_of b l)) l))
        → c ∷ l ≡ take (index_after x (index_of b l)) (c ∷ l) ++ (b ∷ drop (suc (index_after x (index_of b l))) (c ∷ l))
    go true e ne h = ap (λ (d : ℕ). d ∷ l) (eqb-true c b e)
    go false e ne h = ap (λ (m : List ℕ). c ∷ m) (h (λ k. ne (ap suc k)))

-- the name that stands in a row
name_in : (rows : List (List ℕ)) (x : List ℕ) → row_named rows x < length rows → get_or rows (row_named rows x) [] ≡ x
unfolding row_named
name_in [] x lt = absurd (omega arith)
name_in (y ∷ rows) x lt = go (same x y) refl lt (λ h. name_in rows x h)
  where
    go : (b : Bool) → same x y ≡ b → elim b [ true ↦ 0 | false ↦ suc (row_named rows x) ] < suc (length rows)
        → (row_named rows x < length rows → get_or rows (row_named rows x) [] ≡ x)
        → get_or (y ∷ rows) (elim b [ true ↦ 0 | false ↦ suc (row_named rows x) ]) [] ≡ x
    go true e lt h = sym (same_true x y e)
    go false e lt h = h (omega arith)

-- What a line that has a value is: a name of the table, a space, the value.
pub record Named (l : List ℕ) (row : ℕ) (v : List ℕ) : Type 0 where
  pub known : row < 5
  pub is : l ≡ named (get_or names row []) v

pub of_value : (n : ℕ) (l : List ℕ) (row : ℕ) (v : List ℕ) → line_of n l ≡ gives (value row v) → Named l row v
unfolding line_of
of_value n l row v is =
    go (passed_over l) (eqb (index_of 32 l) (length l)) (eqb (row_named names (take (index_of 32 l) l)) 5) (well_formed (row_named names (take (index_of 32 l) l)) (drop (index_of 32 l + 1) l)) refl refl is
  where
    go : (b₁ b₂ b₃ b₄ : Bool) → eqb (index_of 32 l) (length l) ≡ b₂ → eqb (row_named names (take (index_of 32 l) l)) 5 ≡ b₃
        → cond b₁ (gives nothing)
        (cond b₂ (refused 101 n)
        (cond b₃ (refused 102 n)
        (cond b₄ (gives (value (row_named names (take (index_of 32 l) l)) (drop (index_of 32 l + 1) l))) (refused 103 n)))) ≡ gives (value row v)
        → Named l row v
    go true b₂ b₃ b₄ x y e = let z : ◌≡◌ {A = ℕ} 0 1 = cc in absurd (omega arith)
    go false true b₃ b₄ x y e = not_given e
    go false false true b₄ x y e = not_given e
    go false false false false x y e = not_given e
    go false false false true x y e =
        let p : row_named names (take (index_of 32 l) l) ≡ row = cc in
        let q : drop (index_of 32 l + 1) l ≡ v = cc in
        let lt : row_named names (take (index_of 32 l) l) < 5 = omega (arith, eqb-false (row_named names (take (index_of 32 l) l)) 5 y, row_bound names (take (index_of 32 l) l)) in
        record {
          known = rw (← p) lt;
          is =
              split 32 l (eqb-false _ _ x)
              ∙ ap₂ (λ (a b : List ℕ). a ++ (32 ∷ b)) (sym (name_in names (take (index_of 32 l) l) lt) ∙ ap (λ (r : ℕ). get_or names r []) p) (rw add-one at q);
        }

-- a line that says nothing is passed over
pub of_nothing : (n : ℕ) (l : List ℕ) → line_of n l ≡ gives nothing → passed_over l ≡ true
unfolding line_of
of_nothing n l is =
    go (passed_over l) (eqb (index_of 32 l) (length l)) (eqb (row_named names (take (index_of 32 l) l)) 5) (well_formed (row_named names (take (index_of 32 l) l)) (drop (index_of 32 l + 1) l)) is
  where
    go : (b₁ b₂ b₃ b₄ : Bool)
        → cond b₁ (gives nothing)
        (cond b₂ (refused 101 n)
        (cond b₃ (refused 102 n)
        (cond b₄ (gives (value (row_named names (take (index_of 32 l) l)) (drop (index_of 32 l + 1) l))) (refused 103 n)))) ≡ gives nothing
        → b₁ ≡ true
    go true b₂ b₃ b₄ e = refl
    go false true b₃ b₄ e = not_given e
    go false false true b₄ e = not_given e
    go false false false false e = not_given e
    go false false false true e = let z : ◌≡◌ {A = ℕ} 0 1 = cc in absurd (omega arith)

-- a line that is passed over has no name
pub passed_nameless : (n : ℕ) (l : List ℕ) → line_of n l ≡ gives nothing → (row : ℕ) → row < 5 → (w : List ℕ) → l ≡ named (get_or names row []) w → ⊥
passed_nameless n l said row lt w is = go (well_formed row w) (sym (named_line row lt n w) ∙ ap (line_of n) (sym is) ∙ said)
  where
    go : (b : Bool) → cond b (gives (value row w)) (refused 103 n) ≡ gives nothing → ⊥
    go true e = let z : ◌≡◌ {A = ℕ} 0 1 = cc in omega arith
    go false e = not_given e

-- a line has one name
pub one_name : (n : ℕ) (l : List ℕ) (row : ℕ) (v : List ℕ) → line_of n l ≡ gives (value row v) → (r : ℕ) → r < 5 → (w : List ℕ)
    → l ≡ named (get_or names r []) w → r ≡ row
one_name n l row v said r lt w is = go (well_formed r w) (sym (named_line r lt n w) ∙ ap (line_of n) (sym is) ∙ said)
  where
    go : (b : Bool) → cond b (gives (value r w)) (refused 103 n) ≡ gives (value row v) → r ≡ row
    go true e = cc
    go false e = not_given e
