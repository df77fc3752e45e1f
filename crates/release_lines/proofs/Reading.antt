-- What one line says, by the tests on the way. Assumes nothing.
use mathlib.Core.Path.{◌≡◌, refl, sym, ◌∙◌}
use Prim.Native.Nat.{ℕ, suc, ◌+◌, ◌-◌, ◌≤◌, ◌<◌}
use mathlib.Core.List.{List, [], ◌∷◌, map}
use mathlib.Core.Bool.{Bool, true, false, cond, not}
use native.Mathlib.Omega.{arith}
use lib.ListN.{length, get_or, take, drop, length-drop}
use lib.Dec.{ltb, eqb}
use lib.Pointwise.{pointwise, bytes_decides}
use lib.Seq.{take_all}
use borrow.Author.Tests.{eq-eqb, ne_eqb, ltb-true, ltb-false}
use Rattle.std.specs.Prelude.{Option, Some, None, SomeIff, Ok, Err}
use Rattle.std.specs.Option.{ok_or}
use Rattle.std.specs.List.{position_or_len}
use Rattle.std.proofs.lemmas.List.Sums.{prefix_len-le-length}
use Rattle.numbers.specs.declared.SheetRefusal.TheVariants.{NotUnderstood, UnknownName, BadValue}
use denote.Ref.{Bor}
use Rattle.header_tags.specs.Bytes.{same}
use Rattle.header_tags.proofs.Same.{test}
use Rattle.release_lines.specs.Search.{index_after, index_of}
use Rattle.release_lines.specs.Lines.{names, row_named, well_formed, passed_over, line_of, LineRead}

-- a part of a slice that goes to its end
pub rest : (l : List ℕ) (from : ℕ) → take (length l - from) (drop from l) ≡ drop from l
rest l from = take_all (length l - from) (drop from l) (omega (arith, length-drop from l))

-- what a comparison of slices tells
pub told : (a b : List ℕ) {c : List ℕ} {r v : Bool} → r ≡ pointwise eqb a b → b ≡ c → r ≡ v → same a c ≡ v
told a b e is says = rw (← is) (test (bytes_decides a b) (sym e ∙ says))

pub compared : {r : Bool} (a b : List ℕ) → r ≡ pointwise eqb a b → r ≡ same a b
compared a b e = sym (told a b e refl refl)

-- ---- what stands first

-- what a search answers, by the place p of n at which it finds, or n
pub found_first : (p n : ℕ) {r : Option ℕ} → r ≡ cond (ltb p n) (Some p) None → SomeIff r (p < n) p
found_first p n e = rw e (go (ltb p n) refl)
  where
    go : (b : Bool) → ltb p n ≡ b → SomeIff (cond b (Some p) None) (p < n) p
    go true t = (ltb-true p n t, refl)
    go false t = λ lt. absurd (omega (arith, lt, ltb-false p n t))

-- of a search that has to find, what it hands on, and where it finds nothing
pub handed : {P : Type 0} {E : Type 0} {k x : ℕ} (e : E) (r : Option ℕ) → SomeIff r P k → ok_or r e ≡ Ok x → P × (x ≡ k)
handed e None w is = absurd (cc)
handed {x = x} e (Some y) w is = let z : y ≡ x = cc in rw (← z) w

pub not_found : {P : Type 0} {E : Type 0} {d : E} (e : E) (k : ℕ) (r : Option ℕ) → SomeIff r P k → ok_or r e ≡ Err d → (P → ⊥) × (d ≡ e)
not_found e k None w is = (w, cc)
not_found e k (Some y) w is = absurd (cc)

-- ---- which place and which row that is

pub place_is : (b : ℕ) (l : List ℕ) → position_or_len (λ c. eqb c b) l ≡ index_of b l
unfolding index_of
place_is b [] = refl
place_is b (c ∷ l) = go (eqb c b) (place_is b l)
  where
    go : (x : Bool) → position_or_len (λ k. eqb k b) l ≡ index_of b l → cond (not x) (1 + position_or_len (λ k. eqb k b) l) 0 ≡ index_after x (index_of b l)
    go true e = refl
    go false e = omega (arith, e)

pub index_bound : (b : ℕ) (l : List ℕ) → index_of b l ≤ length l
index_bound b l = rw (← place_is b l) (prefix_len-le-length (λ c. not (eqb c b)) l)

pub row_is : (x : List ℕ) (rows : List (Bor (List ℕ))) → position_or_len (λ y. same x y.now) rows ≡ row_named (map (λ y. y.now) rows) x
unfolding row_named
row_is x [] = refl
row_is x (y ∷ rows) = go (same x y.now) (row_is x rows)
  where
    go : (b : Bool) → position_or_len (λ z. same x z.now) rows ≡ row_named (map (λ z. z.now) rows) x
        → cond (not b) (1 + position_or_len (λ z. same x z.now) rows) 0 ≡ elim b [ true ↦ 0 | false ↦ suc (row_named (map (λ z. z.now) rows) x) ]
    go true e = refl
    go false e = omega (arith, e)

-- ---- one line

-- a name's row is one of as many, or their number
pub row_bound : (rows : List (List ℕ)) (x : List ℕ) → row_named rows x ≤ length rows
unfolding row_named
row_bound [] x = omega arith
row_bound (y ∷ rows) x = go (same x y) (row_bound rows x)
  where
    go : (b : Bool) → row_named rows x ≤ length rows → elim b [ true ↦ 0 | false ↦ suc (row_named rows x) ] ≤ suc (length rows)
    go true le = omega arith
    go false le = omega arith

pub empty : (l : List ℕ) → length l ≡ 0 → passed_over l ≡ true
empty [] a = refl
empty (c ∷ l) a = absurd (omega arith)

pub comment : (l : List ℕ) → get_or l 0 0 ≡ 35 → passed_over l ≡ true
comment [] b = refl
comment (c ∷ l) b = eq-eqb c 35 b

not_passed : (l : List ℕ) → (length l ≡ 0 → ⊥) → (get_or l 0 0 ≡ 35 → ⊥) → passed_over l ≡ false
not_passed [] a b = absurd (a refl)
not_passed (c ∷ l) a b = ne_eqb c 35 b

module _ (n : ℕ) (l : List ℕ) where
  pub nothing_read : passed_over l ≡ true → LineRead n l (Ok None)
  unfolding line_of
  nothing_read e = record { says = sym (simp e); within = λ v x. absurd (cc) }

  module _ (some : length l ≡ 0 → ⊥) (other : get_or l 0 0 ≡ 35 → ⊥) where
    pub no_space : (index_of 32 l < length l → ⊥) → LineRead n l (Err (NotUnderstood n))
    unfolding line_of
    no_space none =
        let end : index_of 32 l ≡ length l = omega (arith, none, index_bound 32 l) in
        record { says = sym (simp (not_passed l some other, eq-eqb (index_of 32 l) (length l) end)); within = λ v x. absurd (cc) }

    module _ {s : ℕ} (there : (index_of 32 l < length l) × (s ≡ index_of 32 l)) where
      pub no_name : (row_named names (take s l) < 5 → ⊥) → LineRead n l (Err (UnknownName n))
      unfolding line_of
      no_name none =
          let last : row_named names (take s l) ≡ 5 = omega (arith, none, row_bound names (take s l)) in
          record {
            says = sym (simp (not_passed l some other, ← there.1, ne_eqb s (length l) (omega (arith, there)), eq-eqb (row_named names (take s l)) 5 last));
            within = λ v x. absurd (cc);
          }

      module _ {row : ℕ} (named : (row_named names (take s l) < 5) × (row ≡ row_named names (take s l))) (good : Bool)
          (result : good ≡ well_formed row (take (length l - (s + 1)) (drop (s + 1) l))) where
        tested : good ≡ well_formed row (drop (s + 1) l)
        tested = rw (rest l (s + 1)) at result

        pub no_value : good ≡ false → LineRead n l (Err (BadValue n))
        unfolding line_of
        no_value e =
            record {
              says = sym (simp (not_passed l some other, ← there.1, ne_eqb s (length l) (omega (arith, there)), ← named.1, ne_eqb row 5 (omega (arith, named)), ← tested, e));
              within = λ v x. absurd (cc);
            }

        pub a_value : good ≡ true → LineRead n l (Ok (Some (record { row = row; from = s + 1 })))
        unfolding line_of
        a_value e =
            record {
              says = sym (simp (not_passed l some other, ← there.1, ne_eqb s (length l) (omega (arith, there)), ← named.1, ne_eqb row 5 (omega (arith, named)), ← tested, e));
              within = λ v x. let z : record { row = row; from = s + 1 } ≡ v = cc in rw (← z) (omega (arith, named), omega arith, omega (arith, there));
            }
