-- A text in which each name has one line, with a value that passes its test, is read. Assumes nothing.
use mathlib.Core.Path.{◌≡◌, refl, sym, ap, ◌∙◌}
use Prim.Native.Nat.{ℕ, zero, suc, ◌<◌}
use mathlib.Core.List.{List, [], ◌∷◌, ◌++◌, head-eq_of_cons-eq, tail-eq_of_cons-eq}
use mathlib.Core.Option.{Option, none, some}
use mathlib.Core.Bool.{true}
use mathlib.Core.Logic.{◌≢◌, inl, inr}
use native.Mathlib.Omega.{arith}
use native.Mathlib.Decide.{ℕ_discrete}
use lib.ListN.{length, get_or, set, take, replicate, length-set}
use lib.Seq.{get_or-set_same, get_or-set_other, ext_get_or}
use Rattle.release_lines.specs.Search.{index_of}
use Rattle.numbers.specs.Answer.{gives, then}
use Rattle.numbers.specs.Every.{Every}
use Rattle.header_tags.specs.Bytes.{same}
use Rattle.release_lines.specs.Lines.{lines, names, row_named, well_formed, nothing, value, passed_over, line_of}
use Rattle.release_places.specs.Judging.{Seen, put, missing_row, judge, judged}
use Rattle.release_claims.specs.FromLines.{named, OnlyLine, Known}
use Rattle.release_claims.proofs.OneLine.{named_line}
use Rattle.release_claims.proofs.Once.{nothing_seen}

-- two names of the table are told apart by what stands before the first space
row_is : (r : ℕ) → r < 5 → (w : List ℕ) → row_named names (take (index_of 32 (named (get_or names r []) w)) (named (get_or names r []) w)) ≡ r
unfolding index_of row_named same
row_is zero lt w = refl
row_is (suc zero) lt w = refl
row_is (suc (suc zero)) lt w = refl
row_is (suc (suc (suc zero))) lt w = refl
row_is (suc (suc (suc (suc zero)))) lt w = refl
row_is (suc (suc (suc (suc (suc r))))) lt w = absurd (omega arith)

pub same_row : (r q : ℕ) → r < 5 → q < 5 → (v w : List ℕ) → named (get_or names r []) v ≡ named (get_or names q []) w → r ≡ q
same_row r q lr lq v w e = sym (row_is r lr v) ∙ ap (λ (l : List ℕ). row_named names (take (index_of 32 l) l)) e ∙ row_is q lq w

-- a line that is passed over has no name
pub passed_other : (l : List ℕ) → passed_over l ≡ true → (r : ℕ) → r < 5 → (w : List ℕ) → l ≢ named (get_or names r []) w
passed_other l p r lt w is = go r lt (sym (ap passed_over is) ∙ p)
  where
    go : (r : ℕ) → r < 5 → passed_over (named (get_or names r []) w) ≡ true → ⊥
    go zero lt e = let z : ◌≡◌ {A = ℕ} 0 1 = cc in omega arith
    go (suc zero) lt e = let z : ◌≡◌ {A = ℕ} 0 1 = cc in omega arith
    go (suc (suc zero)) lt e = let z : ◌≡◌ {A = ℕ} 0 1 = cc in omega arith
    go (suc (suc (suc zero))) lt e = let z : ◌≡◌ {A = ℕ} 0 1 = cc in omega arith
    go (suc (suc (suc (suc zero)))) lt e = let z : ◌≡◌ {A = ℕ} 0 1 = cc in omega arith
    go (suc (suc (suc (suc (suc r))))) lt e = absurd (omega arith)

passed_says : (n : ℕ) (l : List ℕ) → passed_over l ≡ true → line_of n l ≡ gives nothing
unfolding line_of
passed_says n l p = rw p

-- ---- one name

abbrev Other : ℕ → List ℕ → Type 0
Other row l = (w : List ℕ) → l ≢ named (get_or names row []) w

-- without a first line that has not the name
only_behind : (row : ℕ) (v l : List ℕ) (ls : List (List ℕ)) → Other row l → OnlyLine (l ∷ ls) (get_or names row []) v → OnlyLine ls (get_or names row []) v
only_behind row v l ls d o = go o.before o.is o.alone
  where
    go : (b : List (List ℕ)) → l ∷ ls ≡ b ++ (named (get_or names row []) v ∷ o.behind) → Every (Other row) (b ++ o.behind) → OnlyLine ls (get_or names row []) v
    go [] e a = absurd (d v (head-eq_of_cons-eq e))
    go (k ∷ b) e a = record { before = b; behind = o.behind; is = tail-eq_of_cons-eq e; alone = a.1 }

-- a first line that has the name
only_first : (row : ℕ) (v w l : List ℕ) (ls : List (List ℕ)) → l ≡ named (get_or names row []) w → OnlyLine (l ∷ ls) (get_or names row []) v
    → (l ≡ named (get_or names row []) v) × Every (Other row) ls
only_first row v w l ls is o = go o.before o.is o.alone
  where
    go : (b : List (List ℕ)) → l ∷ ls ≡ b ++ (named (get_or names row []) v ∷ o.behind) → Every (Other row) (b ++ o.behind)
        → (l ≡ named (get_or names row []) v) × Every (Other row) ls
    go [] e a = (head-eq_of_cons-eq e, rw (tail-eq_of_cons-eq e) a)
    go (k ∷ b) e a = absurd (a.0 w (sym (head-eq_of_cons-eq e) ∙ is))

not_empty : (row : ℕ) (v : List ℕ) → OnlyLine [] (get_or names row []) v → ⊥
not_empty row v o = go o.before o.is
  where
    go : (b : List (List ℕ)) → [] ≡ b ++ (named (get_or names row []) v ∷ o.behind) → ⊥
    go [] e = let z : ◌≡◌ {A = ℕ} 0 1 = cc in omega arith
    go (k ∷ b) e = let z : ◌≡◌ {A = ℕ} 0 1 = cc in omega arith

-- ---- all lines

module _ (values : ℕ → List ℕ) (good : (row : ℕ) → row < 5 → well_formed row (values row) ≡ true) where
  -- of a row: its line is still to come, or its value is seen and no line of its name comes
  abbrev Todo : ℕ → List (List ℕ) → Option (List ℕ) → Type 0
  Todo row ls none = OnlyLine ls (get_or names row []) (values row)
  Todo row ls (some w) = (w ≡ values row) × Every (Other row) ls

  abbrev pub full : Seen
  full = some (values 0) ∷ some (values 1) ∷ some (values 2) ∷ some (values 3) ∷ some (values 4) ∷ []

  record State (s : Seen) (ls : List (List ℕ)) : Type 0 where
    rows : length s ≡ 5
    todo : (row : ℕ) → row < 5 → Todo row ls (get_or s row none)
    known : Every Known ls

  todo_behind : (row : ℕ) (l : List ℕ) (ls : List (List ℕ)) (o : Option (List ℕ)) → Other row l → Todo row (l ∷ ls) o → Todo row ls o
  todo_behind row l ls none d t = only_behind row (values row) l ls d t
  todo_behind row l ls (some w) d t = (t.0, t.1.1)

  todo_none : (row : ℕ) (o : Option (List ℕ)) → Todo row [] o → o ≡ some (values row)
  todo_none row none t = absurd (not_empty row (values row) t)
  todo_none row (some w) t = ap some t.0

  entries : (row : ℕ) → row < 5 → get_or full row none ≡ some (values row)
  entries zero lt = refl
  entries (suc zero) lt = refl
  entries (suc (suc zero)) lt = refl
  entries (suc (suc (suc zero))) lt = refl
  entries (suc (suc (suc (suc zero)))) lt = refl
  entries (suc (suc (suc (suc (suc r))))) lt = absurd (omega arith)

  -- a line of a name
  record Kept (s : Seen) (n : ℕ) (l : List ℕ) (ls : List (List ℕ)) : Type 0 where
    after : Seen
    is : then (line_of n l) (λ e. put s n e) ≡ gives after
    state : State after ls

  passed_line : (s : Seen) (n : ℕ) (l : List ℕ) (ls : List (List ℕ)) → State s (l ∷ ls) → passed_over l ≡ true → Kept s n l ls
  passed_line s n l ls t p =
      record {
        after = s;
        is = rw (passed_says n l p);
        state = record { rows = t.rows; todo = λ row lt. todo_behind row l ls (get_or s row none) (passed_other l p row lt) (t.todo row lt); known = t.known.1 };
      }

  named_kept : (s : Seen) (n : ℕ) (l : List ℕ) (ls : List (List ℕ)) → State s (l ∷ ls) → (r : ℕ) → r < 5 → (w : List ℕ) → l ≡ named (get_or names r []) w
      → Kept s n l ls
  named_kept s n l ls t r lt w is = go (get_or s r none) refl (t.todo r lt)
    where
      go : (o : Option (List ℕ)) → get_or s r none ≡ o → Todo r (l ∷ ls) o → Kept s n l ls
      go (some u) x d = absurd (d.1.0 w is)
      go none x d =
          let first = only_first r (values r) w l ls is d in
          let said : line_of n l ≡ gives (value r (values r)) = ap (line_of n) first.0 ∙ named_line r lt n (values r) ∙ rw (good r lt) in
          record {
            after = set s r (some (values r));
            is = rw (said, x);
            state = record { rows = simp length-set t.rows; todo = λ q lq. rest q lq first.1 (ℕ_discrete q r); known = t.known.1 };
          }
        where
          rest : (q : ℕ) → q < 5 → Every (Other r) ls → Dec (q ≡ r) → Todo q ls (get_or (set s r (some (values r))) q none)
          rest q lq f (yes e) = rw (e, get_or-set_same s r (some (values r)) none (omega (arith, t.rows))) (refl, f)
          rest q lq f (no ne) =
              rw (get_or-set_other s r q (some (values r)) none ne)
              (todo_behind q l ls (get_or s q none) (λ u h. ne (same_row q r lq lt u w (sym h ∙ is))) (t.todo q lq))

  kept : (s : Seen) (n : ℕ) (l : List ℕ) (ls : List (List ℕ)) → State s (l ∷ ls) → Known l → Kept s n l ls
  kept s n l ls t (inl p) = passed_line s n l ls t p
  kept s n l ls t (inr k) = named_kept s n l ls t k.0 k.1 k.2.0 k.2.1

  all : (ls : List (List ℕ)) (s : Seen) (n : ℕ) → State s ls → judge s n ls ≡ gives full
  unfolding judge missing_row
  all [] s n t =
      let is : s ≡ full = ext_get_or none s full t.rows (λ i lt. todo_none i (get_or s i none) (t.todo i (omega (arith, t.rows))) ∙ sym (entries i (omega (arith, t.rows)))) in
      rw is
  all (l ∷ ls) s n t =
      let k = kept s n l ls t t.known.0 in
      rw k.is (all ls k.after (suc n) k.state)

  pub each_once : (text : List ℕ) → ((row : ℕ) → row < 5 → OnlyLine (lines text) (get_or names row []) (values row)) → Every Known (lines text)
      → judged text ≡ gives full
  unfolding judged
  each_once text once known =
      all (lines text) (replicate 5 none) 1 (record { rows = refl; todo = λ row lt. rw (nothing_seen 5 row) (once row lt); known = known })
