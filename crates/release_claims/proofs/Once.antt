-- No value without its line. Assumes nothing.
use mathlib.Core.Path.{◌≡◌, refl, sym, ap, ◌∙◌}
use Prim.Native.Nat.{ℕ, zero, suc, ◌<◌}
use mathlib.Core.List.{List, [], ◌∷◌, ◌++◌, append_assoc, append-nil}
use mathlib.Core.Option.{Option, none, some}
use mathlib.Core.Logic.{◌≢◌, inl, inr}
use native.Mathlib.Omega.{arith}
use native.Mathlib.Decide.{ℕ_discrete}
use lib.ListN.{length, get_or, replicate, length-set}
use lib.Seq.{get_or-set_same, get_or-set_other}
use lib.Dec.{lit<}
use Rattle.numbers.specs.Answer.{Answer, gives, refused, then}
use Rattle.numbers.specs.Every.{Every}
use Rattle.numbers.proofs.Every.{every_append}
use Rattle.release_values.specs.declared.Stated.{Stated}
use Rattle.release_lines.specs.Lines.{lines, names, Entry, nothing, value, line_of}
use Rattle.release_places.specs.Judging.{Seen, keep, put, judged}
use Rattle.release_places.proofs.Along.{not_given, along}
use Rattle.numbers.proofs.Refusals.{given_same}
use Rattle.release_sheet.specs.Reading.{value_in, stated_in, read_sheet}
use Rattle.release_sheet.proofs.Fitting.{has_value, given}
use Rattle.release_claims.specs.FromLines.{named, OnlyLine, Known, HasLine, NoValueWithoutItsLine}
use Rattle.release_claims.proofs.OneLine.{Named, of_value, of_nothing, passed_nameless, one_name}

-- nothing is seen at first
pub nothing_seen : (k i : ℕ) → ◌≡◌ {A = Option (List ℕ)} (get_or (replicate k none) i none) none
nothing_seen zero i = refl
nothing_seen (suc k) zero = refl
nothing_seen (suc k) (suc i) = nothing_seen k i

-- ---- one name

module _ (row : ℕ) (lt : row < 5) where
  abbrev Other : List ℕ → Type 0
  Other l = (w : List ℕ) → l ≢ named (get_or names row []) w

  -- what the lines passed say of what is seen: no line of the name, or the one with its value
  abbrev Passed : List (List ℕ) → Option (List ℕ) → Type 0
  Passed done none = Every Other done
  Passed done (some v) = OnlyLine done (get_or names row []) v

  -- a line of another name
  other_line : (done : List (List ℕ)) (l : List ℕ) (o : Option (List ℕ)) → Other l → Passed done o → Passed (done ++ (l ∷ [])) o
  other_line done l none d p = every_append Other done (l ∷ []) p (d, tt)
  other_line done l (some v) d p =
      record {
        before = p.before;
        behind = p.behind ++ (l ∷ []);
        is = ap (λ (m : List (List ℕ)). m ++ (l ∷ [])) p.is ∙ append_assoc p.before (named (get_or names row []) v ∷ p.behind) (l ∷ []);
        alone = rw (← append_assoc p.before p.behind (l ∷ [])) (every_append Other (p.before ++ p.behind) (l ∷ []) p.alone (d, tt));
      }

  -- the line of the name
  its_line : (done : List (List ℕ)) (l v : List ℕ) → l ≡ named (get_or names row []) v → Every Other done → Passed (done ++ (l ∷ [])) (some v)
  its_line done l v is p =
      record {
        before = done;
        behind = [];
        is = ap (λ (k : List ℕ). done ++ (k ∷ [])) is;
        alone = rw (append-nil done) p;
      }

  -- Of the lines `all`, `ls` are still to come.
  record Since (all : List (List ℕ)) (s : Seen) (ls : List (List ℕ)) : Type 0 where
    rows : length s ≡ 5
    done : List (List ℕ)
    are : all ≡ done ++ ls
    passed : Passed done (get_or s row none)

  next : (all : List (List ℕ)) (s t : Seen) (n : ℕ) (e : Entry) (l : List ℕ) (ls : List (List ℕ)) → line_of n l ≡ gives e → put s n e ≡ gives t
      → Since all s (l ∷ ls) → Since all t ls
  next all s t n nothing l ls said is p =
      rw (← given_same is)
      (record {
        rows = p.rows;
        done = p.done ++ (l ∷ []);
        are = p.are ∙ sym (append_assoc p.done (l ∷ []) ls);
        passed = other_line p.done l (get_or s row none) (passed_nameless n l said row lt) p.passed;
      })
  next all s t n (value r v) l ls said is p = go (get_or s r none) refl is (ℕ_discrete row r)
    where
      of : Named l r v
      of = of_value n l r v said

      go : (o : Option (List ℕ)) → get_or s r none ≡ o → keep s n r v o ≡ gives t → Dec (row ≡ r) → Since all t ls
      go (some w) x is d = not_given is
      go none x is (no ne) =
          rw (← given_same is)
          (record {
            rows = simp length-set p.rows;
            done = p.done ++ (l ∷ []);
            are = p.are ∙ sym (append_assoc p.done (l ∷ []) ls);
            passed = rw (get_or-set_other s r row (some v) none ne) (other_line p.done l (get_or s row none) (λ w h. ne (one_name n l r v said row lt w h)) p.passed);
          })
      go none x is (yes e) =
          let empty : get_or s row none ≡ none = rw e x in
          rw (← given_same is)
          (record {
            rows = simp length-set p.rows;
            done = p.done ++ (l ∷ []);
            are = p.are ∙ sym (append_assoc p.done (l ∷ []) ls);
            passed =
                rw (← e, get_or-set_same s row (some v) none (omega (arith, p.rows)))
                (its_line p.done l v (of.is ∙ ap (λ (i : ℕ). named (get_or names i []) v) (sym e)) (rw empty at p.passed));
          })

  -- behind the last line
  pub only : (text : List ℕ) (s : Seen) → judged text ≡ gives s → OnlyLine (lines text) (get_or names row []) (value_in s row)
  unfolding judged
  only text s is =
      let w = along (Since (lines text)) (next (lines text)) (lines text) (replicate 5 none) s 1 is (record { rows = refl; done = []; are = refl; passed = rw (nothing_seen 5 row) tt }) in
      let e : lines text ≡ w.0.done = w.0.are ∙ append-nil w.0.done in
      rw e (rw (has_value s row (omega (arith, w.1))) at w.0.passed)

-- ---- every line

-- Of the lines `all`, `ls` are still to come, and the others are known.
record KnownSince (all : List (List ℕ)) (s : Seen) (ls : List (List ℕ)) : Type 0 where
  done : List (List ℕ)
  are : all ≡ done ++ ls
  known : Every Known done

known_line : (n : ℕ) (e : Entry) (l : List ℕ) → line_of n l ≡ gives e → Known l
known_line n nothing l said = inl (of_nothing n l said)
known_line n (value r v) l said = let x = of_value n l r v said in inr (r, x.known, (v, x.is))

next_known : (all : List (List ℕ)) (s t : Seen) (n : ℕ) (e : Entry) (l : List ℕ) (ls : List (List ℕ)) → line_of n l ≡ gives e → put s n e ≡ gives t
    → KnownSince all s (l ∷ ls) → KnownSince all t ls
next_known all s t n e l ls said is p =
    record {
      done = p.done ++ (l ∷ []);
      are = p.are ∙ sym (append_assoc p.done (l ∷ []) ls);
      known = every_append Known p.done (l ∷ []) p.known (known_line n e l said, tt);
    }

all_known : (text : List ℕ) (s : Seen) → judged text ≡ gives s → Every Known (lines text)
unfolding judged
all_known text s is =
    let w = along (KnownSince (lines text)) (next_known (lines text)) (lines text) (replicate 5 none) s 1 is (record { done = []; are = refl; known = tt }) in
    let e : lines text ≡ w.0.done = w.0.are ∙ append-nil w.0.done in
    rw e w.0.known

-- ---- the five

-- what was read, and of what it was read
pub record Taken (text : List ℕ) (v : Stated) : Type 0 where
  pub seen : Seen
  pub is : judged text ≡ gives seen
  pub stated : v ≡ stated_in seen

pub taken : (text : List ℕ) (v : Stated) → read_sheet text ≡ gives v → Taken text v
unfolding read_sheet
taken text v e = go (judged text) refl e
  where
    go : (a : Answer Seen) → judged text ≡ a → then a (λ s. gives (stated_in s)) ≡ gives v → Taken text v
    go (gives s) x y = record { seen = s; is = x; stated = sym (given_same y) }
    go (refused n p) x y = not_given y

-- the line of a row
row_line : (text : List ℕ) (s : Seen) → judged text ≡ gives s → (row : ℕ) → row < 5 → (Q : List ℕ → Type 0) → Q (value_in s row)
    → HasLine (lines text) row Q
row_line text s is row lt Q q =
    record {
      value = value_in s row;
      line = only row lt text s is;
      tested = (given text s is).fits row lt;
      stated = q;
    }

pub no_value_without_its_line : NoValueWithoutItsLine
no_value_without_its_line text v e =
    let t = taken text v e in
    let is = t.is in
    let st = t.stated in
    record {
      version = row_line text t.seen is 0 (lit< tt) _ (ap (λ (x : Stated). x.version) st);
      timestamp = row_line text t.seen is 1 (lit< tt) _ (ap (λ (x : Stated). x.timestamp) st);
      signature = row_line text t.seen is 2 (lit< tt) _ (ap (λ (x : Stated). x.signature) st);
      auth_type = row_line text t.seen is 3 (lit< tt) _ (ap (λ (x : Stated). x.auth_type) st);
      hint = row_line text t.seen is 4 (lit< tt) _ (ap (λ (x : Stated). x.has_hint) st, ap (λ (x : Stated). x.hint) st);
      others = all_known text t.seen is;
    }
