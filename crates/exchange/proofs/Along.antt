-- Lists of calls by induction, once: an invariant with a number of operations left, and what each call pays for; one list behind another, and a
-- list split in two; and one list read in two ways.
use mathlib.Core.Path.{◌≡◌, refl, sym, ap, ap₂, ◌∙◌, subst}
use mathlib.Core.List.{List, [], ◌∷◌, ◌++◌, map}
use Prim.Native.Nat.{ℕ, ◌+◌, ◌*◌, ◌≤◌}
use native.Mathlib.Omega.{arith}
use native.Mathlib.Nat.{mul-add}
use Rattle.exchange.specs.Along.{state_after, Along, summed}

module _ {S C : Type 0} (next : S → C → S) (P Q : S → C → S → Type 0) (Inv : S → ℕ → Type 0) (done extra : S → C → ℕ) (w : ℕ) where
  -- a call from a state with r left: what it does and what is left is r, and w for each extra
  pub record Pays (s : S) (r : ℕ) (c : C) : Type 0 where
    pub rest : ℕ
    pub holds : Inv (next s c) rest
    pub paid : done s c + rest ≤ r + w * extra s c
    pub claim : Q s c (next s c)

  -- the same of a list
  pub record PaysAll (s : S) (r : ℕ) (cs : List C) : Type 0 where
    pub rest : ℕ
    pub holds : Inv (state_after next s cs) rest
    pub paid : summed next done s cs + rest ≤ r + w * summed next extra s cs
    pub claim : Along next Q s cs

  pub along : ((s : S) (r : ℕ) (c : C) → Inv s r → P s c (next s c) → Pays s r c) → (cs : List C) (s : S) (r : ℕ) → Inv s r → Along next P s cs → PaysAll s r cs
  along one [] s r i h = record { rest = r; holds = i; paid = omega arith; claim = tt }
  along one (c ∷ cs) s r i h = on (one s r c i h.0) (λ q j. along one cs (next s c) q j h.1)
    where
      on : Pays s r c → ((q : ℕ) → Inv (next s c) q → PaysAll (next s c) q cs) → PaysAll s r (c ∷ cs)
      on p tail =
          let l : PaysAll (next s c) p.rest cs = tail p.rest p.holds in
          record {
            rest = l.rest;
            holds = l.holds;
            paid = rw (mul-add w (extra s c) (summed next extra (next s c) cs)) (omega (arith, p.paid, l.paid));
            claim = (p.claim, l.claim);
          }

-- ---- one list behind another

module _ {S C : Type 0} (next : S → C → S) where
  pub after_append : (cs ds : List C) (s : S) → state_after next s (cs ++ ds) ≡ state_after next (state_after next s cs) ds
  after_append [] ds s = refl
  after_append (c ∷ cs) ds s = after_append cs ds (next s c)

  pub sum_append : (n : S → C → ℕ) (cs ds : List C) (s : S) → summed next n s (cs ++ ds) ≡ summed next n s cs + summed next n (state_after next s cs) ds
  sum_append n [] ds s = omega arith
  sum_append n (c ∷ cs) ds s = let e = sum_append n cs ds (next s c) in omega arith

  pub along_append : (P : S → C → S → Type 0) (cs ds : List C) (s : S) → Along next P s cs → Along next P (state_after next s cs) ds → Along next P s (cs ++ ds)
  along_append P [] ds s h k = k
  along_append P (c ∷ cs) ds s h k = (h.0, along_append P cs ds (next s c) h.1 k)

  -- what holds of every call holds also in part
  pub along_part : (P Q : S → C → S → Type 0) → ((s : S) (c : C) → P s c (next s c) → Q s c (next s c)) → (cs : List C) (s : S) → Along next P s cs → Along next Q s cs
  along_part P Q one [] s h = tt
  along_part P Q one (c ∷ cs) s h = (one s c h.0, along_part P Q one cs (next s c) h.1)

  -- two lists, each with something more that holds before its calls, are one
  pub along_both : (F G : S → Type 0) (P : S → C → S → Type 0) (cs ds : List C) (s : S) → Along next (λ s₁ c s₂. F s₁ × P s₁ c s₂) s cs
      → Along next (λ s₁ c s₂. G s₁ × P s₁ c s₂) (state_after next s cs) ds → Along next P s (cs ++ ds)
  along_both F G P cs ds s h k =
      along_append P cs ds s (along_part (λ s₁ c s₂. F s₁ × P s₁ c s₂) P (λ s₁ c q. q.1) cs s h)
      (along_part (λ s₁ c s₂. G s₁ × P s₁ c s₂) P (λ s₁ c q. q.1) ds (state_after next s cs) k)

  -- a list is split where something that can be told is first true
  pub data Split (F : S → Type 0) (P : S → C → S → Type 0) (s : S) (cs : List C) : Type 0 where
    never : Along next (λ s₁ c s₂. (¬ F s₁) × P s₁ c s₂) s cs → Split F P s cs
    splits : (ds es : List C) → ds ++ es ≡ cs → Along next (λ s₁ c s₂. (¬ F s₁) × P s₁ c s₂) s ds → F (state_after next s ds) → Along next P (state_after next s ds) es
        → Split F P s cs

  pub split : (F : S → Type 0) (P : S → C → S → Type 0) → ((s : S) → Dec (F s)) → (cs : List C) (s : S) → Along next P s cs → Split F P s cs
  split F P tell [] s h = never tt
  split F P tell (c ∷ cs) s h = by (tell s) (split F P tell cs (next s c) h.1)
    where
      behind : ¬ F s → Split F P (next s c) cs → Split F P s (c ∷ cs)
      behind n (never a) = never ((n, h.0), a)
      behind n (splits ds es e a f r) = splits (c ∷ ds) es (ap (λ (l : List C). c ∷ l) e) ((n, h.0), a) f r

      by : Dec (F s) → Split F P (next s c) cs → Split F P s (c ∷ cs)
      by (yes f) r = splits [] (c ∷ cs) refl tt f h
      by (no n) r = behind n r

-- ---- one list, read in two ways: a call c as it is, and as the call `ruled c` of another kind, of which the same is seen

module _ {S C D L : Type 0} (at : L → S) (see : S → C → L) (see' : S → D → L) (ruled : C → D) where
  abbrev next : S → C → S
  next s c = at (see s c)

  abbrev next' : S → D → S
  next' s d = at (see' s d)

  abbrev pub Same : S → List C → Type 0
  Same s cs = Along next (λ s₁ c s₂. see s₁ c ≡ see' s₁ (ruled c)) s cs

  pub same_after : (cs : List C) (s : S) → Same s cs → state_after next s cs ≡ state_after next' s (map ruled cs)
  same_after [] s h = refl
  same_after (c ∷ cs) s h = same_after cs (next s c) h.1 ∙ ap (λ (t : S). state_after next' t (map ruled cs)) (ap at h.0)

  pub same_sum : (n : L → ℕ) (cs : List C) (s : S) → Same s cs
      → summed next (λ s₁ c. n (see s₁ c)) s cs ≡ summed next' (λ s₁ d. n (see' s₁ d)) s (map ruled cs)
  same_sum n [] s h = refl
  same_sum n (c ∷ cs) s h =
      ap₂ ◌+◌ (ap n h.0)
      (same_sum n cs (next s c) h.1 ∙ ap (λ (t : S). summed next' (λ s₁ d. n (see' s₁ d)) t (map ruled cs)) (ap at h.0))

  pub same_along : (Q : S → L → Type 0) (cs : List C) (s : S) → Same s cs → Along next' (λ s₁ d s₂. Q s₁ (see' s₁ d)) s (map ruled cs)
      → Along next (λ s₁ c s₂. Q s₁ (see s₁ c)) s cs
  same_along Q [] s h q = tt
  same_along Q (c ∷ cs) s h q = (
    subst (Q s) (sym h.0) q.0,
    same_along Q cs (next s c) h.1 (subst (λ (t : S). Along next' (λ s₁ d s₂. Q s₁ (see' s₁ d)) t (map ruled cs)) (sym (ap at h.0)) q.1),
  )

  -- what is allowed of the one is allowed of the other
  pub same_allowed : (P : S → C → Type 0) (Q : S → D → Type 0) → ((s : S) (c : C) → P s c → (see s c ≡ see' s (ruled c)) × Q s (ruled c)) → (cs : List C) (s : S)
      → Along next (λ s₁ c s₂. P s₁ c) s cs → Same s cs × Along next' (λ s₁ d s₂. Q s₁ d) s (map ruled cs)
  same_allowed P Q one [] s h = (tt, tt)
  same_allowed P Q one (c ∷ cs) s h = with_rest (one s c h.0) (same_allowed P Q one cs (next s c) h.1)
    where
      with_rest : (see s c ≡ see' s (ruled c)) × Q s (ruled c) → Same (next s c) cs × Along next' (λ s₁ d s₂. Q s₁ d) (next s c) (map ruled cs)
          → Same s (c ∷ cs) × Along next' (λ s₁ d s₂. Q s₁ d) s (map ruled (c ∷ cs))
      with_rest e r = ((e.0, r.0), (e.1, subst (λ (t : S). Along next' (λ s₁ d s₂. Q s₁ d) t (map ruled cs)) (ap at e.0) r.1))
