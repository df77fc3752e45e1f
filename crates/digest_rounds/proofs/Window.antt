-- The window holds the standard's words.
use Rattle.std.proofs.Common.{◌≡◌, ℕ, zero, suc, ◌+◌, ◌-◌, ◌%◌, ◌<◌, ◌≤◌, Bool, true, false, cond, ltb, List, [], ◌∷◌, ◌++◌, length, take, set, sym, refl, ap, ◌∙◌, subst, ap₂, arith, length-append, length-set, take_all, get_or-set_other, get_or-take, get_or-set_same, ltb-false, ltb-true, le-ltb}
use lib.ListN.{get_or-append}
use lib.Seq.{get_or-append_seam, take-append-le}
use Rattle.digest_fips180.specs.Sha256.{◌!◌, ◌⊞◌, σ₀, σ₁, first, words, K, round, rounds, next_word, schedule}
use Rattle.digest_rounds.specs.declared.Rounds.{Rounds}
use Rattle.digest_rounds.specs.Window.{place, word_due, window_for, round_on, begin, after}
use Rattle.digest_rounds.specs.Claims.{Holds, WindowHolds, Takes, TakesWord, SameVariables, EachBlockHasSixteen}

-- ---- the schedule

-- the next word depends on the words before it alone
next_append : (s l : List ℕ) (n : ℕ) → n + 15 ≤ length s → next_word (s ++ l) n ≡ next_word s n
unfolding next_word
next_append s l n h =
    let h0 : n < length s = omega arith in
    let h1 : n + 1 < length s = omega arith in
    let h9 : n + 9 < length s = omega arith in
    let h14 : n + 14 < length s = omega arith in
    simp (get_or-append s l 0 n h0, get_or-append s l 0 (n + 1) h1, get_or-append s l 0 (n + 9) h9, get_or-append s l 0 (n + 14) h14)

length_schedule : (m : List ℕ) (n : ℕ) → length m ≡ 16 → length (schedule m n) ≡ n + 16
unfolding schedule
length_schedule m zero e = omega arith
length_schedule m (suc n) e = simp length-append (omega (arith, length_schedule m n e))

-- its first words are the block's
own_words : (m : List ℕ) (k : ℕ) → length m ≡ 16 → take 16 (schedule m k) ≡ m
unfolding schedule
own_words m zero e = take_all 16 m (omega arith)
own_words m (suc k) e = take-append-le 16 (schedule m k) _ (omega (arith, length_schedule m k e)) ∙ own_words m k e

-- each later word is made of those before it
scheduled : (m : List ℕ) (k n : ℕ) → length m ≡ 16 → n < k → schedule m k ! (n + 16) ≡ next_word (schedule m k) n
unfolding schedule
scheduled m zero n e h = absurd (omega arith)
scheduled m (suc k) n e h = at (ltb n k) refl (scheduled m k n e)
  where
    s : List ℕ
    s = schedule m k

    l : length s ≡ k + 16
    l = length_schedule m k e

    at : (b : Bool) → ltb n k ≡ b → (n < k → s ! (n + 16) ≡ next_word s n) → (s ++ next_word s k ∷ []) ! (n + 16) ≡ next_word (s ++ next_word s k ∷ []) n
    at true p below =
        let i : n < k = ltb-true n k p in
        get_or-append s (next_word s k ∷ []) 0 (n + 16) (omega (arith, l)) ∙ below i
        ∙ sym (next_append s (next_word s k ∷ []) n (omega (arith, l)))
    at false p below =
        let q : n ≡ k = omega (arith, ltb-false n k p) in
        let i : n + 16 ≡ length s = omega (arith, l) in
        rw i (get_or-append_seam s (next_word s k) [] 0) ∙ ap (next_word s) (sym q) ∙ sym (next_append s (next_word s k ∷ []) n (omega (arith, l)))

-- ---- the window

-- before round 16 it is the block's own words
holds_own : (m : List ℕ) (t : ℕ) → length m ≡ 16 → t < 16 → Holds m m t
holds_own m t e h =
    record {
      size = e;
      last = λ n a b.
          let i : n < 16 = omega arith in
          let p : n % 16 ≡ n = omega arith in
          rw p (ap (λ l. l ! n) (sym (own_words m 48 e)) ∙ get_or-take 16 (schedule m 48) n 0 i);
      own = λ a. refl;
    }

-- 6.2.2, step 1, of words that are equal
equal_words : {a b c d a' b' c' d' : ℕ} → a ≡ a' → b ≡ b' → c ≡ c' → d ≡ d' → σ₁ a ⊞ b ⊞ σ₀ c ⊞ d ≡ σ₁ a' ⊞ b' ⊞ σ₀ c' ⊞ d'
equal_words p q r s = rw (p, q, r, s) refl

-- the word that is due
due : (m v : List ℕ) (n : ℕ) → Holds m v (n + 15) → word_due v (n + 16) ≡ next_word (schedule m 48) n
unfolding word_due next_word
due m v n H =
    equal_words
    (at (n + 16 - 2) (n + 14) (omega arith) (omega arith, omega arith))
    (at (n + 16 - 7) (n + 9) (omega arith) (omega arith, omega arith))
    (at (n + 16 - 15) (n + 1) (omega arith) (omega arith, omega arith))
    (at (n + 16 - 16) n (omega arith) (omega arith, omega arith))
  where
    at : (i j : ℕ) → i ≡ j → (j ≤ n + 15) × (n + 15 < j + 16) → v ! place i ≡ schedule m 48 ! j
    at i j e b = ap (λ k. v ! place k) e ∙ H.last j (omega (arith, b.0)) (omega (arith, b.1))

-- from round 16 on, the word that is due takes the place of the oldest one
holds_next : (m v : List ℕ) (n : ℕ) → schedule m 48 ! (n + 16) ≡ next_word (schedule m 48) n → Holds m v (n + 15)
    → Holds m (set v (place (n + 16)) (word_due v (n + 16))) (n + 16)
holds_next m v n q H =
    record {
      size = length-set v (place (n + 16)) _ ∙ H.size;
      last = λ j a b. at j a (omega (arith, b)) (ltb j (n + 16)) refl;
      own = λ a. absurd (omega arith);
    }
  where
    u : List ℕ
    u = set v (place (n + 16)) (word_due v (n + 16))

    at : (j : ℕ) → j ≤ n + 16 → n + 16 < j + 16 → (b : Bool) → ltb j (n + 16) ≡ b → u ! place j ≡ schedule m 48 ! j
    at j a c true p =
        let i : j < n + 16 = ltb-true j (n + 16) p in
        get_or-set_other v (place (n + 16)) (place j) _ 0 (λ e. omega arith) ∙ H.last j (omega arith) (omega arith)
    at j a c false p =
        let i : j ≡ n + 16 = omega (arith, ltb-false j (n + 16) p) in
        rw i (get_or-set_same v (place (n + 16)) _ 0 (omega (arith, H.size)) ∙ due m v n H ∙ sym q)

-- the window for round t + 1 holds what it has to, if that for round t does
moved : (m v : List ℕ) (t : ℕ) → length m ≡ 16 → suc t < 64 → Holds m v t → Holds m (window_for v (suc t)) (suc t)
unfolding window_for
moved m v t e l H = at (ltb (suc t) 16) refl
  where
    at : (b : Bool) → ltb (suc t) 16 ≡ b → Holds m (cond (ltb (suc t) 16) v (set v (place (suc t)) (word_due v (suc t)))) (suc t)
    at true p =
        let i : suc t < 16 = ltb-true (suc t) 16 p in
        let o : v ≡ m = H.own (omega arith) in
        rw (p, o) (holds_own m (suc t) e i)
    at false p =
        let i : 16 ≤ suc t = ltb-false (suc t) 16 p in
        let n : ℕ = suc t - 16 in
        let s : suc t ≡ n + 16 = omega arith in
        let r : t ≡ n + 15 = omega arith in
        rw p (subst (λ k. Holds m (set v (place k) (word_due v k)) k) (sym s)
        (holds_next m v n (scheduled m 48 n e (omega arith)) (subst (Holds m v) r H)))

-- at round 0 no word is due
window_0 : (v : List ℕ) → window_for v 0 ≡ v
unfolding window_for
window_0 v = refl

pub window_holds : WindowHolds
unfolding begin after round_on
window_holds m h zero e l = first_window
  where
    first_window : Holds m (window_for m 0) 0
    first_window = rw (window_0 m) (holds_own m 0 e (omega arith))
window_holds m h (suc t) e l = moved m (after (begin m h) (suc t)).window t e l (window_holds m h t e (omega arith))

-- ---- the rounds

pub takes_word : TakesWord
unfolding after round_on
takes_word m h t e l =
    record {
      out = refl;
      word = (window_holds m h t e l).last t (omega arith) (omega arith);
    }

pub same_variables : SameVariables
unfolding begin after rounds
same_variables m h zero e l = refl
same_variables m h (suc t) e l =
    let T : Takes m (after (begin m h) t) (after (begin m h) (suc t)) t = takes_word m h t e (omega arith) in
    T.out ∙ ap₂ (λ s w. round s (K ! t) w) (same_variables m h t e (omega arith)) T.word

pub each_block_has_sixteen : EachBlockHasSixteen
unfolding words first
each_block_has_sixteen b = refl

-- ---- what the code makes

-- a word that is made and stored
pub stored : (v : List ℕ) (t : ℕ) {x : ℕ} → 16 ≤ t
    → x ≡ σ₁ (v ! ((t - 2) % 16)) ⊞ v ! ((t - 7) % 16) ⊞ σ₀ (v ! ((t - 15) % 16)) ⊞ v ! ((t - 16) % 16) → set v (t % 16) x ≡ window_for v t
unfolding window_for word_due
stored v t h p = rw (le-ltb t 16 h, p) refl

-- a round
pub rounded : (x : Rounds) (t k : ℕ) {w s : List ℕ} → w ≡ window_for x.window t → s ≡ round x.variables k (w ! (t % 16))
    → ◌≡◌ {A = Rounds} (record { window = w; variables = s }) (round_on x t k)
unfolding round_on
rounded x t k p q = rw (q, p) refl
