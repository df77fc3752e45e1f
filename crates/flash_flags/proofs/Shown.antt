-- What the flags show, by each sector's flag; and each sector's flag, by what they show.
use mathlib.Core.Path.{◌≡◌, refl, sym, ap, ap₂, ◌∙◌}
use mathlib.Core.Logic.{◌≢◌}
use mathlib.Core.Bool.{Bool, true, false, cond}
use mathlib.Core.List.{List, [], ◌∷◌}
use Prim.Native.Nat.{ℕ, zero, suc, ◌+◌, ◌≤◌, ◌<◌}
use native.Mathlib.Decide.{ℕ_discrete}
use native.Mathlib.Omega.{arith}
use Rattle.std.specs.Prelude.{Option, Some, None}
use Rattle.numbers.proofs.Tests.{both}
use Rattle.flash.specs.declared.Geometry.{Geometry}
use Rattle.flash.specs.declared.SectorNumber.{SectorNumber}
use Rattle.flash.specs.Sizes.{firmware}
use Rattle.flash.specs.Sectors.{sector_number}
use Rattle.flash_flags.specs.declared.Flag.{Flag}
use Rattle.flash_flags.specs.declared.Flag.TheVariants.{Untouched, Saved, Moved, Exchanged}
use Rattle.flash_flags.specs.declared.Leg.{Leg}
use Rattle.flash_flags.specs.declared.Leg.TheVariants.{UpdateToSwap, BootToUpdate, SwapToBoot}
use Rattle.flash_flags.specs.declared.Flags.{Flags}
use Rattle.flash_flags.specs.declared.Flags.TheVariants.{AllF, At, All0}
use Rattle.flash_flags.specs.SectorFlags.{leg_flag, flag_at, flags_from, flags, is_f, all_f, front_at, by_flag, past_zeros, flags_shown, flags_at}

-- ---- only the flags of the firmware sectors are read

flags_from_same : (g : Geometry) (u u' : List ℕ) (k i : ℕ) → ((j : ℕ) → i ≤ j → j < i + k → flag_at g u j ≡ flag_at g u' j) → flags_from g u k i ≡ flags_from g u' k i
unfolding flags_from
flags_from_same g u u' zero i h = refl
flags_from_same g u u' (suc k) i h =
    ap₂ (λ (v : Option Flag) (vs : List (Option Flag)). v ∷ vs) (h i (omega arith) (omega arith))
    (flags_from_same g u u' k (suc i) (λ j a b. h j (omega arith) (omega arith)))

pub flags_same : (g : Geometry) (u u' : List ℕ) → ((j : ℕ) → j < firmware g → flag_at g u j ≡ flag_at g u' j) → flags_at g u ≡ flags_at g u'
unfolding flags_at flags
flags_same g u u' h = ap flags_shown (flags_from_same g u u' (firmware g) 0 (λ j a b. h j (omega arith)))

-- ---- F only

pub all_f_from : (g : Geometry) (u : List ℕ) (k i : ℕ) → ((j : ℕ) → i ≤ j → j < i + k → flag_at g u j ≡ Some Untouched) → all_f (flags_from g u k i) ≡ true
unfolding all_f flags_from
all_f_from g u zero i h = refl
all_f_from g u (suc k) i h = rw (h i (omega arith) (omega arith)) (all_f_from g u k (suc i) (λ j a b. h j (omega arith) (omega arith)))

is_untouched : (v : Option Flag) → is_f v ≡ true → v ≡ Some Untouched
is_untouched (Some Untouched) e = refl
is_untouched (Some Saved) e = absurd (let z : ◌≡◌ {A = ℕ} 0 1 = cc in omega arith)
is_untouched (Some Moved) e = absurd (let z : ◌≡◌ {A = ℕ} 0 1 = cc in omega arith)
is_untouched (Some Exchanged) e = absurd (let z : ◌≡◌ {A = ℕ} 0 1 = cc in omega arith)
is_untouched None e = absurd (let z : ◌≡◌ {A = ℕ} 0 1 = cc in omega arith)

pub each_from : (g : Geometry) (u : List ℕ) (k i : ℕ) → all_f (flags_from g u k i) ≡ true → (j : ℕ) → i ≤ j → j < i + k → flag_at g u j ≡ Some Untouched
unfolding all_f flags_from
each_from g u zero i e j a b = absurd (omega arith)
each_from g u (suc k) i e j a b = by (ℕ_discrete i j) (λ e' a' b'. each_from g u k (suc i) e' j a' b')
  where
    t : (is_f (flag_at g u i) ≡ true) × (all_f (flags_from g u k (suc i)) ≡ true)
    t = both (is_f (flag_at g u i)) (all_f (flags_from g u k (suc i))) e

    by : Dec (i ≡ j) → (all_f (flags_from g u k (suc i)) ≡ true → suc i ≤ j → j < suc i + k → flag_at g u j ≡ Some Untouched) → flag_at g u j ≡ Some Untouched
    by (yes q) more = ap (flag_at g u) (sym q) ∙ is_untouched (flag_at g u i) t.0
    by (no q) more = more t.1 (omega arith) (omega arith)

-- ---- well-formed flags

by_leg : (i : ℕ) (leg : Leg) (later : Flags) → by_flag i (Some (leg_flag leg)) true later ≡ At (sector_number i) leg
by_leg i UpdateToSwap later = refl
by_leg i BootToUpdate later = refl
by_leg i SwapToBoot later = refl

zeros_all : (g : Geometry) (u : List ℕ) (k i : ℕ) → ((j : ℕ) → i ≤ j → j < i + k → flag_at g u j ≡ Some Exchanged) → past_zeros i (flags_from g u k i) ≡ All0
unfolding past_zeros flags_from
zeros_all g u zero i h = refl
zeros_all g u (suc k) i h = rw (h i (omega arith) (omega arith)) (zeros_all g u k (suc i) (λ j a b. h j (omega arith) (omega arith)))

zeros_at : (g : Geometry) (u : List ℕ) (k i p : ℕ) (leg : Leg) → i ≤ p → p < i + k → flag_at g u p ≡ Some (leg_flag leg)
    → ((j : ℕ) → i ≤ j → j < p → flag_at g u j ≡ Some Exchanged) → ((j : ℕ) → p < j → j < i + k → flag_at g u j ≡ Some Untouched)
    → past_zeros i (flags_from g u k i) ≡ At (sector_number p) leg
unfolding past_zeros flags_from
zeros_at g u zero i p leg a b e h t = absurd (omega arith)
zeros_at g u (suc k) i p leg a b e h t = by (ℕ_discrete i p) (λ a'. zeros_at g u k (suc i) p leg a' (omega arith) e (λ j x y. h j (omega arith) y) (λ j x y. t j x (omega arith)))
  where
    by : Dec (i ≡ p) → (suc i ≤ p → past_zeros (suc i) (flags_from g u k (suc i)) ≡ At (sector_number p) leg) → past_zeros i (flags_from g u (suc k) i) ≡ At (sector_number p) leg
    by (yes q) more =
        rw (ap (flag_at g u) q ∙ e, all_f_from g u k (suc i) (λ j x y. t j (omega arith) (omega arith)))
        (by_leg i leg (past_zeros (suc i) (flags_from g u k (suc i))) ∙ ap (λ (n : ℕ). At (sector_number n) leg) q)
    by (no q) more = rw (h i (omega arith) (omega arith)) (more (omega arith))

-- what flags show that are not all F: sector p is the first whose flag is not 0, of k sectors from sector i on
record FirstLeg (g : Geometry) (u : List ℕ) (i k p : ℕ) (leg : Leg) : Type 0 where
  low : i ≤ p
  high : p < i + k
  here : flag_at g u p ≡ Some (leg_flag leg)
  before : (j : ℕ) → i ≤ j → j < p → flag_at g u j ≡ Some Exchanged
  after : (j : ℕ) → p < j → j < i + k → flag_at g u j ≡ Some Untouched

leg_here : (g : Geometry) (u : List ℕ) (k i : ℕ) (here leg : Leg) (p : SectorNumber) (r : Bool) → r ≡ all_f (flags_from g u k (suc i))
    → flag_at g u i ≡ Some (leg_flag here) → front_at i here r ≡ At p leg → FirstLeg g u i (suc k) p.0 leg
leg_here g u k i here leg p false q e s = absurd (let z : ◌≡◌ {A = ℕ} 0 1 = cc in omega arith)
leg_here g u k i here leg p true q e s =
    let a : sector_number i ≡ p = cc in
    let n : i ≡ p.0 = ap (λ (x : SectorNumber). x.0) a in
    let b : here ≡ leg = cc in
    record {
      low = omega arith;
      high = omega arith;
      here = ap (flag_at g u) (sym n) ∙ e ∙ ap (λ (x : Leg). Some (leg_flag x)) b;
      before = λ j x y. absurd (omega arith);
      after = λ j x y. each_from g u k (suc i) (sym q) j (omega arith) (omega arith);
    }

zeros_front : (g : Geometry) (u : List ℕ) (k i : ℕ) (p : SectorNumber) (leg : Leg) → past_zeros i (flags_from g u k i) ≡ At p leg → FirstLeg g u i k p.0 leg
unfolding past_zeros flags_from
zeros_front g u zero i p leg e = absurd (let z : ◌≡◌ {A = ℕ} 0 1 = cc in omega arith)
zeros_front g u (suc k) i p leg e = by (flag_at g u i) refl e (λ s. zeros_front g u k (suc i) p leg s)
  where
    by : (v : Option Flag) → flag_at g u i ≡ v → by_flag i v (all_f (flags_from g u k (suc i))) (past_zeros (suc i) (flags_from g u k (suc i))) ≡ At p leg
        → (past_zeros (suc i) (flags_from g u k (suc i)) ≡ At p leg → FirstLeg g u (suc i) k p.0 leg) → FirstLeg g u i (suc k) p.0 leg
    by (Some Exchanged) q s more =
        let f : FirstLeg g u (suc i) k p.0 leg = more s in
        record {
          low = omega (arith, f.low);
          high = omega (arith, f.high);
          here = f.here;
          before = λ j x y. first j x y (ℕ_discrete i j) f;
          after = λ j x y. f.after j x (omega arith);
        }
      where
        first : (j : ℕ) → i ≤ j → j < p.0 → Dec (i ≡ j) → FirstLeg g u (suc i) k p.0 leg → flag_at g u j ≡ Some Exchanged
        first j x y (yes n) f = ap (flag_at g u) (sym n) ∙ q
        first j x y (no n) f = f.before j (omega arith) y
    by (Some Untouched) q s more = leg_here g u k i UpdateToSwap leg p (all_f (flags_from g u k (suc i))) refl q s
    by (Some Saved) q s more = leg_here g u k i BootToUpdate leg p (all_f (flags_from g u k (suc i))) refl q s
    by (Some Moved) q s more = leg_here g u k i SwapToBoot leg p (all_f (flags_from g u k (suc i))) refl q s
    by None q s more = absurd (let z : ◌≡◌ {A = ℕ} 0 1 = cc in omega arith)

-- ---- by each flag, what all of them show

module _ (g : Geometry) (u : List ℕ) where
  pub shown_all_F : ((j : ℕ) → j < firmware g → flag_at g u j ≡ Some Untouched) → flags_at g u ≡ AllF
  unfolding flags_at flags flags_shown
  shown_all_F h = rw (all_f_from g u (firmware g) 0 (λ j a b. h j (omega arith))) refl

  -- some flag is not F
  not_all_F : (j : ℕ) → j < firmware g → flag_at g u j ≢ Some Untouched → all_f (flags g u) ≡ false
  unfolding flags
  not_all_F j hj h = by (all_f (flags_from g u (firmware g) 0)) refl
    where
      by : (r : Bool) → all_f (flags_from g u (firmware g) 0) ≡ r → r ≡ false
      by true e = absurd (h (each_from g u (firmware g) 0 e j (omega arith) (omega arith)))
      by false e = refl

  pub shown_all_0 : 1 ≤ firmware g → ((j : ℕ) → j < firmware g → flag_at g u j ≡ Some Exchanged) → flags_at g u ≡ All0
  unfolding flags_at flags_shown flags
  shown_all_0 m h =
      rw (not_all_F 0 m (λ e. let z : ◌≡◌ {A = ℕ} 0 1 = cc (h 0 m) in omega arith))
      (zeros_all g u (firmware g) 0 (λ j a b. h j (omega arith)))

  some_not_F : (p : ℕ) (leg : Leg) → p < firmware g → flag_at g u p ≡ Some (leg_flag leg) → ((j : ℕ) → j < p → flag_at g u j ≡ Some Exchanged)
      → (p ≡ 0 → leg ≢ UpdateToSwap) → all_f (flags g u) ≡ false
  some_not_F zero UpdateToSwap hp e h n = absurd (n refl refl)
  some_not_F zero BootToUpdate hp e h n = not_all_F 0 hp (λ x. let z : ◌≡◌ {A = ℕ} 0 1 = cc in omega arith)
  some_not_F zero SwapToBoot hp e h n = not_all_F 0 hp (λ x. let z : ◌≡◌ {A = ℕ} 0 1 = cc in omega arith)
  some_not_F (suc p) leg hp e h n = not_all_F 0 (omega arith) (λ x. let z : ◌≡◌ {A = ℕ} 0 1 = cc (h 0 (omega arith)) in omega arith)

  -- 0..0, a flag that shows a leg, F..F, and not F all of them
  pub shown_at : (p : ℕ) (leg : Leg) → p < firmware g → flag_at g u p ≡ Some (leg_flag leg)
      → ((j : ℕ) → j < p → flag_at g u j ≡ Some Exchanged) → ((j : ℕ) → p < j → j < firmware g → flag_at g u j ≡ Some Untouched)
      → (p ≡ 0 → leg ≢ UpdateToSwap) → flags_at g u ≡ At (sector_number p) leg
  unfolding flags_at flags_shown flags
  shown_at p leg hp e h t n =
      rw (some_not_F p leg hp e h n)
      (zeros_at g u (firmware g) 0 p leg (omega arith) (omega arith) e (λ j a b. h j b) (λ j a b. t j a (omega arith)))

-- ---- by what all of them show, each flag

-- the first sector whose flag is not 0 decides neither for all F nor for all 0
front_never : (i : ℕ) (leg : Leg) (r : Bool) → (front_at i leg r ≢ AllF) × (front_at i leg r ≢ All0)
front_never i leg true = (λ e. let z : ◌≡◌ {A = ℕ} 0 1 = cc in omega arith, λ e. let z : ◌≡◌ {A = ℕ} 0 1 = cc in omega arith)
front_never i leg false = (λ e. let z : ◌≡◌ {A = ℕ} 0 1 = cc in omega arith, λ e. let z : ◌≡◌ {A = ℕ} 0 1 = cc in omega arith)

zeros_never_F : (i : ℕ) (vs : List (Option Flag)) → past_zeros i vs ≢ AllF
unfolding past_zeros
zeros_never_F i [] e = let z : ◌≡◌ {A = ℕ} 0 1 = cc in omega arith
zeros_never_F i (Some Exchanged ∷ vs) e = zeros_never_F (suc i) vs e
zeros_never_F i (Some Untouched ∷ vs) e = (front_never i UpdateToSwap (all_f vs)).0 e
zeros_never_F i (Some Saved ∷ vs) e = (front_never i BootToUpdate (all_f vs)).0 e
zeros_never_F i (Some Moved ∷ vs) e = (front_never i SwapToBoot (all_f vs)).0 e
zeros_never_F i (None ∷ vs) e = let z : ◌≡◌ {A = ℕ} 0 1 = cc in omega arith

zeros_each : (g : Geometry) (u : List ℕ) (k i : ℕ) → past_zeros i (flags_from g u k i) ≡ All0 → (j : ℕ) → i ≤ j → j < i + k → flag_at g u j ≡ Some Exchanged
unfolding past_zeros flags_from
zeros_each g u zero i e j a b = absurd (omega arith)
zeros_each g u (suc k) i e j a b = by (flag_at g u i) refl e (ℕ_discrete i j) (λ s a' b'. zeros_each g u k (suc i) s j a' b')
  where
    by : (v : Option Flag) → flag_at g u i ≡ v → by_flag i v (all_f (flags_from g u k (suc i))) (past_zeros (suc i) (flags_from g u k (suc i))) ≡ All0 → Dec (i ≡ j)
        → (past_zeros (suc i) (flags_from g u k (suc i)) ≡ All0 → suc i ≤ j → j < suc i + k → flag_at g u j ≡ Some Exchanged) → flag_at g u j ≡ Some Exchanged
    by (Some Exchanged) q s (yes n) more = ap (flag_at g u) (sym n) ∙ q
    by (Some Exchanged) q s (no n) more = more s (omega arith) (omega arith)
    by (Some Untouched) q s d more = absurd ((front_never i UpdateToSwap (all_f (flags_from g u k (suc i)))).1 s)
    by (Some Saved) q s d more = absurd ((front_never i BootToUpdate (all_f (flags_from g u k (suc i)))).1 s)
    by (Some Moved) q s d more = absurd ((front_never i SwapToBoot (all_f (flags_from g u k (suc i)))).1 s)
    by None q s d more = absurd (let z : ◌≡◌ {A = ℕ} 0 1 = cc in omega arith)

-- sector p is the first whose flag is not 0, and shows the leg; not all flags are F
pub record ShownAt (g : Geometry) (u : List ℕ) (p : ℕ) (leg : Leg) : Type 0 where
  pub inside : p < firmware g
  pub here : flag_at g u p ≡ Some (leg_flag leg)
  pub before : (j : ℕ) → j < p → flag_at g u j ≡ Some Exchanged
  pub after : (j : ℕ) → p < j → j < firmware g → flag_at g u j ≡ Some Untouched
  pub not_all_f : p ≡ 0 → leg ≢ UpdateToSwap

module _ (g : Geometry) (u : List ℕ) where
  pub each_F : flags_at g u ≡ AllF → (j : ℕ) → j < firmware g → flag_at g u j ≡ Some Untouched
  unfolding flags_at flags_shown flags
  each_F e j hj = by (all_f (flags_from g u (firmware g) 0)) refl e
    where
      by : (r : Bool) → all_f (flags_from g u (firmware g) 0) ≡ r → cond r AllF (past_zeros 0 (flags_from g u (firmware g) 0)) ≡ AllF → flag_at g u j ≡ Some Untouched
      by true q s = each_from g u (firmware g) 0 q j (omega arith) (omega arith)
      by false q s = absurd (zeros_never_F 0 (flags_from g u (firmware g) 0) s)

  pub each_0 : flags_at g u ≡ All0 → (j : ℕ) → j < firmware g → flag_at g u j ≡ Some Exchanged
  unfolding flags_at flags_shown flags
  each_0 e j hj = by (all_f (flags_from g u (firmware g) 0)) e
    where
      by : (r : Bool) → cond r AllF (past_zeros 0 (flags_from g u (firmware g) 0)) ≡ All0 → flag_at g u j ≡ Some Exchanged
      by true s = absurd (let z : ◌≡◌ {A = ℕ} 0 1 = cc in omega arith)
      by false s = zeros_each g u (firmware g) 0 s j (omega arith) (omega arith)

  past_zeros_lem : (p : SectorNumber) (leg : Leg) → flags_at g u ≡ At p leg → past_zeros 0 (flags_from g u (firmware g) 0) ≡ At p leg
  unfolding flags_at flags_shown flags
  past_zeros_lem p leg e = by (all_f (flags_from g u (firmware g) 0)) e
    where
      by : (r : Bool) → cond r AllF (past_zeros 0 (flags_from g u (firmware g) 0)) ≡ At p leg → past_zeros 0 (flags_from g u (firmware g) 0) ≡ At p leg
      by true s = absurd (let z : ◌≡◌ {A = ℕ} 0 1 = cc in omega arith)
      by false s = s

  -- F at sector 0 with F after it is all F
  pub F-at-0 : (p : ℕ) → p ≡ 0 → flag_at g u p ≡ Some Untouched → ((j : ℕ) → p < j → j < firmware g → flag_at g u j ≡ Some Untouched) → flags_at g u ≡ AllF
  F-at-0 p n e h = shown_all_F g u (λ j hj. by j hj (ℕ_discrete p j))
    where
      by : (j : ℕ) → j < firmware g → Dec (p ≡ j) → flag_at g u j ≡ Some Untouched
      by j hj (yes k) = ap (flag_at g u) (sym k) ∙ e
      by j hj (no k) = h j (omega arith) hj

  pub each_at : (p : SectorNumber) (leg : Leg) → flags_at g u ≡ At p leg → ShownAt g u p.0 leg
  each_at p leg e =
      let f : FirstLeg g u 0 (firmware g) p.0 leg = zeros_front g u (firmware g) 0 p leg (past_zeros_lem p leg e) in
      record {
        inside = omega (arith, f.high);
        here = f.here;
        before = λ j a. f.before j (omega arith) a;
        after = λ j a b. f.after j a (omega arith);
        not_all_f = λ n q.
            let k : flags_at g u ≡ AllF = F-at-0 p.0 n (f.here ∙ ap (λ (x : Leg). Some (leg_flag x)) q) (λ j a b. f.after j a (omega arith)) in
            let z : ◌≡◌ {A = ℕ} 0 1 = cc in omega arith;
      }
