-- Marks: their flags, their order, and the first that fits.
use mathlib.Core.Path.{◌≡◌, refl, sym, ap, ◌∙◌, subst}
use mathlib.Core.Logic.{◌≢◌, inl, inr}
use mathlib.Core.Bool.{Bool, true, false, cond}
use mathlib.Core.List.{List, [], ◌∷◌}
use Prim.Native.Nat.{ℕ, zero, suc, ◌+◌, ◌-◌, ◌*◌, ◌/◌, ◌%◌, ◌≤◌, ◌<◌}
use native.Mathlib.Decide.{ℕ_discrete, dec_lt}
use native.Mathlib.Omega.{arith}
use lib.ListN.{length, get_or}
use borrow.Author.Tests.{lt-ltb, le-ltb, eq-eqb, ne_eqb}
use Rattle.numbers.specs.Answer.{Answer, gives, refused}
use Rattle.flash.specs.declared.SectorNumber.{SectorNumber}
use Rattle.flash.specs.Sectors.{sector_number}
use Rattle.flash_flags.specs.declared.Flag.TheVariants.{Untouched, Exchanged}
use Rattle.flash_flags.specs.declared.Leg.{Leg}
use Rattle.flash_flags.specs.declared.Leg.TheVariants.{UpdateToSwap, BootToUpdate, SwapToBoot}
use Rattle.flash_flags.specs.SectorFlags.{flag_rank, moved, leg_flag, leg_moves}
use Rattle.flash_flags.proofs.Moves.{leg_moved, leg_below, moved_none, moved_all}
use Rattle.exchange.proofs.Whole.{leg_after, leg_after_lem}
use Rattle.mending.specs.declared.Mark.{Mark}
use Rattle.mending.specs.declared.Mark.TheVariants.{At, All0}
use Rattle.mending.specs.Marks.{Among, flag_under, moves_of, marks_from, marks, sector_named, flag_named}
use Rattle.mending.specs.Mending.{first_fitting}
use Rattle.mending.specs.Mended.{MarksInOrder, NamesTellAll, Before, moves_behind, MovesOfFlags}

-- ---- flags and moves

-- the flags of a mark: before its sector, there, behind it
pub flag_before : (j : SectorNumber) (leg : Leg) (i : ℕ) → i < j.0 → flag_under (At j leg) i ≡ Exchanged
flag_before j leg i l = rw (lt-ltb i j.0 l) refl

pub flag_there : (j : SectorNumber) (leg : Leg) (i : ℕ) → i ≡ j.0 → flag_under (At j leg) i ≡ leg_flag leg
flag_there j leg i e = rw (le-ltb i j.0 (omega arith), eq-eqb i j.0 e) refl

pub flag_behind : (j : SectorNumber) (leg : Leg) (i : ℕ) → j.0 < i → flag_under (At j leg) i ≡ Untouched
flag_behind j leg i l = rw (le-ltb i j.0 (omega arith), ne_eqb i j.0 (omega arith)) refl

-- they are those after its moves
pub flag_moved : (m : ℕ) (k : Mark) (i : ℕ) → i < m → flag_under k i ≡ moved (moves_of m k - 3 * i)
flag_moved m All0 i h = sym (moved_all (3 * m - 3 * i) (omega arith))
flag_moved m (At j leg) i h = by (dec_lt i j.0) (ℕ_discrete i j.0)
  where
    by : Dec (i < j.0) → Dec (i ≡ j.0) → flag_under (At j leg) i ≡ moved (3 * j.0 + leg_moves leg - 3 * i)
    by (yes l) d = flag_before j leg i l ∙ sym (moved_all (3 * j.0 + leg_moves leg - 3 * i) (omega arith))
    by (no l) (yes e) =
        let q : 3 * j.0 + leg_moves leg - 3 * i ≡ leg_moves leg = omega arith in
        flag_there j leg i e ∙ sym (ap moved q ∙ leg_moved leg)
    by (no l) (no e) = flag_behind j leg i (omega arith) ∙ sym (moved_none (3 * j.0 + leg_moves leg - 3 * i) (omega (arith, leg_below leg)))

pub moves_within : (m : ℕ) (k : Mark) → Among m k → moves_of m k ≤ 3 * m
moves_within m (At j leg) h = omega (arith, leg_below leg)
moves_within m All0 h = omega arith

-- the mark after a moves
pub record After (m a : ℕ) : Type 0 where
  pub mark : Mark
  pub among : Among m mark
  pub moves : moves_of m mark ≡ a

pub mark_after : (m a : ℕ) → a ≤ 3 * m → After m a
mark_after m a h = by (dec_lt a (3 * m))
  where
    by : Dec (a < 3 * m) → After m a
    by (yes l) = record { mark = At (sector_number (a / 3)) (leg_after (a % 3)); among = omega arith; moves = omega (arith, leg_after_lem (a % 3) (omega arith)) }
    by (no l) = record { mark = All0; among = tt; moves = omega arith }

-- the moves tell the mark
same_leg : (leg leg' : Leg) → leg_moves leg ≡ leg_moves leg' → leg ≡ leg'
same_leg UpdateToSwap UpdateToSwap e = refl
same_leg UpdateToSwap BootToUpdate e = absurd (omega arith)
same_leg UpdateToSwap SwapToBoot e = absurd (omega arith)
same_leg BootToUpdate UpdateToSwap e = absurd (omega arith)
same_leg BootToUpdate BootToUpdate e = refl
same_leg BootToUpdate SwapToBoot e = absurd (omega arith)
same_leg SwapToBoot UpdateToSwap e = absurd (omega arith)
same_leg SwapToBoot BootToUpdate e = absurd (omega arith)
same_leg SwapToBoot SwapToBoot e = refl

same_mark : (m : ℕ) (j k : Mark) → Among m j → Among m k → moves_of m j ≡ moves_of m k → j ≡ k
same_mark m (At i leg) (At i' leg') h h' e =
    let n : i.0 ≡ i'.0 = omega (arith, leg_below leg, leg_below leg') in
    let s : i ≡ i' = ap sector_number n in
    let l : leg ≡ leg' = same_leg leg leg' (omega arith) in
    cc
same_mark m (At i leg) All0 h h' e = absurd (omega (arith, leg_below leg))
same_mark m All0 (At i leg) h h' e = absurd (omega (arith, leg_below leg))
same_mark m All0 All0 h h' e = refl

-- ---- the order

-- three marks for each sector, and one more
length_from : (n i : ℕ) → length (marks_from n i) ≡ 3 * n + 1
unfolding marks_from
length_from zero i = omega arith
length_from (suc n) i = omega (arith, length_from n (suc i))

-- a list that holds the marks with a, a + 1, .. moves behind them, up to the last one, each in its place
abbrev InOrder : ℕ → ℕ → List Mark → Type 0
InOrder m a [] = a ≡ suc (3 * m)
InOrder m a (k ∷ ks) = Among m k × (moves_of m k ≡ a) × InOrder m (suc a) ks

from_order : (m n i : ℕ) → i + n ≡ m → InOrder m (3 * i) (marks_from n i)
unfolding marks_from
from_order m zero i e = (tt, omega arith, omega arith)
from_order m (suc n) i e =
    let a : 3 * suc i ≡ suc (suc (suc (3 * i))) = omega arith in (
      omega arith,
      omega arith,
      (
        omega arith,
        omega arith,
        (
          omega arith,
          omega arith,
          subst (λ (b : ℕ). InOrder m b (marks_from n (suc i))) a (from_order m n (suc i) (omega arith)),
        ),
      ),
    )

in_order : (m : ℕ) → InOrder m 0 (marks m)
unfolding marks
in_order m = let e : 3 * 0 ≡ 0 = omega arith in subst (λ (b : ℕ). InOrder m b (marks_from m 0)) e (from_order m m 0 (omega arith))

-- so a mark is found at the place that its moves number
at_place : (m : ℕ) (l : List Mark) (a : ℕ) (d k : Mark) → InOrder m a l → Among m k → (x : ℕ) → moves_of m k ≡ a + x → get_or l x d ≡ k
at_place m [] a d k o h x e = absurd (omega (arith, moves_within m k h))
at_place m (j ∷ l) a d k o h zero e = same_mark m j k o.0 h (omega (arith, o.1))
at_place m (j ∷ l) a d k o h (suc x) e = at_place m l (suc a) d k o.2 h x (omega arith)

marks_length : (m : ℕ) → length (marks m) ≡ 3 * m + 1
unfolding marks
marks_length m = length_from m 0

pub marks_in_order : MarksInOrder
marks_in_order = record {
  how_many = marks_length;
  each = λ m k h. at_place m (marks m) 0 (At (sector_number m) UpdateToSwap) k (in_order m) h (moves_of m k) (omega arith);
}

-- ---- names

same_shown : (leg leg' : Leg) → leg_flag leg ≡ leg_flag leg' → leg ≡ leg'
same_shown UpdateToSwap UpdateToSwap e = refl
same_shown UpdateToSwap BootToUpdate e = absurd (let z : ◌≡◌ {A = ℕ} 0 1 = cc in omega arith)
same_shown UpdateToSwap SwapToBoot e = absurd (let z : ◌≡◌ {A = ℕ} 0 1 = cc in omega arith)
same_shown BootToUpdate UpdateToSwap e = absurd (let z : ◌≡◌ {A = ℕ} 0 1 = cc in omega arith)
same_shown BootToUpdate BootToUpdate e = refl
same_shown BootToUpdate SwapToBoot e = absurd (let z : ◌≡◌ {A = ℕ} 0 1 = cc in omega arith)
same_shown SwapToBoot UpdateToSwap e = absurd (let z : ◌≡◌ {A = ℕ} 0 1 = cc in omega arith)
same_shown SwapToBoot BootToUpdate e = absurd (let z : ◌≡◌ {A = ℕ} 0 1 = cc in omega arith)
same_shown SwapToBoot SwapToBoot e = refl

leg_not_0 : (leg : Leg) → leg_flag leg ≢ Exchanged
leg_not_0 UpdateToSwap e = let z : ◌≡◌ {A = ℕ} 0 1 = cc in omega arith
leg_not_0 BootToUpdate e = let z : ◌≡◌ {A = ℕ} 0 1 = cc in omega arith
leg_not_0 SwapToBoot e = let z : ◌≡◌ {A = ℕ} 0 1 = cc in omega arith

-- all 0 is named the sector behind the last, and 0
all_0_named : (m : ℕ) → (sector_named m All0 ≡ m) × (flag_named All0 ≡ Exchanged)
all_0_named m = (refl, refl)

pub names_tell : NamesTellAll
names_tell m (At j leg) h = record {
  before = λ i l. flag_before j leg i l;
  there = λ l. (flag_there j leg j.0 refl, leg_not_0 leg);
  behind = λ i l q. flag_behind j leg i l;
  none = λ l. absurd (omega arith);
}
names_tell m All0 h = record {
  before = λ i l. refl;
  there = λ l. absurd (omega arith);
  behind = λ i l q. absurd (omega arith);
  none = λ l. all_0_named m;
}

pub before_moves : (m : ℕ) (j k : Mark) → Among m j → Among m k → Before m j k → moves_of m j < moves_of m k
before_moves m (At i leg) (At i' leg') h h' (inl l) = omega (arith, leg_below leg, leg_below leg')
before_moves m (At i leg) (At i' leg') h h' (inr (e, l)) = omega (arith, l)
before_moves m (At i leg) All0 h h' b = omega (arith, leg_below leg)
before_moves m All0 (At i leg) h h' (inl l) = absurd (omega arith)
before_moves m All0 (At i leg) h h' (inr (e, l)) = absurd (omega arith)
before_moves m All0 All0 h h' (inl l) = absurd (omega arith)
before_moves m All0 All0 h h' (inr (e, l)) = absurd (omega arith)

behind_all : (n : ℕ) → moves_behind All0 n ≡ 3 * n
unfolding moves_behind
behind_all zero = refl
behind_all (suc n) = omega (arith, behind_all n)

behind_up : (j : SectorNumber) (leg : Leg) (n : ℕ) → n ≤ j.0 → moves_behind (At j leg) n ≡ 3 * n
unfolding moves_behind
behind_up j leg zero h = refl
behind_up j leg (suc n) h = omega (arith, behind_up j leg n (omega arith), ap flag_rank (flag_before j leg n (omega arith)))

behind_step : (k : Mark) (n : ℕ) → moves_behind k (suc n) ≡ moves_behind k n + flag_rank (flag_under k n)
unfolding moves_behind
behind_step k n = refl

behind_past : (j : SectorNumber) (leg : Leg) (d n : ℕ) → n ≡ d + j.0 → moves_behind (At j leg) (suc n) ≡ 3 * j.0 + leg_moves leg
behind_past j leg zero n e =
    omega (arith, behind_step (At j leg) n, behind_up j leg n (omega arith), ap flag_rank (flag_there j leg n (omega arith)))
behind_past j leg (suc d) zero e = absurd (omega arith)
behind_past j leg (suc d) (suc n) e =
    omega (arith, behind_step (At j leg) (suc n), behind_past j leg d n (omega arith), ap flag_rank (flag_behind j leg (suc n) (omega arith)))

pub moves_of_flags : MovesOfFlags
moves_of_flags m All0 h = sym (behind_all m)
moves_of_flags zero (At j leg) h = absurd (omega arith)
moves_of_flags (suc n) (At j leg) h = sym (behind_past j leg (n - j.0) n (omega arith))

-- ---- the first that fits

pub record First (fit : Mark → Bool) (m a : ℕ) (k : Mark) : Type 0 where
  pub among : Among m k
  pub low : a ≤ moves_of m k
  pub fits : fit k ≡ true
  pub before : (j : Mark) → Among m j → a ≤ moves_of m j → moves_of m j < moves_of m k → fit j ≡ false

module _ (fit : Mark → Bool) (m : ℕ) where
  -- the mark at a place of the list, or a later one
  at_or_later : (a : ℕ) (k : Mark) → Among m k → moves_of m k ≡ a → fit k ≡ false → (j : Mark) → Among m j → a ≤ moves_of m j
      → (suc a ≤ moves_of m j → fit j ≡ false) → fit j ≡ false
  at_or_later a k h e f j hj l later = by (ℕ_discrete (moves_of m j) a)
    where
      by : Dec (moves_of m j ≡ a) → fit j ≡ false
      by (yes q) = ap fit (same_mark m j k hj h (omega arith)) ∙ f
      by (no q) = later (omega arith)

  first_given : (l : List Mark) (a : ℕ) (k : Mark) → InOrder m a l → first_fitting fit l ≡ gives k → First fit m a k
  unfolding first_fitting
  first_given [] a k o e = absurd (let z : ◌≡◌ {A = ℕ} 0 1 = cc in omega arith)
  first_given (j ∷ l) a k o e = by (fit j) refl e (λ q. first_given l (suc a) k o.2 q)
    where
      by : (t : Bool) → fit j ≡ t → cond t (gives j) (first_fitting fit l) ≡ gives k → (first_fitting fit l ≡ gives k → First fit m (suc a) k) → First fit m a k
      by true f q more =
          let s : j ≡ k = cc in
          subst (First fit m a) s
          (record { among = o.0; low = omega (arith, o.1); fits = f; before = λ i h x y. absurd (omega (arith, o.1)) })
      by false f q more =
          let r : First fit m (suc a) k = more q in
          record {
            among = r.among;
            low = omega (arith, r.low);
            fits = r.fits;
            before = λ i h x y. at_or_later a j o.0 o.1 f i h x (λ z. r.before i h z y);
          }

  first_none : (l : List Mark) (a n p : ℕ) → InOrder m a l → first_fitting fit l ≡ refused n p → (j : Mark) → Among m j → a ≤ moves_of m j → fit j ≡ false
  unfolding first_fitting
  first_none [] a n p o e j h x = absurd (omega (arith, moves_within m j h))
  first_none (k ∷ l) a n p o e j h x = by (fit k) refl e (λ q y. first_none l (suc a) n p o.2 q j h y)
    where
      by : (t : Bool) → fit k ≡ t → cond t (gives k) (first_fitting fit l) ≡ refused n p → (first_fitting fit l ≡ refused n p → suc a ≤ moves_of m j → fit j ≡ false) → fit j ≡ false
      by true f q more = absurd (let z : ◌≡◌ {A = ℕ} 0 1 = cc in omega arith)
      by false f q more = at_or_later a k o.0 o.1 f j h x (more q)

  none_first : (l : List Mark) (a : ℕ) → InOrder m a l → ((j : Mark) → Among m j → fit j ≡ false) → first_fitting fit l ≡ refused 17 0
  unfolding first_fitting
  none_first [] a o h = refl
  none_first (k ∷ l) a o h = rw (h k o.0) (none_first l (suc a) o.2 h)

  pub given_first : (k : Mark) → first_fitting fit (marks m) ≡ gives k → First fit m 0 k
  given_first k e = first_given (marks m) 0 k (in_order m) e

  pub refused_none : (n p : ℕ) → first_fitting fit (marks m) ≡ refused n p → (j : Mark) → Among m j → fit j ≡ false
  refused_none n p e j h = first_none (marks m) 0 n p (in_order m) e j h (omega arith)

  pub none_refused : ((j : Mark) → Among m j → fit j ≡ false) → first_fitting fit (marks m) ≡ refused 17 0
  none_refused h = none_first (marks m) 0 (in_order m) h

  -- where the mark j fits, one is given, and no later one
  pub record Gives (j : Mark) (r : Answer Mark) : Type 0 where
    pub mark : Mark
    pub gave : r ≡ gives mark
    pub not_later : moves_of m mark ≤ moves_of m j

  pub some_given : (j : Mark) → Among m j → fit j ≡ true → Gives j (first_fitting fit (marks m))
  some_given j h t = by (first_fitting fit (marks m)) refl
    where
      no_later : (k : Mark) → First fit m 0 k → Dec (moves_of m j < moves_of m k) → moves_of m k ≤ moves_of m j
      no_later k y (yes l) = let f : fit j ≡ false = y.before j h (omega arith) l in absurd (let z : ◌≡◌ {A = ℕ} 0 1 = cc in omega arith)
      no_later k y (no l) = omega arith

      by : (r : Answer Mark) → first_fitting fit (marks m) ≡ r → Gives j r
      by (gives k) e = record { mark = k; gave = refl; not_later = no_later k (given_first k e) (dec_lt (moves_of m j) (moves_of m k)) }
      by (refused n p) e = let f : fit j ≡ false = refused_none n p e j h in absurd (let z : ◌≡◌ {A = ℕ} 0 1 = cc in omega arith)
