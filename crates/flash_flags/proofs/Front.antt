-- The front: the scan finds the first sector whose flag is not 0, over any bytes; what the flags show by it; what each write does to it.
use mathlib.Core.Path.{◌≡◌, refl, sym, ap, ◌∙◌, subst}
use mathlib.Core.Logic.{◌≢◌, ◌⊎◌, inl, inr}
use mathlib.Core.Bool.{Bool, true, false, cond, true≢false}
use mathlib.Core.List.{List}
use Prim.Native.Nat.{ℕ, zero, suc, ◌+◌, ◌-◌, ◌*◌, ◌≤◌, ◌<◌}
use native.Mathlib.Decide.{ℕ_discrete, dec_lt}
use native.Mathlib.Omega.{arith}
use lib.ListN.{length}
use borrow.Author.Tests.{eq-eqb, ne_eqb}
use Rattle.std.specs.Prelude.{Option, Some, None, MatchOption, unwrap_or}
use Rattle.flash.specs.declared.Geometry.{Geometry}
use Rattle.flash.specs.declared.SectorNumber.{SectorNumber}
use Rattle.flash.specs.Sizes.{firmware, partition_size, most_sectors, Limits}
use Rattle.flash.specs.Sectors.{sector_number, Partition, write_sector, erased}
use Rattle.flash.proofs.Checked.{sectors_are, some_firmware}
use Rattle.flash_status.specs.StatusBytes.{set_status_byte}
use Rattle.flash_flags.specs.declared.Flag.{Flag}
use Rattle.flash_flags.specs.declared.Flag.TheVariants.{Untouched, Saved, Moved, Exchanged}
use Rattle.flash_flags.specs.declared.Leg.{Leg}
use Rattle.flash_flags.specs.declared.Leg.TheVariants.{UpdateToSwap, BootToUpdate, SwapToBoot}
use Rattle.flash_flags.specs.declared.Flags.{Flags}
use Rattle.flash_flags.specs.declared.Flags.TheVariants.{Malformed, AllF, At, All0}
use Rattle.flash_flags.specs.SectorFlags.{moved, leg_flag, leg_moves, flag_of, flag_byte, half, flag_at, set_flag, flags_from, flags, flags_at}
use Rattle.flash_flags.specs.Front.{is0, first_not0, front, by_own_flag, by_front, untouched_after, WellFormed, IsFront, FrontExactly, ShowsFront, FrontTells, FrontWritten, WritesFront, FrontCases}
use Rattle.flash_flags.proofs.Shown.{all_f_from, each_from, F-at-0, shown_all_0, shown_at, each_F, each_0, each_at}
use Rattle.flash_flags.proofs.Moves.{moved_none, AfterMoves, at_leg, shown_leg, shown_every, moves_leg, moves_on_lem}
use Rattle.flash_flags.proofs.Laws.{flag_sector, flags_erased, flag_same, flag_other, flag_status}

-- ---- its number, where it is handed over

pub sector_number_lem : {i : SectorNumber} {k : ℕ} → i ≡ sector_number k → k ≡ i.0
sector_number_lem e = sym (ap (λ (x : SectorNumber). x.0) e)

-- ---- it finds the first sector whose flag is not 0

zero_is : (v : Option Flag) → is0 v ≡ true → v ≡ Some Exchanged
zero_is (Some Exchanged) e = refl
zero_is (Some Untouched) e = absurd (let z : ◌≡◌ {A = ℕ} 0 1 = cc in omega arith)
zero_is (Some Saved) e = absurd (let z : ◌≡◌ {A = ℕ} 0 1 = cc in omega arith)
zero_is (Some Moved) e = absurd (let z : ◌≡◌ {A = ℕ} 0 1 = cc in omega arith)
zero_is None e = absurd (let z : ◌≡◌ {A = ℕ} 0 1 = cc in omega arith)

zero_not : (v : Option Flag) → is0 v ≡ false → v ≢ Some Exchanged
zero_not v e q = let z : ◌≡◌ {A = ℕ} 0 1 = cc (ap is0 q) in omega arith

-- of k sectors from sector i on
record Found (g : Geometry) (u : List ℕ) (k i p : ℕ) : Type 0 where
  low : i ≤ p
  high : p ≤ i + k
  before : (j : ℕ) → i ≤ j → j < p → flag_at g u j ≡ Some Exchanged
  here : p < i + k → flag_at g u p ≢ Some Exchanged

found : (g : Geometry) (u : List ℕ) (k i : ℕ) → Found g u k i (first_not0 i (flags_from g u k i))
unfolding first_not0 flags_from
found g u zero i = record { low = omega arith; high = omega arith; before = λ j a b. absurd (omega arith); here = λ a. absurd (omega arith) }
found g u (suc k) i = by (is0 (flag_at g u i)) refl (found g u k (suc i))
  where
    by : (r : Bool) → is0 (flag_at g u i) ≡ r → Found g u k (suc i) (first_not0 (suc i) (flags_from g u k (suc i)))
        → Found g u (suc k) i (first_not0 i (flags_from g u (suc k) i))
    by false e f = rw e (record { low = omega arith; high = omega arith; before = λ j a b. absurd (omega arith); here = λ a. zero_not (flag_at g u i) e })
    by true e f = rw e (record {
      low = omega (arith, f.low);
      high = omega (arith, f.high);
      before = λ j a b. first j a b (ℕ_discrete i j);
      here = λ a. f.here (omega arith);
    })
      where
        first : (j : ℕ) → i ≤ j → j < first_not0 (suc i) (flags_from g u k (suc i)) → Dec (i ≡ j) → flag_at g u j ≡ Some Exchanged
        first j a b (yes q) = ap (flag_at g u) (sym q) ∙ zero_is (flag_at g u i) e
        first j a b (no q) = f.before j (omega arith) b

is_front : (g : Geometry) (u : List ℕ) → IsFront g u (front g u)
unfolding front flags
is_front g u =
    let f : Found g u (firmware g) 0 (first_not0 0 (flags_from g u (firmware g) 0)) = found g u (firmware g) 0 in
    record { within = omega (arith, f.high); before = λ j b. f.before j (omega arith) b; here = λ a. f.here (omega arith) }

pub front_within : (g : Geometry) (u : List ℕ) → front g u ≤ firmware g
front_within g u = (is_front g u).within

pub front_small : (g : Geometry) (u : List ℕ) → Limits g → front g u < most_sectors
front_small g u G = omega (arith, front_within g u, sectors_are g G, G.many)

front_below : (g : Geometry) (u : List ℕ) (i : ℕ) → front g u ≡ i → i ≢ firmware g → i < firmware g
front_below g u i e n = by (dec_lt i (firmware g))
  where
    by : Dec (i < firmware g) → i < firmware g
    by (yes h) = h
    by (no h) = absurd (n (omega (arith, front_within g u)))

-- there is one only
one_front : (g : Geometry) (u : List ℕ) (i j : ℕ) → IsFront g u i → IsFront g u j → i ≡ j
one_front g u i j x y = by (dec_lt i j) (dec_lt j i)
  where
    by : Dec (i < j) → Dec (j < i) → i ≡ j
    by (yes a) d = absurd (x.here (omega (arith, y.within)) (y.before i a))
    by (no a) (yes b) = absurd (y.here (omega (arith, x.within)) (x.before j b))
    by (no a) (no b) = omega arith

front_is : (g : Geometry) (u : List ℕ) (i : ℕ) → IsFront g u i → front g u ≡ i
front_is g u i x = one_front g u (front g u) i (is_front g u) x

pub front_exactly : FrontExactly
front_exactly g u i = (λ e. subst (IsFront g u) e (is_front g u), front_is g u i)

-- what the code's search of the sectors finds is the front; where it finds none, the front is m
pub front_searched : (g : Geometry) (u : List ℕ) (m : ℕ) → m ≡ firmware g → (r : Option ℕ)
    → MatchOption r ((k : ℕ) → 0 ≤ k → k < m → flag_at g u k ≡ Some Exchanged)
    (λ i. (0 ≤ i) × (i < m) × (flag_at g u i ≢ Some Exchanged) × ((k : ℕ) → 0 ≤ k → k < i → flag_at g u k ≡ Some Exchanged))
    → unwrap_or r m ≡ front g u
front_searched g u m e (Some i) h =
    sym (front_is g u i (record { within = omega (arith, h.1); before = λ j a. h.3 j (omega arith) a; here = λ a. h.2 }))
front_searched g u m e None h =
    sym (front_is g u m (record { within = omega arith; before = λ j a. h j (omega arith) a; here = λ a. absurd (omega arith) }))

-- ---- what the flags show by it

leg_not_0 : (leg : Leg) → Some (leg_flag leg) ≢ Some Exchanged
leg_not_0 UpdateToSwap e = let z : ◌≡◌ {A = ℕ} 0 1 = cc in omega arith
leg_not_0 BootToUpdate e = let z : ◌≡◌ {A = ℕ} 0 1 = cc in omega arith
leg_not_0 SwapToBoot e = let z : ◌≡◌ {A = ℕ} 0 1 = cc in omega arith

module _ (g : Geometry) (u : List ℕ) where
  front_F : flags_at g u ≡ AllF → front g u ≡ 0
  front_F e =
      front_is g u 0
      (record { within = omega arith; before = λ j b. absurd (omega arith); here = λ h q. leg_not_0 UpdateToSwap (sym (each_F g u e 0 h) ∙ q) })

  front_at : (i : SectorNumber) (leg : Leg) → flags_at g u ≡ At i leg → front g u ≡ i.0
  front_at i leg e =
      let f = each_at g u i leg e in
      front_is g u i.0 (record { within = omega (arith, f.inside); before = f.before; here = λ h q. leg_not_0 leg (sym f.here ∙ q) })

  front_0 : flags_at g u ≡ All0 → front g u ≡ firmware g
  front_0 e = front_is g u (firmware g) (record { within = omega arith; before = each_0 g u e; here = λ h. absurd (omega arith) })

  -- F only after sector i, as one test and sector by sector
  after_all : (i : ℕ) → ((j : ℕ) → i < j → j < firmware g → flag_at g u j ≡ Some Untouched) → untouched_after g u i ≡ true
  unfolding untouched_after
  after_all i h = all_f_from g u (firmware g - (i + 1)) (i + 1) (λ j a b. h j (omega arith) (omega arith))

  after_each : (i : ℕ) → untouched_after g u i ≡ true → (j : ℕ) → i < j → j < firmware g → flag_at g u j ≡ Some Untouched
  unfolding untouched_after
  after_each i e j a b = each_from g u (firmware g - (i + 1)) (i + 1) e j (omega arith) (omega arith)

  -- well-formed flags are F only after the front; flags that are not so are not well formed
  formed_after : WellFormed g u → untouched_after g u (front g u) ≡ true
  formed_after h = by (flags_at g u) refl
    where
      by : (w : Flags) → flags_at g u ≡ w → untouched_after g u (front g u) ≡ true
      by Malformed e = absurd (h e)
      by AllF e = after_all (front g u) (λ j a b. each_F g u e j b)
      by (At i leg) e = after_all (front g u) (λ j a b. (each_at g u i leg e).after j (omega (arith, front_at i leg e)) b)
      by All0 e = after_all (front g u) (λ j a b. absurd (omega (arith, front_0 e)))

  after_not : untouched_after g u (front g u) ≡ false → flags_at g u ≡ Malformed
  after_not h = by (flags_at g u) refl
    where
      wrong : (flags_at g u ≢ Malformed) → flags_at g u ≡ Malformed
      wrong k = absurd (true≢false (sym (formed_after k) ∙ h))

      by : (w : Flags) → flags_at g u ≡ w → flags_at g u ≡ Malformed
      by Malformed e = e
      by AllF e = wrong (λ q. let z : ◌≡◌ {A = ℕ} 0 1 = cc in omega arith)
      by (At i leg) e = wrong (λ q. let z : ◌≡◌ {A = ℕ} 0 1 = cc in omega arith)
      by All0 e = wrong (λ q. let z : ◌≡◌ {A = ℕ} 0 1 = cc in omega arith)

  -- the flags after sector i, the front, are F only: its own flag decides
  module _ (G : Limits g) (i : ℕ) (e : front g u ≡ i) (r : untouched_after g u i ≡ true) where
    front_here : IsFront g u i
    front_here = subst (IsFront g u) e (is_front g u)

    shown_end : i ≡ firmware g → flags_at g u ≡ All0
    shown_end q = shown_all_0 g u (some_firmware g G) (λ j h. front_here.before j (omega arith))

    -- by the flag of a firmware sector
    shown_front : i < firmware g → (leg : Leg) → flag_at g u i ≡ Some (leg_flag leg) → (i ≡ 0 → leg ≢ UpdateToSwap) → flags_at g u ≡ At (sector_number i) leg
    shown_front h leg q n = shown_at g u i leg h q front_here.before (after_each i r) n

    shown_unknown : i < firmware g → flag_at g u i ≡ None → flags_at g u ≡ Malformed
    shown_unknown h q = by (flags_at g u) refl
      where
        no_flag : (w : Flag) → flag_at g u i ≢ Some w
        no_flag w s = let z : ◌≡◌ {A = ℕ} 0 1 = cc (sym q ∙ s) in omega arith

        by : (w : Flags) → flags_at g u ≡ w → flags_at g u ≡ Malformed
        by Malformed s = s
        by AllF s = absurd (no_flag Untouched (each_F g u s i h))
        by (At p leg) s = absurd (no_flag (leg_flag leg) (ap (flag_at g u) (sym e ∙ front_at p leg s) ∙ (each_at g u p leg s).here))
        by All0 s = absurd (no_flag Exchanged (each_0 g u s i h))

    shown_own : i < firmware g → flags_at g u ≡ by_own_flag i (flag_at g u i)
    shown_own h = by (flag_at g u i) refl (ℕ_discrete i 0)
      where
        by : (v : Option Flag) → flag_at g u i ≡ v → Dec (i ≡ 0) → flags_at g u ≡ by_own_flag i v
        by (Some Untouched) q (yes n) = rw (eq-eqb i 0 n) (F-at-0 g u i n q (after_each i r))
        by (Some Untouched) q (no n) = rw (ne_eqb i 0 n) (shown_front h UpdateToSwap q (λ z. absurd (n z)))
        by (Some Saved) q d = shown_front h BootToUpdate q (λ n z. let x : ◌≡◌ {A = ℕ} 0 1 = cc in omega arith)
        by (Some Moved) q d = shown_front h SwapToBoot q (λ n z. let x : ◌≡◌ {A = ℕ} 0 1 = cc in omega arith)
        by (Some Exchanged) q d = absurd (front_here.here h q)
        by None q d = shown_unknown h q

    shown_by_front : flags_at g u ≡ by_front (firmware g) i (flag_at g u i)
    shown_by_front = by (ℕ_discrete i (firmware g))
      where
        by : Dec (i ≡ firmware g) → flags_at g u ≡ by_front (firmware g) i (flag_at g u i)
        by (yes q) = rw (eq-eqb i (firmware g) q) (shown_end q)
        by (no q) = rw (ne_eqb i (firmware g) q) (shown_own (front_below g u i e q))

pub front_tells : FrontTells
front_tells g u G = record {
  told = by (untouched_after g u (front g u)) refl;
  alone = λ h. shown_by_front g u G (front g u) refl (formed_after g u h);
}
  where
    by : (b : Bool) → untouched_after g u (front g u) ≡ b → flags_at g u ≡ cond b (by_front (firmware g) (front g u) (flag_at g u (front g u))) Malformed
    by true e = shown_by_front g u G (front g u) refl e
    by false e = after_not g u e

-- what is read of the front i and of the flags after it
module _ (g : Geometry) (u : List ℕ) (G : Limits g) (i : ℕ) (e : front g u ≡ i) where
  pub told_shown : (w : Flags) → w ≡ by_front (firmware g) i (flag_at g u i) → untouched_after g u i ≡ true → w ≡ flags_at g u
  told_shown w q t = q ∙ sym (rw (e, t) at (front_tells g u G).told)

  pub told_not : untouched_after g u i ≡ false → Malformed ≡ flags_at g u
  told_not t = sym (rw (e, t) at (front_tells g u G).told)

pub shows_front : ShowsFront
shows_front g u G = record {
  untouched = front_F g u;
  in_leg = front_at g u;
  exchanged = (front_0 g u, λ e. shown_all_0 g u (some_firmware g G) (λ j h. (is_front g u).before j (omega arith)));
}

-- ---- what each write does to it

front_same : (g : Geometry) (u u' : List ℕ) → ((j : ℕ) → j < firmware g → flag_at g u j ≡ flag_at g u' j) → front g u ≡ front g u'
front_same g u u' h =
    let f = is_front g u' in
    front_is g u (front g u') (record {
      within = f.within;
      before = λ j a. h j (omega (arith, f.within)) ∙ f.before j a;
      here = λ a q. f.here a (sym (h (front g u') a) ∙ q);
    })

module _ (g : Geometry) (G : Limits g) (u : List ℕ) (U : length u ≡ partition_size g) where
  front_erased : front g (write_sector g (firmware g) (erased g.size) u) ≡ 0
  front_erased = front_F g (write_sector g (firmware g) (erased g.size) u) (flags_erased g G u U)

  -- a flag is written at the front
  module _ (h : front g u < firmware g) where
    others : (v : Flag) (j : ℕ) → j < front g u → flag_at g (set_flag g (front g u) v u) j ≡ Some Exchanged
    others v j a = flag_other g G u U (front g u) v h j (omega arith) (λ e. omega arith) ∙ (is_front g u).before j a

    front_kept : (v : Flag) → v ≢ Exchanged → front g (set_flag g (front g u) v u) ≡ front g u
    front_kept v n =
        front_is g (set_flag g (front g u) v u) (front g u) (record {
          within = omega arith;
          before = others v;
          here = λ a q. n (known (sym (flag_same g G u U (front g u) v h) ∙ q));
        })
      where
        known : Some v ≡ Some Exchanged → v ≡ Exchanged
        known e = cc

    front_moved : (suc (front g u) ≡ firmware g) ⊎ (flag_at g u (suc (front g u)) ≢ Some Exchanged) → front g (set_flag g (front g u) Exchanged u) ≡ suc (front g u)
    front_moved d =
        front_is g (set_flag g (front g u) Exchanged u) (suc (front g u)) (record {
          within = omega arith;
          before = λ j a. by j (omega arith) (ℕ_discrete j (front g u));
          here = λ a q. next d a (sym (flag_other g G u U (front g u) Exchanged h (suc (front g u)) a (λ e. omega arith)) ∙ q);
        })
      where
        by : (j : ℕ) → j ≤ front g u → Dec (j ≡ front g u) → flag_at g (set_flag g (front g u) Exchanged u) j ≡ Some Exchanged
        by j a (yes e) = ap (flag_at g (set_flag g (front g u) Exchanged u)) e ∙ flag_same g G u U (front g u) Exchanged h
        by j a (no e) = others Exchanged j (omega arith)

        next : (suc (front g u) ≡ firmware g) ⊎ (flag_at g u (suc (front g u)) ≢ Some Exchanged) → suc (front g u) < firmware g
            → flag_at g u (suc (front g u)) ≢ Some Exchanged
        next (inl e) a q = omega arith
        next (inr n) a q = n q

pub writes_front : WritesFront
writes_front g u P = record {
  trailer = front_erased g P.limits u P.whole;
  sector = λ i x hi X. front_same g (write_sector g i x u) u (flag_sector g P.limits u x P.whole X i hi);
  status = λ b. front_same g (set_status_byte g b u) u (flag_status g P.limits u P.whole b);
  flag = λ v n h. front_kept g P.limits u P.whole h v n;
  flag0 = λ h d. front_moved g P.limits u P.whole h d;
}

-- ---- from leg to leg

module _ (g : Geometry) (u : List ℕ) where
  pub front_leg : (i : ℕ) (leg : Leg) → flags_at g u ≡ at_leg i leg → front g u ≡ i
  front_leg zero UpdateToSwap e = front_F g u e
  front_leg zero BootToUpdate e = front_at g u (sector_number 0) BootToUpdate e
  front_leg zero SwapToBoot e = front_at g u (sector_number 0) SwapToBoot e
  front_leg (suc i) leg e = front_at g u (sector_number (suc i)) leg e

  formed_leg : (i : ℕ) (leg : Leg) → flags_at g u ≡ at_leg i leg → WellFormed g u
  formed_leg zero UpdateToSwap e q = let z : ◌≡◌ {A = ℕ} 0 1 = cc in omega arith
  formed_leg zero BootToUpdate e q = let z : ◌≡◌ {A = ℕ} 0 1 = cc in omega arith
  formed_leg zero SwapToBoot e q = let z : ◌≡◌ {A = ℕ} 0 1 = cc in omega arith
  formed_leg (suc i) leg e q = let z : ◌≡◌ {A = ℕ} 0 1 = cc in omega arith

-- after so many moves, up to the last, the flags are well formed
formed_by_moves : (g : Geometry) (u : List ℕ) → Limits g → (i : ℕ) (leg : Leg) (a : ℕ) → i ≤ firmware g → (i ≡ firmware g → leg ≡ UpdateToSwap) → a ≡ 3 * i + leg_moves leg
    → AfterMoves g u a → WellFormed g u
formed_by_moves g u G i leg a hi last q h = by (dec_lt i (firmware g))
  where
    k : AfterMoves g u (3 * i + leg_moves leg)
    k = subst (AfterMoves g u) q h

    by : Dec (i < firmware g) → WellFormed g u
    by (yes d) = formed_leg g u i leg (shown_leg g u i leg d k)
    by (no d) =
        let n : i ≡ firmware g = omega arith in
        let z : leg_moves leg ≡ 0 = ap leg_moves (last n) in
        let e : flags_at g u ≡ All0 = shown_every g u (some_firmware g G) (subst (AfterMoves g u) (omega arith) k) in λ w. absurd (let x : ◌≡◌ {A = ℕ} 0 1 = cc in omega arith)

-- the leg after a leg, and its sector
abbrev following_leg : Leg → Leg
following_leg UpdateToSwap = BootToUpdate
following_leg BootToUpdate = SwapToBoot
following_leg SwapToBoot = UpdateToSwap

abbrev pub following_sector : Leg → ℕ → ℕ
following_sector UpdateToSwap i = i
following_sector BootToUpdate i = i
following_sector SwapToBoot i = suc i

one_on : (leg : Leg) (i : ℕ) → suc (3 * i + leg_moves leg) ≡ 3 * following_sector leg i + leg_moves (following_leg leg)
one_on UpdateToSwap i = omega arith
one_on BootToUpdate i = omega arith
one_on SwapToBoot i = omega arith

within_after : (leg : Leg) (i m : ℕ) → i < m → (following_sector leg i ≤ m) × (following_sector leg i ≡ m → following_leg leg ≡ UpdateToSwap)
within_after UpdateToSwap i m h = (omega arith, λ e. absurd (omega arith))
within_after BootToUpdate i m h = (omega arith, λ e. absurd (omega arith))
within_after SwapToBoot i m h = (omega arith, λ e. refl)

-- the flag write that ends a leg of sector i
module _ (g : Geometry) (u : List ℕ) (P : Partition g u) (i : ℕ) (hi : i < firmware g) where
  pub formed_on : (leg : Leg) → flags_at g u ≡ at_leg i leg → WellFormed g (set_flag g i (moved (suc (leg_moves leg))) u)
  formed_on leg e =
      let w = within_after leg i (firmware g) hi in
      formed_by_moves g (set_flag g i (moved (suc (leg_moves leg))) u) P.limits (following_sector leg i) (following_leg leg) (suc (3 * i + leg_moves leg)) w.0 w.1 (one_on leg i)
      (moves_on_lem g P.limits u P.whole i leg hi (moves_leg g u i leg e))

  -- the sector after it is F, or there is none
  next_not_0 : flags_at g u ≡ at_leg i SwapToBoot → (suc i ≡ firmware g) ⊎ (flag_at g u (suc i) ≢ Some Exchanged)
  next_not_0 e = by (dec_lt (suc i) (firmware g))
    where
      by : Dec (suc i < firmware g) → (suc i ≡ firmware g) ⊎ (flag_at g u (suc i) ≢ Some Exchanged)
      by (yes h) = inr (λ q. leg_not_0 UpdateToSwap (ap Some (sym (moved_none (3 * i + 2 - 3 * suc i) (omega arith))) ∙ sym (moves_leg g u i SwapToBoot e (suc i) h) ∙ q))
      by (no h) = inl (omega arith)

  pub front_on : (leg : Leg) → flags_at g u ≡ at_leg i leg → front g (set_flag g i (moved (suc (leg_moves leg))) u) ≡ following_sector leg i
  front_on leg e = by leg e (front_leg g u i leg e)
    where
      W : FrontWritten g u
      W = writes_front g u P

      not_0 : (v : Flag) → Some v ≢ Some Exchanged → v ≢ Exchanged
      not_0 v h q = h (ap Some q)

      by : (leg : Leg) → flags_at g u ≡ at_leg i leg → front g u ≡ i → front g (set_flag g i (moved (suc (leg_moves leg))) u) ≡ following_sector leg i
      by UpdateToSwap e q = rw q at (W.flag Saved (not_0 Saved (leg_not_0 BootToUpdate)) (omega arith))
      by BootToUpdate e q = rw q at (W.flag Moved (not_0 Moved (leg_not_0 SwapToBoot)) (omega arith))
      by SwapToBoot e q = rw q at (W.flag0 (omega arith) (rw (sym q) at (next_not_0 e)))

-- ---- cases

pub front_cases : FrontCases
unfolding front first_not0 flags flags_from flag_at flag_of flag_byte half firmware
front_cases = (
  λ u e. rw e refl,
  λ u e. rw e refl,
  λ u e. rw e refl,
  λ u e. rw e refl,
  λ u e. rw e refl,
  λ u e. rw e refl,
  λ u e. rw e refl,
  λ u e. rw e refl,
  λ u e. rw e refl,
)
