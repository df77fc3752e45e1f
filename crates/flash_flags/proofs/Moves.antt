-- Each flag makes three moves, from F to 0. After a moves from all F, sector by sector, sector j has a - 3 j moves behind it.
use mathlib.Core.Path.{◌≡◌, refl, sym, ap, ◌∙◌}
use mathlib.Core.Logic.{◌≢◌}
use mathlib.Core.List.{List}
use Prim.Native.Nat.{ℕ, zero, suc, ◌+◌, ◌-◌, ◌*◌, ◌≤◌, ◌<◌}
use native.Mathlib.Decide.{ℕ_discrete, dec_lt}
use native.Mathlib.Omega.{arith}
use lib.ListN.{length}
use Rattle.std.specs.Prelude.{Some}
use Rattle.flash.specs.declared.Geometry.{Geometry}
use Rattle.flash.specs.Sizes.{firmware, partition_size, Limits}
use Rattle.flash.specs.Sectors.{sector_number}
use Rattle.flash_flags.specs.declared.Flag.{Flag}
use Rattle.flash_flags.specs.declared.Flag.TheVariants.{Untouched, Exchanged}
use Rattle.flash_flags.specs.declared.Leg.{Leg}
use Rattle.flash_flags.specs.declared.Leg.TheVariants.{UpdateToSwap, BootToUpdate, SwapToBoot}
use Rattle.flash_flags.specs.declared.Flags.{Flags}
use Rattle.flash_flags.specs.declared.Flags.TheVariants.{AllF, At, All0}
use Rattle.flash_flags.specs.SectorFlags.{moved, leg_flag, leg_moves, flag_at, set_flag, flags_at}
use Rattle.flash_flags.proofs.Shown.{shown_all_F, shown_all_0, shown_at, each_F, ShownAt, each_at}
use Rattle.flash_flags.proofs.Laws.{flag_same, flag_other}

pub leg_moved : (leg : Leg) → moved (leg_moves leg) ≡ leg_flag leg
leg_moved UpdateToSwap = refl
leg_moved BootToUpdate = refl
leg_moved SwapToBoot = refl

pub leg_below : (leg : Leg) → leg_moves leg < 3
leg_below UpdateToSwap = omega arith
leg_below BootToUpdate = omega arith
leg_below SwapToBoot = omega arith

pub moved_none : (a : ℕ) → a ≡ 0 → moved a ≡ Untouched
moved_none a e = ap moved e

pub moved_all : (a : ℕ) → 3 ≤ a → moved a ≡ Exchanged
moved_all a h = let e : a ≡ suc (suc (suc (a - 3))) = omega arith in ap moved e

-- the flags after a moves
abbrev pub AfterMoves : Geometry → List ℕ → ℕ → Type 0
AfterMoves g u a = (j : ℕ) → j < firmware g → flag_at g u j ≡ Some (moved (a - 3 * j))

-- ---- what they show

-- sector i is at a leg: all F where that is the first leg of sector 0
abbrev pub at_leg : ℕ → Leg → Flags
at_leg zero UpdateToSwap = AllF
at_leg zero BootToUpdate = At (sector_number 0) BootToUpdate
at_leg zero SwapToBoot = At (sector_number 0) SwapToBoot
at_leg (suc i) leg = At (sector_number (suc i)) leg

module _ (g : Geometry) (u : List ℕ) where
  pub shown_none : AfterMoves g u 0 → flags_at g u ≡ AllF
  shown_none h = shown_all_F g u (λ j hj. h j hj ∙ ap Some (moved_none (0 - 3 * j) (omega arith)))

  shown_after : (i : ℕ) (leg : Leg) → i < firmware g → 0 < 3 * i + leg_moves leg → AfterMoves g u (3 * i + leg_moves leg) → flags_at g u ≡ At (sector_number i) leg
  shown_after i leg hi some h =
      let e : 3 * i + leg_moves leg - 3 * i ≡ leg_moves leg = omega arith in
      shown_at g u i leg hi
      (h i hi ∙ ap Some (ap moved e ∙ leg_moved leg))
      (λ j hj. h j (omega arith) ∙ ap Some (moved_all (3 * i + leg_moves leg - 3 * j) (omega arith)))
      (λ j a b. h j b ∙ ap Some (moved_none (3 * i + leg_moves leg - 3 * j) (omega (arith, leg_below leg))))
      (λ n q. first leg some n q)
    where
      first : (leg : Leg) → 0 < 3 * i + leg_moves leg → i ≡ 0 → leg ≡ UpdateToSwap → ⊥
      first UpdateToSwap s n q = omega arith
      first BootToUpdate s n q = let z : ◌≡◌ {A = ℕ} 0 1 = cc in omega arith
      first SwapToBoot s n q = let z : ◌≡◌ {A = ℕ} 0 1 = cc in omega arith

  pub shown_leg : (i : ℕ) (leg : Leg) → i < firmware g → AfterMoves g u (3 * i + leg_moves leg) → flags_at g u ≡ at_leg i leg
  shown_leg zero UpdateToSwap hi h = shown_none h
  shown_leg zero BootToUpdate hi h = shown_after 0 BootToUpdate hi (omega arith) h
  shown_leg zero SwapToBoot hi h = shown_after 0 SwapToBoot hi (omega arith) h
  shown_leg (suc i) leg hi h = shown_after (suc i) leg hi (omega arith) h

  pub shown_every : 1 ≤ firmware g → AfterMoves g u (3 * firmware g) → flags_at g u ≡ All0
  shown_every m h = shown_all_0 g u m (λ j hj. h j hj ∙ ap Some (moved_all (3 * firmware g - 3 * j) (omega arith)))

-- ---- how they move

pub moves_none : (g : Geometry) (u : List ℕ) → flags_at g u ≡ AllF → AfterMoves g u 0
moves_none g u e j hj = each_F g u e j hj ∙ ap Some (sym (moved_none (0 - 3 * j) (omega arith)))

-- the flags that show a leg of sector i
pub at_leg_lem : (i : ℕ) (leg : Leg) → (i ≡ 0 → leg ≢ UpdateToSwap) → At (sector_number i) leg ≡ at_leg i leg
at_leg_lem zero UpdateToSwap n = absurd (n refl refl)
at_leg_lem zero BootToUpdate n = refl
at_leg_lem zero SwapToBoot n = refl
at_leg_lem (suc i) leg n = refl

moves_shown : (g : Geometry) (u : List ℕ) (i : ℕ) (leg : Leg) → flags_at g u ≡ At (sector_number i) leg → AfterMoves g u (3 * i + leg_moves leg)
moves_shown g u i leg e j hj = by (ℕ_discrete j i) (dec_lt j i)
  where
    f : ShownAt g u i leg
    f = each_at g u (sector_number i) leg e

    by : Dec (j ≡ i) → Dec (j < i) → flag_at g u j ≡ Some (moved (3 * i + leg_moves leg - 3 * j))
    by (yes q) d =
        let n : leg_moves leg ≡ 3 * i + leg_moves leg - 3 * j = omega arith in
        ap (flag_at g u) q ∙ f.here ∙ ap Some (sym (leg_moved leg) ∙ ap moved n)
    by (no q) (yes d) = f.before j d ∙ ap Some (sym (moved_all (3 * i + leg_moves leg - 3 * j) (omega arith)))
    by (no q) (no d) = f.after j (omega arith) hj ∙ ap Some (sym (moved_none (3 * i + leg_moves leg - 3 * j) (omega (arith, leg_below leg))))

pub moves_leg : (g : Geometry) (u : List ℕ) (i : ℕ) (leg : Leg) → flags_at g u ≡ at_leg i leg → AfterMoves g u (3 * i + leg_moves leg)
moves_leg g u zero UpdateToSwap e = moves_none g u e
moves_leg g u zero BootToUpdate e = moves_shown g u 0 BootToUpdate e
moves_leg g u zero SwapToBoot e = moves_shown g u 0 SwapToBoot e
moves_leg g u (suc i) leg e = moves_shown g u (suc i) leg e

-- the flag write at the end of sector i's leg is one move
module _ (g : Geometry) (G : Limits g) (u : List ℕ) (U : length u ≡ partition_size g) (i : ℕ) (leg : Leg) (hi : i < firmware g) where
  pub moves_on_lem : AfterMoves g u (3 * i + leg_moves leg) → AfterMoves g (set_flag g i (moved (suc (leg_moves leg))) u) (suc (3 * i + leg_moves leg))
  moves_on_lem h j hj = by (ℕ_discrete j i) (dec_lt j i)
    where
      v : Flag
      v = moved (suc (leg_moves leg))

      by : Dec (j ≡ i) → Dec (j < i) → flag_at g (set_flag g i v u) j ≡ Some (moved (suc (3 * i + leg_moves leg) - 3 * j))
      by (yes e) d =
          let q : suc (leg_moves leg) ≡ suc (3 * i + leg_moves leg) - 3 * j = omega arith in
          ap (flag_at g (set_flag g i v u)) e ∙ flag_same g G u U i v hi ∙ ap (λ (a : ℕ). Some (moved a)) q
      by (no k) (yes d) =
          flag_other g G u U i v hi j hj k ∙ h j hj
          ∙ ap Some (moved_all (3 * i + leg_moves leg - 3 * j) (omega arith) ∙ sym (moved_all (suc (3 * i + leg_moves leg) - 3 * j) (omega arith)))
      by (no k) (no d) =
          flag_other g G u U i v hi j hj k ∙ h j hj
          ∙ ap Some (moved_none (3 * i + leg_moves leg - 3 * j) (omega (arith, leg_below leg)) ∙ sym (moved_none (suc (3 * i + leg_moves leg) - 3 * j) (omega (arith, leg_below leg))))
