-- The marks are tried one after the other.
use mathlib.Core.Path.{◌≡◌, sym, ap, ◌∙◌, subst}
use mathlib.Core.Bool.{Bool, true, false, cond}
use mathlib.Core.List.{◌∷◌}
use Prim.Native.Nat.{ℕ, zero, suc, ◌+◌, ◌-◌, ◌*◌, ◌≤◌, ◌<◌}
use native.Mathlib.Omega.{arith}
use lib.ListN.{get_or, drop, drop_of_length-le}
use lib.Seq.{drop-cons}
use Rattle.numbers.specs.Answer.{gives, refused}
use Rattle.flash.specs.Sectors.{sector_number}
use Rattle.flash_flags.specs.declared.Leg.TheVariants.{UpdateToSwap}
use Rattle.mending.specs.declared.Mark.{Mark}
use Rattle.mending.specs.declared.Mark.TheVariants.{At}
use Rattle.mending.specs.Marks.{Among, moves_of, marks}
use Rattle.mending.specs.Mending.{first_fitting}
use Rattle.mending.proofs.Order.{After, mark_after, moves_within, marks_in_order}

module _ (fit : Mark → Bool) (m : ℕ) where
  -- the mark with a moves behind it is next
  pub turn : (a : ℕ) (k : Mark) → Among m k → moves_of m k ≡ a
      → first_fitting fit (drop a (marks m)) ≡ cond (fit k) (gives k) (first_fitting fit (drop (a + 1) (marks m)))
  unfolding first_fitting
  turn a k h e =
      let d : Mark = At (sector_number m) UpdateToSwap in
      let s : suc a ≡ a + 1 = omega arith in
      let l : drop a (marks m) ≡ get_or (marks m) a d ∷ drop (suc a) (marks m) = drop-cons (marks m) a d (omega (arith, marks_in_order.how_many m, moves_within m k h)) in
      let g : get_or (marks m) a d ≡ k = ap (λ (n : ℕ). get_or (marks m) n d) (sym e) ∙ marks_in_order.each m k h in
      ap (first_fitting fit) (l ∙ ap (λ (j : Mark). j ∷ drop (suc a) (marks m)) g)
      ∙ ap (λ (n : ℕ). cond (fit k) (gives k) (first_fitting fit (drop n (marks m)))) s

  -- it fits, or it does not
  pub fits_here : (a : ℕ) (k : Mark) → Among m k → moves_of m k ≡ a → fit k ≡ true → gives k ≡ first_fitting fit (drop a (marks m))
  fits_here a k h e t = sym (turn a k h e ∙ ap (λ (b : Bool). cond b (gives k) (first_fitting fit (drop (a + 1) (marks m)))) t)

  pub not_here : (a : ℕ) (k : Mark) → Among m k → moves_of m k ≡ a → fit k ≡ false
      → first_fitting fit (drop (a + 1) (marks m)) ≡ first_fitting fit (drop a (marks m))
  not_here a k h e t = sym (turn a k h e ∙ ap (λ (b : Bool). cond b (gives k) (first_fitting fit (drop (a + 1) (marks m)))) t)

  -- all were tried
  pub none_left : (a : ℕ) → 3 * m < a → refused 17 0 ≡ first_fitting fit (drop a (marks m))
  unfolding first_fitting
  none_left a h = sym (ap (first_fitting fit) (drop_of_length-le (marks m) {i = a} (omega (arith, marks_in_order.how_many m))))

  -- none fits, of n marks
  none_of : (n a : ℕ) → a + n ≡ 3 * m + 1 → ((k : Mark) → Among m k → a ≤ moves_of m k → fit k ≡ false) → refused 17 0 ≡ first_fitting fit (drop a (marks m))
  none_of zero a e h = none_left a (omega arith)
  none_of (suc n) a e h =
      let w : After m a = mark_after m a (omega arith) in
      none_of n (a + 1) (omega arith) (λ k x y. h k x (omega arith))
      ∙ not_here a w.mark w.among w.moves (h w.mark w.among (omega (arith, w.moves)))

  pub none_fits : (a : ℕ) → a ≤ 3 * m → ((k : Mark) → Among m k → a ≤ moves_of m k → fit k ≡ false) → refused 17 0 ≡ first_fitting fit (drop a (marks m))
  none_fits a l h = none_of (3 * m + 1 - a) a (omega arith) h

-- the mark with a moves behind it, of n sectors that are m
pub of_sectors : (n m a : ℕ) (k : Mark) → n ≡ m → (Among n k) × (moves_of n k ≡ a) → (Among m k) × (moves_of m k ≡ a)
of_sectors n m a k e w = subst (λ (x : ℕ). (Among x k) × (moves_of x k ≡ a)) e w
