-- At rest: every power-up is Plain, or refused for its geometry, and does nothing.
use mathlib.Core.Path.{◌≡◌, refl, sym, ap, ap₂, ◌∙◌, subst}
use mathlib.Core.Logic.{inl, inr}
use mathlib.Core.Bool.{Bool, true, false}
use Prim.Native.Nat.{ℕ, ◌≤◌}
use native.Mathlib.Omega.{arith}
use Rattle.std.specs.Prelude.{Option, None}
use Rattle.numbers.specs.Answer.{Answer, numbered}
use Rattle.exchange.specs.declared.Operation.{Operation}
use Rattle.exchange.specs.Base.{Geometry, Flash, fits}
use Rattle.exchange.specs.Decision.{Check, Good, plain, decide}
use Rattle.exchange.specs.PowerUp.{Outcome, refusal, runs, PowerUp, if_boot_good, idle, carry_out, power_up, next_in, next_after}
use Rattle.exchange.specs.LostPower.{Torn, tear_next}
use Rattle.exchange.specs.Demand.{untorn, lost, Event, left_untorn, left_lost, left, EndsAsAllowed}
use Rattle.flash.proofs.Checked.{shaped_of, same_geometry}
use Rattle.exchange.proofs.Played.{outside_decided}
use Rattle.exchange.proofs.RuledOut.{ruled_out}
use Rattle.there_and_back.specs.Journey.{DoesNothing}

module _ (check : Check) (y : Flash) where
  -- a geometry with which power-up does nothing
  record Idles (g : Geometry) (o : Outcome) : Type 0 where
    up : (k : ℕ) → power_up check g y k ≡ idle o y
    next : (k : ℕ) → next_after check g y k ≡ None

  outside : (g : Geometry) → fits g y ≡ false → Idles g (refusal (numbered 1 0))
  unfolding next_after
  outside g e = record { up = λ k. ruled_out.outside_first check g y k e; next = λ k. ap (next_in g y k) (outside_decided check g y e) }

  at_plain : (g : Geometry) → decide check g y ≡ plain → Good (check g y.boot) → Idles g runs
  unfolding power_up next_after
  at_plain g d b =
      record {
        up = λ k. ap (carry_out check g y k) d ∙ ap (λ (r : Answer ℕ). idle (if_boot_good runs r) y) b.good;
        next = λ k. ap (next_in g y k) d;
      }

  module _ (g' : Geometry) (o : Outcome) (I : Idles g' o) where
    idle_untorn : (budget : ℕ) → left check y (untorn g' budget) ≡ left_untorn g' budget (idle o y)
    unfolding left
    idle_untorn budget = ap (left_untorn g' budget) (I.up budget)

    idle_lost : (budget k : ℕ) (t : Torn) → left check y (lost g' budget k t) ≡ left_lost k y
    unfolding left
    idle_lost budget k t = ap₂ (λ (n : Option Operation) (a : PowerUp). left_lost k (tear_next g' t n a.flash)) (I.next k) (I.up k)

    none_lost : (budget k : ℕ) → k ≤ (power_up check g' y budget).count → k ≡ 0
    none_lost budget k h = let z : k ≤ 0 = subst (λ (a : PowerUp). k ≤ a.count) (I.up budget) h in omega arith

  module _ (g : Geometry) (fit : fits g y ≡ true) (d : decide check g y ≡ plain) (b : Good (check g y.boot)) where
    -- a geometry that fits is the right one
    fits_right : (g' : Geometry) → fits g' y ≡ true → Idles g' runs
    fits_right g' e = subst (λ (q : Geometry). Idles q runs) (sym (same_geometry g g' y (shaped_of g y fit) (shaped_of g' y e))) (at_plain g d b)

    pub rests : (e : Event) → EndsAsAllowed check g y e → DoesNothing y (left check y e)
    rests (untorn g' budget) h = by (fits g' y) refl
      where
        by : (w : Bool) → fits g' y ≡ w → DoesNothing y (left check y (untorn g' budget))
        by false e = rw (idle_untorn g' (refusal (numbered 1 0)) (outside g' e) budget) (record { same = refl; none = refl; answers = (refl, inl (e, refl)) })
        by true e = rw (idle_untorn g' runs (fits_right g' e) budget) (record { same = refl; none = refl; answers = (refl, inr (e, refl)) })
    rests (lost g' budget k t) h = by (fits g' y) refl
      where
        by : (w : Bool) → fits g' y ≡ w → DoesNothing y (left check y (lost g' budget k t))
        by false e =
            rw (idle_lost g' (refusal (numbered 1 0)) (outside g' e) budget k t)
            (record { same = refl; none = none_lost g' (refusal (numbered 1 0)) (outside g' e) budget k h.0; answers = tt })
        by true e =
            rw (idle_lost g' runs (fits_right g' e) budget k t) (record { same = refl; none = none_lost g' runs (fits_right g' e) budget k h.0; answers = tt })
