-- One power-up, wherever it finds the flash on the way: what it leaves is on the way again.
use mathlib.Core.Path.{◌≡◌, refl, sym, ap, ◌∙◌, subst}
use mathlib.Core.Bool.{Bool, true, false, cond}
use mathlib.Core.List.{List, [], ◌∷◌}
use Prim.Native.Nat.{ℕ, ◌≤◌}
use native.Mathlib.Omega.{arith}
use Rattle.numbers.specs.Answer.{gives, numbered}
use Rattle.exchange.specs.Base.{Geometry, BootStatus, Success, UpdateStatus, UpdateNew, All0}
use Rattle.exchange.specs.Base.{firmware, Flash, fits}
use Rattle.exchange.specs.Decision.{Check, refuse, plain, decide, decide_within}
use Rattle.exchange.specs.Along.{Along}
use Rattle.exchange.specs.PowerUp.{PowerUp, power_up}
use Rattle.exchange.specs.Demand.{Exchange, update, fallback, StatusesAt, in_legs, from_testing, Finished, Starts, Ongoing, ReadsFirmware, untorn, lost, Event, Kept, kept, lost_power, left, flash_left, EndsAsAllowed, flash_after, IsRefusal, AtFinish, most, Safe}
use Rattle.flash.proofs.Checked.{shaped_of, same_geometry}
use Rattle.exchange.proofs.Orders.{decide_by_reads}
use Rattle.exchange.proofs.Accepted.{check_same}
use Rattle.exchange.proofs.Whole.{demand_3_ongoing, starts_ongoing}
use Rattle.exchange.proofs.Reached.{finish_from}
use Rattle.exchange.proofs.RuledOut.{ruled_out}
use Rattle.there_and_back.specs.Journey.{GivenBack, sides_changed, AtRest, OnTheWay, in_update, in_fallback, at_rest, ComesToFinish, EachThrough, AllowedThrough}
use Rattle.there_and_back.proofs.Halfway.{finished?, on_test, not_yet, shaped, as_good, halfway, falls}
use Rattle.there_and_back.proofs.Rest.{rests}

-- where power-up is Plain the lengths are right
plain_fits : (check : Check) (g : Geometry) (y : Flash) → decide check g y ≡ plain → fits g y ≡ true
unfolding decide
plain_fits check g y d = by (fits g y) d
  where
    by : (w : Bool) → cond w (decide_within check g y.boot y.update) (refuse (numbered 1 0)) ≡ plain → w ≡ true
    by true e = refl
    by false e = absurd (let z : ◌≡◌ {A = ℕ} 0 1 = cc in omega arith)

pub way_fits : (check : Check) (g : Geometry) (f y : Flash) → OnTheWay check g f y → fits g y ≡ true
way_fits check g f y (in_update n a o) = o.fit
way_fits check g f y (in_fallback k n a o) = o.fit
way_fits check g f y (at_rest k k' r) = plain_fits check g y r.is_plain

-- in a fallback under way UPDATE is NEW
still_new : (m a : ℕ) (b : BootStatus) (u : UpdateStatus) → StatusesAt m fallback a b u → u ≡ UpdateNew
still_new m a b u (in_legs from_testing) = refl

-- a power-up of an exchange under way that keeps its power, is not refused and has budget enough comes to the finish
to_finish : (check : Check) (x : Exchange) (g : Geometry) (old y : Flash) (a : ℕ) → ReadsFirmware check g → Ongoing check x g old y a → ¬ Finished x g y
    → (g' : Geometry) (budget : ℕ) → ¬ IsRefusal (power_up check g' y budget).outcome → most x (firmware g) ≤ budget
    → Finished x g (flash_left (left check) y (untorn g' budget))
to_finish check x g old y a R o n g' budget r h = by (fits g' y) refl
  where
    by : (w : Bool) → fits g' y ≡ w → Finished x g (flash_left (left check) y (untorn g' budget))
    by false e = absurd (r (subst (λ (p : PowerUp). IsRefusal p.outcome) (sym (ruled_out.outside_first check g' y budget e)) tt))
    by true e =
        subst (λ (q : Geometry). Finished x g (flash_left (left check) y (untorn q budget))) (sym (same_geometry g g' y (shaped_of g y o.fit) (shaped_of g' y e)))
        (finish_from check x g old y a R o n budget h)

-- so it is on the way
finishes_update : (check : Check) (g : Geometry) (f y : Flash) (a : ℕ) → ReadsFirmware check g → Ongoing check update g f y a → ¬ Finished update g y → (e : Event)
    → ComesToFinish g y (left check y e).power (left check y e).flash
unfolding left
finishes_update check g f y a R o n (untorn g' budget) = λ r h. ((λ _. to_finish check update g f y a R o n g' budget r (omega arith)), (λ k. absurd (n k)))
finishes_update check g f y a R o n (lost g' budget k t) = tt

finishes_fallback : (check : Check) (g : Geometry) (old y : Flash) (a : ℕ) → ReadsFirmware check g → Ongoing check fallback g old y a → Finished update g y
    → ¬ Finished fallback g y → (e : Event) → ComesToFinish g y (left check y e).power (left check y e).flash
unfolding left
finishes_fallback check g old y a R o k n (untorn g' budget) = λ r h. ((λ m. absurd (m k)), (λ _. to_finish check fallback g old y a R o n g' budget r (omega arith)))
finishes_fallback check g old y a R o k n (lost g' budget j t) = tt

finished_already : (g : Geometry) (y after : Flash) (p : Kept) → Finished update g y → Finished fallback g after → ComesToFinish g y p after
finished_already g y after (kept g' budget o why) k l = λ r h. ((λ m. absurd (m k)), (λ _. l))
finished_already g y after lost_power k l = tt

module _ (check : Check) (g : Geometry) (f : Flash) (R : ReadsFirmware check g) (s : Starts check update g f) where
  pub at_start : OnTheWay check g f f
  at_start = in_update (not_yet check g f s) 0 (starts_ongoing check update g f s)

  -- ---- the two finishes

  pub at_halfway : (y : Flash) → fits g y ≡ true → AtFinish update g f y → OnTheWay check g f y
  at_halfway y fit A = in_fallback A.update_status (on_test g y A.boot_status) 0 (falls check g f R s y fit A)

  pub given_back_lem : (y : Flash) → AtFinish fallback g (sides_changed f) y → GivenBack g f y
  given_back_lem y A = record {
    sectors = λ i hi. record { boot = (A.exchanged i (omega arith)).boot_holds; update = (A.exchanged i (omega arith)).update_holds };
    boot_status = A.boot_status;
    update_status = A.update_status;
    flags = A.flags;
  }

  module _ (y : Flash) (fit : fits g y ≡ true) (B : GivenBack g f y) where
    boot_checks_lem : check g y.boot ≡ check g f.boot
    boot_checks_lem = check_same check g R y.boot f.boot (shaped_of g y fit).boot (shaped check g f R s).boot (λ i hi. (B.sectors i (omega arith)).boot)

    update_checks_lem : check g y.update ≡ check g f.update
    update_checks_lem = check_same check g R y.update f.update (shaped_of g y fit).update (shaped check g f R s).update (λ i hi. (B.sectors i (omega arith)).update)

    resting : AtRest check g f y
    resting = record {
      given_back = B;
      boot_checks = boot_checks_lem;
      update_checks = update_checks_lem;
      is_plain = decide_by_reads check g y Success UpdateNew All0 fit B.boot_status B.update_status B.flags;
    }

    pub at_rest_lem : OnTheWay check g f y
    at_rest_lem = at_rest B.update_status B.boot_status resting

  -- ---- a power-up

  pub record Stepped (y : Flash) (e : Event) : Type 0 where
    pub ends : OnTheWay check g f (flash_left (left check) y e)
    pub each : EachThrough check g f y (left check y e)

  step_update : (y : Flash) (a : ℕ) (e : Event) → ¬ Finished update g y → Ongoing check update g f y a → EndsAsAllowed check g y e → Stepped y e
  step_update y a e n o h = record {
    ends = by (finished? update g after);
    each = record {
      of_update = λ _. S.each.0;
      to_halfway = λ _ k. halfway check g f R s after S.fit (S.at_finish k);
      no_way_back = λ k. absurd (n k);
      of_fallback = λ k _. absurd (n k);
      of_rest = λ k _. absurd (n k);
      finishes = finishes_update check g f y a R o n e;
    };
  }
    where
      after : Flash
      after = flash_left (left check) y e

      S : Safe check (left check) update g f y a (e ∷ [])
      S = demand_3_ongoing check update g f y a R o (e ∷ []) ((n, h), tt)

      by : Dec (Finished update g after) → OnTheWay check g f after
      by (yes k) = at_halfway after S.fit (S.at_finish k)
      by (no k) = in_update k (S.ongoing k).0 (S.ongoing k).2

  step_fallback : (y : Flash) (a : ℕ) (e : Event) → Finished update g y → ¬ Finished fallback g y → Ongoing check fallback g (sides_changed f) y a
      → EndsAsAllowed check g y e → Stepped y e
  step_fallback y a e k n o h = record {
    ends = by (finished? fallback g after);
    each = record {
      of_update = λ m. absurd (m k);
      to_halfway = λ m _. absurd (m k);
      no_way_back = λ _. still_updated (finished? fallback g after);
      of_fallback = λ _ _. S.each.0;
      of_rest = λ _ m. absurd (n m);
      finishes = finishes_fallback check g (sides_changed f) y a R o k n e;
    };
  }
    where
      after : Flash
      after = flash_left (left check) y e

      S : Safe check (left check) fallback g (sides_changed f) y a (e ∷ [])
      S = demand_3_ongoing check fallback g (sides_changed f) y a R o (e ∷ []) ((n, h), tt)

      still_updated : Dec (Finished fallback g after) → Finished update g after
      still_updated (yes l) = (S.at_finish l).update_status
      still_updated (no l) =
          let o = (S.ongoing l).2 in o.read_update ∙ ap gives (still_new (firmware g) (S.ongoing l).0 o.boot o.update o.statuses)

      by : Dec (Finished fallback g after) → OnTheWay check g f after
      by (yes l) = at_rest_lem after S.fit (given_back_lem after (S.at_finish l))
      by (no l) = in_fallback (still_updated (no l)) l (S.ongoing l).0 (S.ongoing l).2

  step_rest : (y : Flash) (e : Event) → Finished update g y → Finished fallback g y → AtRest check g f y → EndsAsAllowed check g y e → Stepped y e
  step_rest y e k l A h =
      let r = rests check y g (plain_fits check g y A.is_plain) A.is_plain (as_good check g f R s (check g y.boot) A.boot_checks) e h in
      record {
        ends = subst (λ (z : Flash). OnTheWay check g f z) (sym r.same) (at_rest k l A);
        each = record {
          of_update = λ m. absurd (m k);
          to_halfway = λ m _. absurd (m k);
          no_way_back = λ _. subst (λ (z : Flash). Finished update g z) (sym r.same) k;
          of_fallback = λ _ m. absurd (m l);
          of_rest = λ _ _. r;
          finishes = finished_already g y (flash_left (left check) y e) (left check y e).power k (subst (λ (z : Flash). Finished fallback g z) (sym r.same) l);
        };
      }

  pub step : (y : Flash) → OnTheWay check g f y → (e : Event) → EndsAsAllowed check g y e → Stepped y e
  step y (in_update n a o) e h = step_update y a e n o h
  step y (in_fallback k n a o) e h = step_fallback y a e k n o h
  step y (at_rest k l A) e h = step_rest y e k l A h

  -- ---- a list of them

  pub record Walked (y : Flash) (es : List Event) : Type 0 where
    pub ends : OnTheWay check g f (flash_after (left check) y es)
    pub each : Along (flash_left (left check)) (λ before e after. EachThrough check g f before (left check before e)) y es

  pub walk : (es : List Event) (y : Flash) → OnTheWay check g f y → AllowedThrough check g y es → Walked y es
  walk [] y w h = record { ends = w; each = tt }
  walk (e ∷ es) y w h =
      let p = step y w e h.0 in
      let r = walk es (flash_left (left check) y e) p.ends h.1 in
      record { ends = r.ends; each = (p.each, r.each) }
