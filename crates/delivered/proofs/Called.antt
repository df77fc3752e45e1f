-- For each list that the rules allow there are calls that gave it. Assumes nothing.
use mathlib.Core.Path.{◌≡◌, refl, sym, ap, ap₂, ◌∙◌, subst}
use mathlib.Core.Bool.{true, false}
use mathlib.Core.Logic.{◌⊎◌, inl, inr}
use mathlib.Core.List.{List, [], ◌∷◌}
use Prim.Native.Nat.{ℕ}
use Rattle.std.specs.Prelude.{None, Result, Ok, Err}
use Rattle.numbers.specs.Answer.{numbered, no_reason}
use Rattle.numbers.specs.declared.PowerUpRefusal.{PowerUpRefusal}
use Rattle.numbers.specs.declared.PowerUpRefusal.TheVariants.{OutsideRules}
use Rattle.flash.specs.declared.Geometry.{Geometry}
use Rattle.flash.specs.Buffers.{Flash, fits}
use Rattle.exchange.specs.PowerUp as rules
use Rattle.exchange.specs.PowerUp.{PowerUp, refusal, cut, runs, runs_on_test, runs_fallen_back, power_up}
use Rattle.exchange.specs.Along.{Along}
use Rattle.exchange.specs.Demand.{Exchange, update, fallback, Finished, Ongoing, Event, untorn, lost, left, flash_left, kept, CutOrDone, Answers, EndsAsAllowed, flash_after}
use Rattle.exchange.proofs.Seen.{at}
use Rattle.exchange.proofs.Whole.{demand_3_ongoing}
use Rattle.image.specs.Verdict.{check_of}
use Rattle.power_up.specs.declared.Outcome.{Outcome}
use Rattle.power_up.specs.declared.Outcome.TheVariants.{Cut, Run, RunOnTest, RunFallenBack}
use Rattle.power_up.specs.Delivered.{outcome_of, Delivers}
use Rattle.delivered.specs.Demand.{Gave, CallEvent, kept_power, cut_off, Happens, seen}
use Rattle.delivered.specs.Witness.{ruled, Called, EveryListCalled}
use Rattle.delivered.proofs.Delivered.{reads_firmware, happened}

-- ---- an answer of the code for what the rules have, where they refuse with 1 alone and have no reason

abbrev pub coded : rules.Outcome → Result Outcome PowerUpRefusal
coded (refusal r) = Err OutsideRules
coded cut = Ok Cut
coded runs = Ok Run
coded runs_on_test = Ok RunOnTest
coded runs_fallen_back = Ok RunFallenBack

abbrev pub gave : PowerUp → Gave
gave p = record { answer = record { outcome = coded p.outcome; reason = None; count = p.count }; flash = p.flash }

-- the code has an answer for it
abbrev pub Codable : rules.Outcome → Type 0
Codable o = outcome_of (coded o) ≡ o

pub record Told (p : PowerUp) : Type 0 where
  pub outcome : Codable p.outcome
  pub reason : p.reason ≡ no_reason

-- for every power-up on a flash
abbrev pub ToldOn : Flash → Type 0
ToldOn f = (g' : Geometry) (budget : ℕ) → Told (power_up check_of g' f budget)

-- so it is where a power-up answers right: refusal 1, or what the code has
pub told_by : (Right : rules.Outcome → Type 0) → ((o : rules.Outcome) → Right o → Codable o) → (f : Flash) (g' : Geometry) (budget : ℕ) (p : PowerUp)
    → Answers Right f (kept g' budget p.outcome p.reason) → Told p
told_by Right right f g' budget p h = record { outcome = by h.1; reason = h.0 }
  where
    by : ((fits g' f ≡ false) × (p.outcome ≡ refusal (numbered 1 0))) ⊎ ((fits g' f ≡ true) × Right p.outcome) → Codable p.outcome
    by (inl k) = subst Codable (sym k.1) refl
    by (inr k) = right p.outcome k.1

-- ---- the calls of a power-up

module _ (f : Flash) (told : ToldOn f) where
  pub gives_it : (g' : Geometry) (budget : ℕ)
      → let p = power_up check_of g' f budget in Delivers g'.sectors g'.size f budget (gave p).answer (gave p).flash
  gives_it g' budget =
      let p = power_up check_of g' f budget in
      ap₂ (λ o why. record { outcome = o; reason = why; count = p.count; flash = p.flash }) (told g' budget).outcome (sym (told g' budget).reason)

abbrev pub call : Flash → Event → CallEvent
call f (untorn g budget) = kept_power g.sectors g.size budget (gave (power_up check_of g f budget))
call f (lost g budget k t) = cut_off g.sectors g.size budget (gave (power_up check_of g f budget)) k (gave (power_up check_of g f k)) t

happens : (g : Geometry) (f : Flash) → ToldOn f → (e : Event) → EndsAsAllowed check_of g f e → Happens g f (call f e)
happens g f told (untorn g' budget) h = gives_it f told g' budget
happens g f told (lost g' budget k t) h = (gives_it f told g' budget, gives_it f told g' k, h.0, h.1)

ruled_call : (f : Flash) (e : Event) → ruled (call f e) ≡ e
ruled_call f (untorn g budget) = refl
ruled_call f (lost g budget k t) = refl

-- ---- a list of them, by what holds between two power-ups

-- a power-up that is called: the call, and what holds behind it
pub record CallsOne (Inv : Flash → Type 0) (A : Flash → CallEvent → Type 0) (f : Flash) (e : Event) : Type 0 where
  pub allows : A f (call f e)
  pub same : seen f (call f e) ≡ left check_of f e
  pub holds : Inv (left check_of f e).flash

module _ (g : Geometry) (Inv : Flash → Type 0) (P : Flash → Type 0) (A : Flash → CallEvent → Type 0)
    (told : (f : Flash) → Inv f → P f → ToldOn f) (allowed : (f : Flash) (c : CallEvent) → P f → Happens g f c → A f c)
    (on : (f : Flash) (e : Event) → Inv f → P f → EndsAsAllowed check_of g f e → Inv (left check_of f e).flash) where
  calls_one : (f : Flash) (e : Event) → Inv f → P f → EndsAsAllowed check_of g f e → CallsOne Inv A f e
  calls_one f e i p h =
      let here : Happens g f (call f e) = happens g f (told f i p) e h in
      record { allows = allowed f (call f e) p here; same = (happened g f (call f e) here).0 ∙ ap (left check_of f) (ruled_call f e); holds = on f e i p h }

  pub calls_all : (es : List Event) (f : Flash) → Inv f → Along (flash_left (left check_of)) (λ before e after. P before × EndsAsAllowed check_of g before e) f es
      → Called (Along (flash_left seen) (λ before c after. A before c) f) f es
  calls_all [] f i h = record { calls = []; are = refl; allows = tt; leaves = refl }
  calls_all (e ∷ es) f i h = joined (calls_one f e i h.0.0 h.0.1) (λ j. calls_all es (left check_of f e).flash j h.1)
    where
      goal : List Event → Flash → Type 0
      goal ds y = Called (Along (flash_left seen) (λ before c after. A before c) y) y ds

      joined : CallsOne Inv A f e → (Inv (left check_of f e).flash → goal es (left check_of f e).flash) → goal (e ∷ es) f
      joined c rest =
          let back : (left check_of f e).flash ≡ (seen f (call f e)).flash = sym (ap at c.same) in
          let r = rest c.holds in
          record {
            calls = call f e ∷ r.calls;
            are = ap₂ (λ (d : Event) (ds : List Event). d ∷ ds) (ruled_call f e) r.are;
            allows = (c.allows, subst (λ (y : Flash). Along (flash_left seen) (λ before c after. A before c) y r.calls) back r.allows);
            leaves = subst (λ (y : Flash). flash_after seen y r.calls ≡ flash_after (left check_of) (left check_of f e).flash es) back r.leaves;
          }

-- ---- wherever an exchange is under way

done_codable : (x : Exchange) (g : Geometry) (o : rules.Outcome) (f : Flash) → CutOrDone x g o f → Codable o
done_codable x g o f (inl h) = subst Codable (sym h.0) refl
done_codable update g o f (inr h) = subst Codable (sym h.0) refl
done_codable fallback g o f (inr h) = subst Codable (sym h.0) refl

module _ (x : Exchange) (g : Geometry) (old : Flash) where
  pub told_underway : (f : Flash) (a : ℕ) → Ongoing check_of x g old f a → ¬ Finished x g f → ToldOn f
  unfolding left
  told_underway f a o not g' budget =
      let p = power_up check_of g' f budget in
      told_by (λ o. CutOrDone x g o p.flash) (λ o. done_codable x g o p.flash) f g' budget p
      (demand_3_ongoing check_of x g old f a (reads_firmware g) o (untorn g' budget ∷ []) ((not, tt), tt)).each.0.answers

-- under way until it is finished
module _ (x : Exchange) (g : Geometry) (old : Flash) where
  abbrev pub Goes : Flash → Type 0
  Goes y = ¬ Finished x g y → (a : ℕ) × Ongoing check_of x g old y a

  pub goes_on : (y : Flash) (e : Event) → Goes y → ¬ Finished x g y → EndsAsAllowed check_of g y e → Goes (left check_of y e).flash
  goes_on y e i not ends rest =
      let q = (demand_3_ongoing check_of x g old y (i not).0 (reads_firmware g) (i not).1 (e ∷ []) ((not, ends), tt)).ongoing rest in (q.0, q.2)

  pub told_going : (y : Flash) → Goes y → ¬ Finished x g y → ToldOn y
  told_going y i not = told_underway x g old y (i not).0 (i not).1 not

pub every_list_called : EveryListCalled
every_list_called x g old f a o es h =
    calls_all g (Goes x g old) (λ y. ¬ Finished x g y) (λ y c. (¬ Finished x g y) × Happens g y c) (told_going x g old) (λ y c not here. (not, here)) (goes_on x g old) es f
    (λ not. (a, o)) h
