-- For each list that the rules allow there are counted calls that gave it, as long as the counts have room.
use mathlib.Core.Path.{◌≡◌, refl, sym, ap, ap₂, ◌∙◌, subst}
use mathlib.Core.Logic.{◌≢◌}
use mathlib.Core.Bool.{true}
use mathlib.Core.List.{List, [], ◌∷◌}
use Prim.Native.Nat.{ℕ, suc, ◌≤◌, ◌<◌}
use native.Mathlib.Omega.{arith}
use native.Mathlib.Nat.{mul-suc}
use lib.ListN.{length, get_or-replicate}
use Rattle.std.specs.Prelude.{Result, Ok, Err, sum}
use Rattle.numbers.specs.declared.PowerUpRefusal.{PowerUpRefusal}
use Rattle.numbers.specs.Answer.{numbered, number_of}
use Rattle.numbers.specs.GivenBack.{reason_of}
use Rattle.numbers.specs.declared.PowerUpRefusal.TheVariants.{OutsideRules, StatusNotAllowed, FlagsMalformed, BadBoot, NoFallback}
use Rattle.flash.specs.declared.Geometry.{Geometry}
use Rattle.flash.specs.Sizes.{firmware}
use Rattle.flash.specs.Buffers.{Flash, fits}
use Rattle.exchange.specs.PowerUp as rules
use Rattle.exchange.specs.PowerUp.{PowerUp, refusal, cut, runs, runs_on_test, runs_fallen_back, power_up}
use Rattle.exchange.specs.Along.{Along}
use Rattle.exchange.specs.Demand.{Exchange, update, fallback, Finished, Starts, Event, untorn, lost, left, flash_left, EndsAsAllowed, flash_after}
use Rattle.exchange.specs.Cases.{three}
use Rattle.exchange.specs.Reached.{rough_list}
use Rattle.exchange.proofs.Seen.{at}
use Rattle.exchange.proofs.Whole.{starts_ongoing}
use Rattle.exchange.proofs.Reached.{finish_reached}
use Rattle.image.specs.Verdict.{check_of}
use Rattle.power_up.specs.declared.Outcome.{Outcome}
use Rattle.power_up.specs.declared.Outcome.TheVariants.{Cut, Run, RunOnTest, RunFallenBack}
use Rattle.power_up.specs.Delivered.{outcome_of}
use Rattle.delivered.specs.Witness.{armed, on_test}
use Rattle.delivered.proofs.Delivered.{reads_firmware}
use Rattle.delivered.proofs.Called.{gave, ToldOn, gives_it, Goes, goes_on, told_going}
use Rattle.delivered.proofs.Started.{witnesses}
use Rattle.counts.specs.Row.{row_length}
use Rattle.counts.specs.Calls.{counted_power_up}
use Rattle.counts.specs.Claims.{RoomForM}
use Rattle.counts_power_up.specs.declared.CountedRefusal.{CountedRefusal}
use Rattle.counts_power_up.specs.declared.CountedRefusal.TheVariants.{PowerUp as Own}
use Rattle.counts_power_up.specs.Delivered.{counted_outcome_of}
use Rattle.delivered_counts.specs.Demand.{CountedGave, Handed, CountedEvent, kept_power, cut_off, Gives, Found, found_after, HandedOn}
use Rattle.delivered_counts.specs.Witness.{ruled, CountedCalled, RoomFor, EveryListCounted, fresh, CountedWitness, CountedWitnesses}
use Rattle.delivered_counts.proofs.OneCall.{own_is}
use Rattle.delivered_counts.proofs.Lists.{Ruled, as_ruled, few_completed}

-- ---- power-up's own numbers end at 13

abbrev number_in : rules.Outcome → ℕ
number_in (refusal r) = number_of r
number_in cut = 0
number_in runs = 0
number_in runs_on_test = 0
number_in runs_fallen_back = 0

own_numbers : (o : Result Outcome PowerUpRefusal) → number_in (outcome_of o) ≤ 13
own_numbers (Err OutsideRules) = omega arith
own_numbers (Err StatusNotAllowed) = omega arith
own_numbers (Err FlagsMalformed) = omega arith
own_numbers (Err (BadBoot i)) = omega arith
own_numbers (Err (NoFallback i)) = omega arith
own_numbers (Ok Cut) = omega arith
own_numbers (Ok Run) = omega arith
own_numbers (Ok RunOnTest) = omega arith
own_numbers (Ok RunFallenBack) = omega arith

-- power-up's own answer, as a counted one
abbrev owned : Result Outcome PowerUpRefusal → Result Outcome CountedRefusal
owned (Ok o) = Ok o
owned (Err r) = Err (Own r)

owned_is : (o : Result Outcome PowerUpRefusal) → counted_outcome_of (owned o) ≡ outcome_of o
owned_is (Ok o) = refl
owned_is (Err r) = refl

not_own : (o : Result Outcome PowerUpRefusal) (n : ℕ) → 13 < n → counted_outcome_of (owned o) ≢ refusal (numbered n 0)
not_own o n h e = let z : number_in (outcome_of o) ≡ n = ap number_in (sym (owned_is o) ∙ e) in omega (arith, own_numbers o)

-- ---- each call

-- what is found is in order: the row's length, its sum as the total, room for m erases
pub record InOrder (g : Geometry) (s : Found) : Type 0 where
  pub long : length s.row ≡ row_length g
  pub summed : s.total ≡ sum s.row
  pub room : RoomForM g s.row

abbrev handing : Found → Geometry → ℕ → Handed
handing s g' budget = record { sectors = g'.sectors; size = g'.size; budget = budget; row = s.row; total = s.total }

abbrev gives_back : Found → Geometry → ℕ → CountedGave
gives_back s g' budget =
    let p = gave (power_up check_of g' s.flash budget) in
    let c = counted_power_up check_of g' s.flash budget s.row s.total in
    record {
      answer = record { outcome = owned p.answer.outcome; reason = p.answer.reason; count = p.answer.count; total = c.total };
      flash = p.flash;
      row = c.row;
    }

module _ (g : Geometry) (s : Found) (fit : fits g s.flash ≡ true) (told : ToldOn s.flash) (q : InOrder g s) where
  gives : (g' : Geometry) (budget : ℕ) → Gives s.flash (handing s g' budget) (gives_back s g' budget)
  gives g' budget =
      let c = counted_power_up check_of g' s.flash budget s.row s.total in
      let r = gives_back s g' budget in
      let p = gave (power_up check_of g' s.flash budget) in
      record {
        delivers = ap (λ (x : PowerUp). record { own = x; row = c.row; total = c.total })
            (ap (λ (o : rules.Outcome). record { outcome = o; reason = reason_of p.answer.reason; count = p.answer.count; flash = p.flash }) (owned_is p.answer.outcome)
            ∙ gives_it s.flash told g' budget ∙ sym (own_is g g' s.flash budget s.row s.total fit q.long (sym q.summed) q.room));
        not19 = not_own (gave (power_up check_of g' s.flash budget)).answer.outcome 19 (omega arith);
        not20 = not_own (gave (power_up check_of g' s.flash budget)).answer.outcome 20 (omega arith);
      }

-- the calls of a power-up
abbrev call : Found → Event → CountedEvent
call s (untorn g' budget) = kept_power (handing s g' budget) (gives_back s g' budget)
call s (lost g' budget k t) = cut_off (handing s g' budget) (gives_back s g' budget) k (gives_back s g' k) t

handed_on_lem : (g : Geometry) (s : Found) → fits g s.flash ≡ true → ToldOn s.flash → InOrder g s → (e : Event) → EndsAsAllowed check_of g s.flash e
    → HandedOn g s (call s e)
handed_on_lem g s fit told q (untorn g' budget) h = record { same_row = refl; same_total = refl; happens = gives g s fit told q g' budget }
handed_on_lem g s fit told q (lost g' budget k t) h =
    record { same_row = refl; same_total = refl; happens = (gives g s fit told q g' budget, gives g s fit told q g' k, h.0, h.1) }

ruled_call : (s : Found) (e : Event) → ruled (call s e) ≡ e
ruled_call s (untorn g' budget) = refl
ruled_call s (lost g' budget k t) = refl

-- ---- the room that is left

-- a power-up takes room for m erases, and leaves it for the n that follow
module _ (g : Geometry) (s : Found) (n : ℕ) (long : length s.row ≡ row_length g) (room : RoomFor g (suc n) s.row) where
  room_now : RoomForM g s.row
  room_now k b = omega (arith, mul-suc (firmware g) n, room k (rw long at b))

  room_then : (e : Event) → fits g s.flash ≡ true → Ruled g s (call s e) → RoomFor g n (found_after s (call s e)).row
  room_then e fit r p b = omega (arith, mul-suc (firmware g) n, room p b, r.places p (rw long b), few_completed g s (call s e) fit p)

-- ---- a list of them, by what holds between two power-ups

module _ (g : Geometry) (Inv Allows : Flash → Type 0) (fit : (y : Flash) → Inv y → Allows y → fits g y ≡ true) (told : (y : Flash) → Inv y → Allows y → ToldOn y)
    (on : (y : Flash) (e : Event) → Inv y → Allows y → EndsAsAllowed check_of g y e → Inv (left check_of y e).flash) where
  abbrev Lists : Found → List CountedEvent → Type 0
  Lists s cs = Along found_after (λ before c after. Allows before.flash × HandedOn g before c) s cs

  pub counted_all : (es : List Event) (s : Found) → Inv s.flash → length s.row ≡ row_length g → s.total ≡ sum s.row → RoomFor g (length es) s.row
      → Along (flash_left (left check_of)) (λ before e after. Allows before × EndsAsAllowed check_of g before e) s.flash es → CountedCalled (Lists s) s es
  counted_all [] s i long summed room h = record { calls = []; are = refl; allows = tt; leaves = refl }
  counted_all (e ∷ es) s i long summed room h =
      let right = fit s.flash i h.0.0 in
      let q : InOrder g s = record { long = long; summed = summed; room = room_now g s (length es) long room } in
      let here : HandedOn g s (call s e) = handed_on_lem g s right (told s.flash i h.0.0) q e h.0.1 in
      let r : Ruled g s (call s e) = as_ruled g s (call s e) right long here in
      let same : (found_after s (call s e)).flash ≡ (left check_of s.flash e).flash = ap at (r.seen ∙ ap (left check_of s.flash) (ruled_call s e)) in
      let c : CountedCalled (Lists (found_after s (call s e))) (found_after s (call s e)) es = counted_all es (found_after s (call s e))
      (subst Inv (sym same) (on s.flash e i h.0.0 h.0.1)) (r.same_length ∙ long) (r.total summed) (room_then g s (length es) long room e right r)
      (subst (λ (y : Flash). Along (flash_left (left check_of)) (λ before e after. Allows before × EndsAsAllowed check_of g before e) y es) (sym same) h.1) in
      record {
        calls = call s e ∷ c.calls;
        are = ap₂ (λ (d : Event) (ds : List Event). d ∷ ds) (ruled_call s e) c.are;
        allows = ((h.0.0, here), c.allows);
        leaves = c.leaves ∙ ap (λ (y : Flash). flash_after (left check_of) y es) same;
      }

pub every_list_counted : EveryListCounted
every_list_counted x g old a s o long summed es room h =
    counted_all g (Goes x g old) (λ y. ¬ Finished x g y) (λ y i not. (i not).1.fit) (told_going x g old) (goes_on x g old) es s
    (λ not. (a, o)) long summed room h

-- ---- the two starts

from_start : (x : Exchange) (f : Flash) → Starts check_of x three f → CountedWitness x f
unfolding firmware
from_start x f s t len budget le =
    every_list_counted x three f 0 (fresh f) (starts_ongoing check_of x three f s) refl refl (rough_list three t budget)
    (λ p b. omega (arith, get_or-replicate {A = ℕ} 7 p 0 0 (omega arith)))
    (finish_reached check_of x three f (reads_firmware three) s t len budget le).allowed

pub counted_witnesses : CountedWitnesses
counted_witnesses = record { of_update = from_start update armed witnesses.of_update.starts; of_fallback = from_start fallback on_test witnesses.of_fallback.starts }
