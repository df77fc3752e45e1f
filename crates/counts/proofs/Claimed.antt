-- The statements of specs/Claims.antt.
use mathlib.Core.Path.{◌≡◌, refl, sym, ap, ◌∙◌, subst}
use mathlib.Core.Logic.{◌≢◌}
use mathlib.Core.Bool.{Bool, true, false, cond}
use mathlib.Core.List.{List, []}
use Prim.Native.Nat.{ℕ, zero, suc, ◌+◌, ◌-◌, ◌≤◌, ◌<◌}
use native.Mathlib.Decide.{ℕ_discrete, dec_lt}
use native.Mathlib.Omega.{arith}
use lib.ListN.{length, get_or, get_or-eq_default}
use borrow.Author.Tests.{eq-eqb, ne_eqb}
use Rattle.std.specs.Prelude.{Option, Some, None, sum}
use Rattle.numbers.specs.Answer.{Answer, gives, refused, numbered}
use Rattle.numbers.specs.GivenBack.{count_of}
use Rattle.numbers.specs.Every.{Every}
use Rattle.flash.specs.declared.Geometry.{Geometry}
use Rattle.flash.specs.Sizes.{firmware, Limits}
use Rattle.flash.specs.Buffers.{Flash, fits, Shaped}
use Rattle.flash.proofs.Checked.{sectors_are, some_firmware, shaped_of}
use Rattle.exchange.specs.declared.Area.TheVariants.{Update}
use Rattle.exchange.specs.declared.Job.{Job}
use Rattle.exchange.specs.declared.Operation.{Operation}
use Rattle.exchange.specs.Operations.{perform, perform_all, phase_after}
use Rattle.exchange.specs.Order.{next_operation, operations}
use Rattle.exchange.specs.Decision.{Check, Plan, refuse as turn_away, plain, work, decide_within, decide}
use Rattle.exchange.specs.PowerUp.{PowerUp, refusal, idle, power_up, operations_in, operations_of}
use Rattle.exchange.specs.Commands.{Command, command, checked, may_arm, arm_operations, arm_command}
use Rattle.exchange.proofs.Runs.{operations_none, operations_some}
use Rattle.exchange.proofs.RuledOut.{ruled_out}
use Rattle.exchange_front.proofs.Ordered.{Ordered, next_ordered}
use Rattle.counts.specs.Row.{row_length, slot, raised, check_row}
use Rattle.counts.specs.Calls.{Counted, check_counted, counted, counted_power_up, arm_done, counted_arm}
use Rattle.counts.specs.Claims.{erases_at, CountsDone, where_taken, PowerUpCounts, ArmCounts, NoPlaceMoreThanM, RoomForM, Within32, StaysWithin32, ChecksFirst, RefusedInOrder}
use Rattle.counts.proofs.Places.{slot_below}
use Rattle.counts.proofs.Rows.{length_raised, raised_place, SlotBelow, sum_raised, none_above, one_above}
use Rattle.counts.proofs.ToCome.{place_once, no_more_than_m}

-- ---- an erase that is done has a place in the row

abbrev SlotsBelow : Geometry → List Operation → Type 0
SlotsBelow g os = Every (λ o. SlotBelow (row_length g) (slot g o)) os

run_below : (g : Geometry) → Limits g → (job : Job) (n p : ℕ) (f : Flash) → SlotsBelow g (operations job g n p f)
unfolding operations
run_below g G job zero p f = tt
run_below g G job (suc n) p f = by (next_operation job g p f) refl (λ o. run_below g G job n (phase_after o) (perform g o f))
  where
    by : (m : Option Operation) → next_operation job g p f ≡ m → ((o : Operation) → SlotsBelow g (operations job g n (phase_after o) (perform g o f)))
        → SlotsBelow g (operations job g (suc n) p f)
    by None e more = subst (SlotsBelow g) (sym (operations_none job g (suc n) p f e)) tt
    by (Some o) e more = subst (SlotsBelow g) (sym (operations_some job g n p f o e)) (slot_below g G o (λ a i q. subst (Ordered g f.update) q (next_ordered g G job p f o e)), more o)

-- ---- the operations of a power-up: a claim on those of each job, where the flash fits, is a claim on them

of_plan : (P : List Operation → Type 0) → P [] → (g : Geometry) (f : Flash) (budget : ℕ) (plan : Plan) → ((job : Job) → P (operations job g budget 0 f)) → P (operations_in g f budget plan)
of_plan P nil g f budget (turn_away r) h = nil
of_plan P nil g f budget plain h = nil
of_plan P nil g f budget (work job why) h = h job

of_power_up : (P : List Operation → Type 0) → P [] → (check : Check) (g : Geometry) (f : Flash) (budget : ℕ)
    → (Shaped g f → (job : Job) → P (operations job g budget 0 f)) → P (operations_of check g f budget)
unfolding operations_of decide
of_power_up P nil check g f budget h = by (fits g f) refl
  where
    by : (b : Bool) → fits g f ≡ b → P (operations_in g f budget (cond b (decide_within check g f.boot f.update) (turn_away (numbered 1 0))))
    by true e = of_plan P nil g f budget (decide_within check g f.boot f.update) (h (shaped_of g f e))
    by false e = nil

-- ---- no place more than m times

pub no_place_more_than_m : NoPlaceMoreThanM
no_place_more_than_m check g f budget k =
    of_power_up (λ os. erases_at g k os ≤ firmware g) (omega arith) check g f budget (λ s job. no_more_than_m g f s job budget k)

-- ---- the checks

pub record Taken (g : Geometry) (f : Flash) (row : List ℕ) (total : ℕ) : Type 0 where
  pub fit : fits g f ≡ true
  pub long : length row ≡ row_length g
  pub summed : sum row ≡ total
  pub room : RoomForM g row

many : (g : Geometry) → Limits g → firmware g ≤ 511
many g G = omega (arith, sectors_are g G, G.many)

module _ (g : Geometry) (f : Flash) (row : List ℕ) (total : ℕ) where
  pub total_wrong_lem : fits g f ≡ true → length row ≡ row_length g → sum row ≢ total → check_counted g f row total ≡ refused 19 0
  unfolding check_counted
  total_wrong_lem e l n = rw (e, eq-eqb (length row) (row_length g) l, ne_eqb (sum row) total n) refl

  pub unfit : fits g f ≡ false → check_counted g f row total ≡ refused 1 0
  unfolding check_counted
  unfit e = rw e refl

  other_length_lem : length row ≢ row_length g → check_counted g f row total ≡ refused 1 0
  unfolding check_counted
  other_length_lem n = rw (ne_eqb (length row) (row_length g) n) (by (fits g f))
    where
      by : (b : Bool) → ◌≡◌ {A = Answer (Unit {0})} (cond b (refused 1 0) (refused 1 0)) (refused 1 0)
      by true = refl
      by false = refl

  too_high : fits g f ≡ true → length row ≡ row_length g → sum row ≡ total → (k : ℕ) → k < length row → 4294967295 < get_or row k 0 + firmware g
      → check_counted g f row total ≡ refused 20 0
  unfolding check_counted
  too_high e l s k h c =
      let m = many g (shaped_of g f e).limits in
      rw (e, eq-eqb (length row) (row_length g) l, eq-eqb (sum row) total s, one_above (4294967295 - firmware g) row k h (omega (arith, m))) refl

  pub all_right : fits g f ≡ true → length row ≡ row_length g → sum row ≡ total → RoomForM g row → check_counted g f row total ≡ gives tt
  unfolding check_counted
  all_right e l s h =
      rw (e, eq-eqb (length row) (row_length g) l, eq-eqb (sum row) total s, none_above (4294967295 - firmware g) row (λ k b. omega (arith, h k b))) refl

  pub where_it_fits : fits g f ≡ true → check_counted g f row total ≡ check_row g row total
  unfolding check_counted
  where_it_fits e = rw e refl

  -- where nothing is refused, nothing is wrong
  not_refused : (n : ℕ) → check_counted g f row total ≡ gives tt → check_counted g f row total ≡ refused n 0 → ⊥
  not_refused n e q = let z : ◌≡◌ {A = Answer (Unit {0})} (gives tt) (refused n 0) = sym e ∙ q in let y : ◌≡◌ {A = ℕ} 0 1 = cc in omega arith

  pub taken : check_counted g f row total ≡ gives tt → Taken g f row total
  taken e = by (fits g f) refl (ℕ_discrete (length row) (row_length g)) (ℕ_discrete (sum row) total)
    where
      by : (b : Bool) → fits g f ≡ b → Dec (length row ≡ row_length g) → Dec (sum row ≡ total) → Taken g f row total
      by false q l s = absurd (not_refused 1 e (unfit q))
      by true q (no l) s = absurd (not_refused 1 e (other_length_lem l))
      by true q (yes l) (no s) = absurd (not_refused 19 e (total_wrong_lem q l s))
      by true q (yes l) (yes s) = record { fit = q; long = l; summed = s; room = room }
        where
          room : RoomForM g row
          room k b = within (dec_lt 4294967295 (get_or row k 0 + firmware g))
            where
              within : Dec (4294967295 < get_or row k 0 + firmware g) → get_or row k 0 + firmware g ≤ 4294967295
              within (yes h) = absurd (not_refused 20 e (too_high q l s k b h))
              within (no h) = omega arith

  -- both calls
  checks_first : {A : Type 0} (refuse : ℕ → ℕ → A) (did : A) (os : List Operation)
      → ChecksFirst (λ n. refuse n 0) did g f row total (counted (check_counted g f row total) refuse did g os row total)
  checks_first {A} refuse did os = record {
    outside = λ e. ap by (unfit e);
    other_length = λ n. ap by (other_length_lem n);
    total_wrong = λ e l n. ap by (total_wrong_lem e l n);
    count_too_high = λ e l s k b c. ap by (too_high e l s k b c);
    else = λ e l s h. rw (all_right e l s h) (refl, refl);
  }
    where
      by : Answer (Unit {0}) → Counted A
      by c = counted c refuse did g os row total

pub refused_in_order : RefusedInOrder
unfolding counted_power_up counted_arm
refused_in_order = record {
  power_up = λ check g f budget row total. checks_first g f row total (λ n p. idle (refusal (numbered n p)) f) (power_up check g f budget) (operations_of check g f budget);
  arm = λ g f row total. checks_first g f row total (λ n p. record { answer = refused n p; flash = f }) (arm_command g f) (arm_done (arm_command g f).answer);
}

-- ---- what is counted

module _ {A : Type 0} (flash_in : A → Flash) (count_in : A → ℕ) (g : Geometry) (f : Flash) (row : List ℕ) (total : ℕ) (refuse : ℕ → ℕ → A) (did : A) (os : List Operation)
    (unchanged : (n p : ℕ) → flash_in (refuse n p) ≡ f) (none_counted_lem : (n p : ℕ) → count_in (refuse n p) ≡ 0)
    (performed : flash_in did ≡ perform_all g os f) (number : count_in did ≡ length os) where
  done_counted : (c : Answer (Unit {0})) → (c ≡ gives tt → (length row ≡ row_length g) × SlotsBelow g os)
      → let r = counted c refuse did g os row total in CountsDone g f row (where_taken c os) (flash_in r.own) (count_in r.own) r.row
  done_counted (gives t) h = record {
    left = performed;
    number = number;
    same_length = length_raised g os row;
    place_by_place = λ k b. raised_place g os row k b;
    all_counted = sum_raised g (row_length g) os row (h refl).0 (h refl).1;
  }
  done_counted (refused n p) h = record {
    left = unchanged n p;
    number = none_counted_lem n p;
    same_length = refl;
    place_by_place = λ k b. omega arith;
    all_counted = omega arith;
  }

pub power_up_counts : PowerUpCounts
unfolding counted_power_up
power_up_counts check g f budget row total =
    done_counted (λ (a : PowerUp). a.flash) (λ (a : PowerUp). a.count) g f row total (λ n p. idle (refusal (numbered n p)) f) (power_up check g f budget) (operations_of check g f budget)
    (λ n p. refl) (λ n p. refl) (ruled_out.performed check g f budget) (ruled_out.counted check g f budget) (check_counted g f row total)
    (λ e. ((taken g f row total e).long, of_power_up (SlotsBelow g) tt check g f budget (λ s job. run_below g s.limits job budget 0 f)))

-- arm: both operations or none
arm_performed : (g : Geometry) (f : Flash) (a : Answer (Unit {0})) → let r = command g arm_operations a f in
    (r.flash ≡ perform_all g (arm_done r.answer) f) × (count_of r.answer ≡ length (arm_done r.answer))
arm_performed g f (gives t) = (refl, refl)
arm_performed g f (refused n p) = (refl, refl)

arm_below : (g : Geometry) → Limits g → (a : Answer ℕ) → SlotsBelow g (arm_done a)
arm_below g G (gives n) = (omega (arith, sectors_are g G), (tt, tt))
arm_below g G (refused n p) = tt

pub arm_counts : ArmCounts
unfolding counted_arm arm_command
arm_counts g f row total =
    let p = arm_performed g f (checked g f may_arm) in
    done_counted (λ (a : Command). a.flash) (λ (a : Command). count_of a.answer) g f row total (λ n p. record { answer = refused n p; flash = f }) (arm_command g f) (arm_done (arm_command g f).answer)
    (λ n p. refl) (λ n p. refl) p.0 p.1 (check_counted g f row total)
    (λ e. let t = taken g f row total e in (t.long, arm_below g (shaped_of g f t.fit).limits (arm_command g f).answer))

-- ---- 32 bits

-- a row after m erases of each place at most
pub stays : (g : Geometry) (os : List Operation) (row : List ℕ) → ((k : ℕ) → erases_at g k os ≤ firmware g)
    → RoomForM g row → Within32 (raised g os row)
stays g os row few room k = by (dec_lt k (length row))
  where
    by : Dec (k < length row) → get_or (raised g os row) k 0 ≤ 4294967295
    by (yes b) = omega (arith, raised_place g os row k b, few k, room k b)
    by (no b) = let l = length_raised g os row in omega (arith, get_or-eq_default (raised g os row) 0 {n = k} (omega (arith, l)))

pub arm_few : (g : Geometry) → Limits g → (a : Answer ℕ) (k : ℕ) → erases_at g k (arm_done a) ≤ firmware g
arm_few g G (gives n) k = omega (arith, place_once g G k Update (firmware g), some_firmware g G)
arm_few g G (refused n p) k = omega arith

within_counted : {A : Type 0} (g : Geometry) (f : Flash) (row : List ℕ) (total : ℕ) (refuse : ℕ → ℕ → A) (did : A) (os : List Operation)
    → (Taken g f row total → (k : ℕ) → erases_at g k os ≤ firmware g) → Within32 row → (c : Answer (Unit {0})) → check_counted g f row total ≡ c
    → Within32 (counted c refuse did g os row total).row
within_counted g f row total refuse did os few w (gives t) e = let k = taken g f row total e in stays g os row (few k) k.room
within_counted g f row total refuse did os few w (refused n p) e = w

pub stays_within_32 : StaysWithin32
unfolding counted_power_up counted_arm
stays_within_32 = record {
  power_up = λ check g f budget row total w. within_counted g f row total (λ n p. idle (refusal (numbered n p)) f) (power_up check g f budget) (operations_of check g f budget)
      (λ t k. no_place_more_than_m check g f budget k) w (check_counted g f row total) refl;
  arm = λ g f row total w. within_counted g f row total (λ n p. record { answer = refused n p; flash = f }) (arm_command g f) (arm_done (arm_command g f).answer)
      (λ t k. arm_few g (shaped_of g f t.fit).limits (arm_command g f).answer k) w (check_counted g f row total) refl;
}
