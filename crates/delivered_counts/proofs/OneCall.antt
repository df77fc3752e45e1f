-- A counted call that meets neither 19 nor 20, handed a row of the right length: it is power-up, and its row has the erases that were done.
use mathlib.Core.Path.{◌≡◌, refl, sym, ap, ◌∙◌}
use mathlib.Core.Bool.{Bool, true, false}
use mathlib.Core.List.{List, []}
use Prim.Native.Nat.{ℕ, ◌+◌, ◌-◌, ◌≤◌, ◌<◌}
use native.Mathlib.Decide.{ℕ_discrete}
use native.Mathlib.Omega.{arith}
use lib.ListN.{length, get_or, length-take}
use borrow.Author.Tests.{eq-eqb}
use lib.Dec.{ltb}
use Rattle.std.specs.List.{list_any}
use Rattle.std.specs.Prelude.{sum}
use Rattle.numbers.specs.Answer.{gives, refused, numbered}
use Rattle.flash.specs.declared.Geometry.{Geometry}
use Rattle.flash.specs.Sizes.{firmware}
use Rattle.flash.specs.Buffers.{Flash, fits}
use Rattle.flash.proofs.Checked.{shaped_of, same_geometry}
use Rattle.exchange.specs.Operations.{perform_all}
use Rattle.exchange.specs.Decision.{Plan, refuse, plain, work, decide}
use Rattle.exchange.specs.PowerUp.{PowerUp, refusal, idle, power_up, operations_in, operations_of}
use Rattle.exchange.proofs.Runs.{run_count, run_within}
use Rattle.exchange.proofs.RuledOut.{ruled_out}
use Rattle.exchange.proofs.Played.{outside_decided}
use Rattle.image.specs.Verdict.{check_of}
use Rattle.counts.specs.Row.{row_length, raised}
use Rattle.counts.specs.Calls.{Counted, check_counted, counted_power_up}
use Rattle.counts.specs.Claims.{erases_at, RoomForM, hands_back}
use Rattle.counts.proofs.Rows.{length_raised, raised_place}
use Rattle.counts.proofs.Claimed.{where_it_fits, unfit, total_wrong_lem, all_right, no_place_more_than_m}
use Rattle.counts_power_up.specs.Delivered.{counted_outcome_of, own_part, counted_answered}
use Rattle.delivered_counts.specs.Demand.{CountedGave, Handed, asked_geometry, Gives}

-- ---- the operations of a power-up

pub number_done : (g : Geometry) (f : Flash) (budget : ℕ) → length (operations_of check_of g f budget) ≡ (power_up check_of g f budget).count
number_done g f budget = sym (ruled_out.counted check_of g f budget)

pub left_by : (g : Geometry) (f : Flash) (budget : ℕ) → (power_up check_of g f budget).flash ≡ perform_all g (operations_of check_of g f budget) f
left_by g f budget = ruled_out.performed check_of g f budget

within_budget_lem : (g : Geometry) (f : Flash) (budget : ℕ) → length (operations_of check_of g f budget) ≤ budget
unfolding operations_of
within_budget_lem g f budget = by (decide check_of g f)
  where
    by : (plan : Plan) → length (operations_in g f budget plan) ≤ budget
    by (refuse r) = omega arith
    by plain = omega arith
    by (work job why) = omega (arith, run_count job g budget 0 f, run_within job g budget 0 f)

-- as many as the call reaches
pub first_done : (g : Geometry) (f : Flash) (budget k : ℕ) → k ≤ (power_up check_of g f budget).count → length (operations_of check_of g f k) ≡ k
first_done g f budget k h =
    let n = number_done g f budget in
    let w = within_budget_lem g f budget in
    ap length (ruled_out.first_ones check_of g f k budget (omega arith)) ∙ length-take k (operations_of check_of g f budget) ∙ omega arith

-- ---- one call

-- what it gave: power-up's answer and flash, a row of the same length with the erases place by place, and the sum where the sum was handed in
pub record IsPowerUp (g : Geometry) (f : Flash) (h : Handed) (r : CountedGave) : Type 0 where
  pub own : own_part r.answer r.flash ≡ power_up check_of (asked_geometry h) f h.budget
  pub same_length : length r.row ≡ length h.row
  pub places : (p : ℕ) → p < length h.row → get_or r.row p 0 ≡ get_or h.row p 0 + erases_at g p (operations_of check_of (asked_geometry h) f h.budget)
  pub total : h.total ≡ sum h.row → r.answer.total ≡ sum r.row

-- outside the rules power-up does nothing too
module _ (g : Geometry) (f : Flash) (budget : ℕ) (e : fits g f ≡ false) where
  outside_up : idle (refusal (numbered 1 0)) f ≡ power_up check_of g f budget
  outside_up = sym (ruled_out.outside_first check_of g f budget e)

  none_done : operations_of check_of g f budget ≡ []
  unfolding operations_of
  none_done = ap (operations_in g f budget) (outside_decided check_of g f e)

module _ (f : Flash) (h : Handed) (r : CountedGave) (k : Gives f h r) where
  -- the checks of row and total, by what they gave
  handed_back : (n : ℕ) → check_counted (asked_geometry h) f h.row h.total ≡ refused n 0
      → counted_answered r.answer r.flash r.row ≡ hands_back (idle (refusal (numbered n 0)) f) h.row h.total
  unfolding counted_power_up
  handed_back n e = k.delivers ∙ rw e refl

  told : (n : ℕ) → check_counted (asked_geometry h) f h.row h.total ≡ refused n 0 → counted_outcome_of r.answer.outcome ≡ refusal (numbered n 0)
  told n e = ap (λ (c : Counted PowerUp). c.own.outcome) (handed_back n e)

  went_on : check_counted (asked_geometry h) f h.row h.total ≡ gives tt
      → counted_answered r.answer r.flash r.row
      ≡ record {
        own = power_up check_of (asked_geometry h) f h.budget;
        row = raised (asked_geometry h) (operations_of check_of (asked_geometry h) f h.budget) h.row;
        total = sum (raised (asked_geometry h) (operations_of check_of (asked_geometry h) f h.budget) h.row);
      }
  unfolding counted_power_up
  went_on e = k.delivers ∙ rw e refl

  -- a geometry or length that is wrong
  unfit_call : (g : Geometry) → fits (asked_geometry h) f ≡ false → IsPowerUp g f h r
  unfit_call g e =
      let q = handed_back 1 (unfit (asked_geometry h) f h.row h.total e) in
      let row_is : r.row ≡ h.row = ap (λ (c : Counted PowerUp). c.row) q in
      record {
        own = ap (λ (c : Counted PowerUp). c.own) q ∙ outside_up (asked_geometry h) f h.budget e;
        same_length = ap length row_is;
        places = λ p b. rw (row_is, none_done (asked_geometry h) f h.budget e) (omega arith);
        total = λ s. ap (λ (c : Counted PowerUp). c.total) q ∙ s ∙ ap sum (sym row_is);
      }

  -- the checks found nothing wrong
  fit_call : (g : Geometry) → asked_geometry h ≡ g → check_counted (asked_geometry h) f h.row h.total ≡ gives tt → IsPowerUp g f h r
  fit_call g same e =
      let q = went_on e in
      let os = operations_of check_of (asked_geometry h) f h.budget in
      let row_is : r.row ≡ raised (asked_geometry h) os h.row = ap (λ (c : Counted PowerUp). c.row) q in
      record {
        own = ap (λ (c : Counted PowerUp). c.own) q;
        same_length = ap length row_is ∙ length_raised (asked_geometry h) os h.row;
        places = λ p b. ap (λ (l : List ℕ). get_or l p 0) row_is ∙ raised_place (asked_geometry h) os h.row p b
            ∙ ap (λ (x : Geometry). get_or h.row p 0 + erases_at x p os) same;
        total = λ s. ap (λ (c : Counted PowerUp). c.total) q ∙ ap sum (sym row_is);
      }

  pub is_power_up : (g : Geometry) → fits g f ≡ true → length h.row ≡ row_length g → IsPowerUp g f h r
  is_power_up g fit long = by (fits (asked_geometry h) f) refl
    where
      inside : asked_geometry h ≡ g → fits (asked_geometry h) f ≡ true → IsPowerUp g f h r
      inside same e = summed_right (ℕ_discrete (sum h.row) h.total)
        where
          l : length h.row ≡ row_length (asked_geometry h)
          l = long ∙ ap row_length (sym same)

          room : (s : sum h.row ≡ h.total) (b : Bool) → list_any (ltb (4294967295 - firmware (asked_geometry h))) h.row ≡ b → IsPowerUp g f h r
          room s false q =
              fit_call g same
              (where_it_fits (asked_geometry h) f h.row h.total e ∙ rw (eq-eqb (length h.row) (row_length (asked_geometry h)) l, eq-eqb (sum h.row) h.total s, q) refl)
          room s true q =
              absurd (k.not20 (told 20
              (where_it_fits (asked_geometry h) f h.row h.total e ∙ rw (eq-eqb (length h.row) (row_length (asked_geometry h)) l, eq-eqb (sum h.row) h.total s, q) refl)))

          summed_right : Dec (sum h.row ≡ h.total) → IsPowerUp g f h r
          summed_right (yes s) = room s (list_any (ltb (4294967295 - firmware (asked_geometry h))) h.row) refl
          summed_right (no s) = absurd (k.not19 (told 19 (total_wrong_lem (asked_geometry h) f h.row h.total e l s)))

      by : (b : Bool) → fits (asked_geometry h) f ≡ b → IsPowerUp g f h r
      by true e = inside (same_geometry g (asked_geometry h) f (shaped_of g f fit) (shaped_of (asked_geometry h) f e)) e
      by false e = unfit_call g e

-- ---- where nothing is wrong with row and total

-- the counted power-up is power-up, whatever geometry it is asked for
pub own_is : (g g' : Geometry) (f : Flash) (budget : ℕ) (row : List ℕ) (total : ℕ) → fits g f ≡ true → length row ≡ row_length g → sum row ≡ total → RoomForM g row
    → (counted_power_up check_of g' f budget row total).own ≡ power_up check_of g' f budget
unfolding counted_power_up
own_is g g' f budget row total fit long s room = by (fits g' f) refl
  where
    by : (b : Bool) → fits g' f ≡ b → (counted_power_up check_of g' f budget row total).own ≡ power_up check_of g' f budget
    by true e =
        let same : g' ≡ g = same_geometry g g' f (shaped_of g f fit) (shaped_of g' f e) in
        rw (all_right g' f row total e (long ∙ ap row_length (sym same)) s (rw same room)) refl
    by false e = rw (unfit g' f row total e) (outside_up g' f budget e)

-- a place is raised m times at most, whatever geometry is asked for
pub few_erases : (g g' : Geometry) (f : Flash) (budget p : ℕ) → fits g f ≡ true → erases_at g p (operations_of check_of g' f budget) ≤ firmware g
few_erases g g' f budget p fit = by (fits g' f) refl
  where
    by : (b : Bool) → fits g' f ≡ b → erases_at g p (operations_of check_of g' f budget) ≤ firmware g
    by true e =
        let same : g' ≡ g = same_geometry g g' f (shaped_of g f fit) (shaped_of g' f e) in rw same (no_place_more_than_m check_of g f budget p)
    by false e = rw (none_done g' f budget e) (omega arith)
