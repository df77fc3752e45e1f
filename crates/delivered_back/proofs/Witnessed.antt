-- Two halves as calls, from version 8 armed over version 7; and the bound is reached.
use mathlib.Core.Path.{◌≡◌, refl, sym, ap, ◌∙◌, subst}
use Prim.Native.Nat.{ℕ, ◌+◌, ◌*◌, ◌≤◌}
use native.Mathlib.Omega.{arith}
use lib.ListN.{length, length-map, get_or-replicate}
use Rattle.std.specs.Prelude.{sum}
use Rattle.flash.specs.Sizes.{firmware}
use Rattle.flash.specs.Buffers.{Flash}
use Rattle.exchange.specs.LostPower.{Torn}
use Rattle.exchange.specs.Along.{state_after}
use Rattle.exchange.specs.Demand.{Exchange, update, fallback, Finished, Starts, flash_after, most}
use Rattle.exchange.specs.Cases.{three}
use Rattle.exchange.specs.Reached.{rough_list, Reached}
use Rattle.exchange.proofs.Whole.{starts_ongoing}
use Rattle.exchange.proofs.Reached.{finish_reached}
use Rattle.image.specs.Verdict.{check_of}
use Rattle.delivered.specs.Demand.{seen, AllowedCalls}
use Rattle.delivered.specs.Witness.{armed, Called}
use Rattle.delivered.proofs.Delivered.{reads_firmware}
use Rattle.delivered.proofs.Called.{Goes, goes_on, every_list_called}
use Rattle.delivered.proofs.PastFinish.{all_done, none_early}
use Rattle.delivered.proofs.Started.{witnesses}
use Rattle.delivered_counts.specs.Demand.{Found, found_after, AllowedCounted, erases_since, RowKept}
use Rattle.delivered_counts.specs.Witness as ofCounts
use Rattle.delivered_counts.specs.Witness.{CountedCalled, RoomFor, fresh}
use Rattle.delivered_counts.proofs.Lists.{read}
use Rattle.delivered_counts.proofs.Called.{every_list_counted}
use Rattle.delivered_back.specs.ThereAndBack.{CallHalves, CountedHalves}
use Rattle.delivered_back.specs.Witness.{CallsBack, CountedCallsBack, BackMet, BoundReachedBack}
use Rattle.delivered_back.proofs.Calls.{halfway, every_update_back}
use Rattle.delivered_back.proofs.Counted as counted
use Rattle.delivered_back.proofs.Counted.{every_update_counted_back}

armed_starts : Starts check_of update three armed
armed_starts = witnesses.of_update.starts

module _ (t : Torn) (len : length t.bytes ≡ 256) (budget : ℕ) (le : 23 ≤ budget) where
  -- the rough list from a start: it is called, and comes to the finish
  record Half (x : Exchange) (f : Flash) : Type 0 where
    called : Called (AllowedCalls x three f) f (rough_list three t budget)
    finished : Finished x three (flash_after seen f called.calls)

  rough : (x : Exchange) (f : Flash) → Starts check_of x three f → most x 2 + 2 ≤ budget → Half x f
  unfolding firmware
  rough x f s enough =
      let r : Reached check_of x three f t budget = finish_reached check_of x three f (reads_firmware three) s t len budget enough in
      let c = every_list_called x three f f 0 (starts_ongoing check_of x three f s) (rough_list three t budget) r.allowed in
      record { called = c; finished = subst (λ (y : Flash). Finished x three y) (sym c.leaves) r.finished }

  calls_back : CallsBack t budget
  calls_back =
      let a : Half update armed = rough update armed armed_starts (omega arith) in
      let b : Half fallback (flash_after seen armed a.called.calls) = rough fallback (flash_after seen armed a.called.calls)
      (halfway three armed armed_starts a.called.calls a.called.allows a.finished).starts (omega arith) in
      let h : CallHalves three armed a.called.calls b.called.calls
      = record { goes = a.called.allows; updated = a.finished; falls_back = b.called.allows; fallen_back = b.finished } in
      record {
        there = a.called.calls;
        back = b.called.calls;
        are_there = a.called.are;
        are_back = b.called.are;
        halves = h;
        as_before = (every_update_back three armed armed_starts).line a.called.calls b.called.calls h;
      }

  -- ---- the same of counted calls

  record CountedHalf (x : Exchange) (s : Found) : Type 0 where
    called : CountedCalled (AllowedCounted x three s) s (rough_list three t budget)
    finished : Finished x three (state_after found_after s called.calls).flash
    counts : RowKept three s called.calls
    few : (p : ℕ) → erases_since three p s called.calls ≤ 6

  counted_rough : (x : Exchange) (s : Found) → Starts check_of x three s.flash → most x 2 + 2 ≤ budget → length s.row ≡ 7 → s.total ≡ sum s.row
      → RoomFor three 3 s.row → CountedHalf x s
  unfolding firmware
  counted_rough x s starts enough long summed room =
      let o = starts_ongoing check_of x three s.flash starts in
      let r : Reached check_of x three s.flash t budget = finish_reached check_of x three s.flash (reads_firmware three) starts t len budget enough in
      let c = every_list_counted x three s.flash 0 s o long summed (rough_list three t budget) room r.allowed in
      let q = read three (Goes x three s.flash) (λ y. ¬ Finished x three y) (λ y i not. (i not).1.fit) (goes_on x three s.flash) c.calls s (λ not. (0, o)) long c.allows in
      let three_calls : length c.calls ≡ 3 = sym (length-map c.calls ofCounts.ruled) ∙ ap length c.are in
      record {
        called = c;
        finished = subst (λ (y : Flash). Finished x three y) (sym c.leaves) r.finished;
        counts = q.counts;
        few = λ p. subst (λ (n : ℕ). erases_since three p s c.calls ≤ 2 * n) three_calls (q.few p);
      }

  counted_back : CountedCallsBack t budget
  unfolding firmware
  counted_back =
      let a : CountedHalf update (fresh armed) = counted_rough update (fresh armed) armed_starts (omega arith) refl refl
      (λ p b. omega (arith, get_or-replicate {A = ℕ} 7 p 0 0 (omega arith))) in
      let s₁ : Found = state_after found_after (fresh armed) a.called.calls in
      let b : CountedHalf fallback s₁ = counted_rough fallback s₁
      (counted.halfway three (fresh armed) armed_starts refl a.called.calls a.called.allows a.finished).starts (omega arith) a.counts.same_length
      (a.counts.total refl)
      (λ p k. omega (arith, get_or-replicate {A = ℕ} 7 p 0 0 (omega arith), a.counts.place_by_place p k, a.few p)) in
      let h : CountedHalves three (fresh armed) a.called.calls b.called.calls
      = record { goes = a.called.allows; updated = a.finished; falls_back = b.called.allows; fallen_back = b.finished } in
      record {
        there = a.called.calls;
        back = b.called.calls;
        are_there = a.called.are;
        are_back = b.called.are;
        halves = h;
        as_before = (every_update_counted_back three (fresh armed) armed_starts refl).line a.called.calls b.called.calls h;
      }

pub back_met : BackMet
back_met = record { starts = armed_starts; calls = calls_back; counted = counted_back }

pub bound_reached_back : BoundReachedBack
bound_reached_back = record { takes = all_done; undisturbed = none_early }
