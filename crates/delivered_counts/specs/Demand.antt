-- Document 02, "Erase counts for the service sheet": demand 3 of the counted power-up. Its lists are made of calls of `power_up_counted` that gave what the contract says (`CountedDelivers`): of
-- an answer, bytes and a row, as a caller gets them. Flash, row and total go from one call to the next.
use Rattle.std.specs.Prelude.{◌≡◌, ◌≢◌, List, ℕ, ◌+◌, ◌≤◌, ◌<◌, length, get_or, sum}
use Rattle.numbers.specs.Answer.{numbered}
use Rattle.flash.specs.declared.Geometry.{Geometry}
use Rattle.flash.specs.Sizes.{geometry}
use Rattle.flash.specs.Buffers.{Flash}
use Rattle.exchange.specs.declared.Operation.{Operation}
use Rattle.exchange.specs.Operations.{perform_all}
use Rattle.exchange.specs.PowerUp.{refusal, operations_of, next_after}
use Rattle.exchange.specs.LostPower.{Torn, tear_next}
use Rattle.exchange.specs.Along.{state_after, Along, summed}
use Rattle.exchange.specs.Demand.{Exchange, Finished, Starts, Ongoing, Left, left_untorn, left_lost, flash_left, flash_after, Safe}
use Rattle.image.specs.Verdict.{check_of}
use Rattle.counts.specs.Row.{row_length}
use Rattle.counts.specs.Claims.{erases_at}
use Rattle.counts_power_up.specs.declared.CountedAnswer.{CountedAnswer}
use Rattle.counts_power_up.specs.Delivered.{counted_outcome_of, own_part, CountedDelivers}

-- What a call gave: its answer, and the flash and the row that it left.
pub record CountedGave : Type 0 where
  pub answer : CountedAnswer
  pub flash : Flash
  pub row : List ℕ

-- What a call was handed beside the flash: its own numbers of sectors and of bytes, which may be wrong, its own budget, the row and the total.
pub record Handed : Type 0 where
  pub sectors : ℕ
  pub size : ℕ
  pub budget : ℕ
  pub row : List ℕ
  pub total : ℕ

abbrev pub asked_geometry : Handed → Geometry
asked_geometry h = geometry h.sectors h.size

-- The same with another budget.
abbrev pub with_budget : Handed → ℕ → Handed
with_budget h k = record { sectors = h.sectors; size = h.size; budget = k; row = h.row; total = h.total }

-- A power-up of the list.
pub data CountedEvent : Type 0 where
  -- it kept its power, and the call gave this
  kept_power : Handed → CountedGave → CountedEvent
  -- it lost power after k operations: what the call gives with its budget; what the same call gives with the budget k; how the next
  -- operation is torn
  cut_off : Handed → CountedGave → (k : ℕ) → CountedGave → Torn → CountedEvent

abbrev pub handed : CountedEvent → Handed
handed (kept_power h whole) = h
handed (cut_off h whole k part t) = h

-- A call on the flash f gave what the contract says, and met neither 19 nor 20.
pub record Gives (f : Flash) (h : Handed) (r : CountedGave) : Type 0 where
  pub delivers : CountedDelivers h.sectors h.size f h.budget h.row h.total r.answer r.flash r.row
  pub not19 : counted_outcome_of r.answer.outcome ≢ refusal (numbered 19 0)
  pub not20 : counted_outcome_of r.answer.outcome ≢ refusal (numbered 20 0)

-- Power fails after no more operations than the call counts within its budget, so after none if it is refused; torn bytes fill a sector.
abbrev pub Happens : Geometry → Flash → CountedEvent → Type 0
Happens g f (kept_power h whole) = Gives f h whole
Happens g f (cut_off h whole k part t) =
    (Gives f h whole) × (Gives f (with_budget h k) part) × (k ≤ whole.answer.count) × (length t.bytes ≡ g.size)

-- ---- what is left

-- What is seen of the flash: the answer and the bytes that the call gave; or, after a loss of power, the bytes that the same call gave with
-- the budget k, its next operation torn.
abbrev pub counted_seen : Flash → CountedEvent → Left
counted_seen f (kept_power h whole) = left_untorn (asked_geometry h) h.budget (own_part whole.answer whole.flash)
counted_seen f (cut_off h whole k part t) = left_lost k (tear_next (asked_geometry h) t (next_after check_of (asked_geometry h) f k) part.flash)

-- The row that is left, and the total that is handed in next. After a loss of power the row is the one that the same call gave with the
-- budget k, which counts the k completed operations and no other; and the total handed in next is its sum.
abbrev pub row_left : CountedEvent → List ℕ
row_left (kept_power h whole) = whole.row
row_left (cut_off h whole k part t) = part.row

abbrev pub total_left : CountedEvent → ℕ
total_left (kept_power h whole) = whole.answer.total
total_left (cut_off h whole k part t) = sum part.row

-- What the next call finds and is handed.
pub record Found : Type 0 where
  pub flash : Flash
  pub row : List ℕ
  pub total : ℕ

abbrev pub found_after : Found → CountedEvent → Found
found_after s e = record { flash = flash_left counted_seen s.flash e; row = row_left e; total = total_left e }

-- With row and total as 02 has it, a call is handed the row and the total, and finds the flash, that the last one left.
pub record HandedOn (g : Geometry) (s : Found) (e : CountedEvent) : Type 0 where
  pub same_row : (handed e).row ≡ s.row
  pub same_total : (handed e).total ≡ s.total
  pub happens : Happens g s.flash e

-- The lists that 01 allows from there: none of the calls comes after the finish.
abbrev pub AllowedCounted : Exchange → Geometry → Found → List CountedEvent → Type 0
AllowedCounted x g s es = Along found_after (λ before e after. (¬ Finished x g before.flash) × HandedOn g before e) s es

-- ---- what is claimed

-- The operations completed in a power-up: those of the call with its budget, or the first k of them.
abbrev pub completed_in : Found → CountedEvent → List Operation
completed_in s (kept_power h whole) = operations_of check_of (asked_geometry h) s.flash h.budget
completed_in s (cut_off h whole k part t) = operations_of check_of (asked_geometry h) s.flash k

-- They are as many as demand 3's bound counts, and they leave the bytes that the call gave, before the operation that was torn.
abbrev pub flash_given : CountedEvent → Flash
flash_given (kept_power h whole) = whole.flash
flash_given (cut_off h whole k part t) = part.flash

pub record Completed (s : Found) (e : CountedEvent) : Type 0 where
  pub number : length (completed_in s e) ≡ (counted_seen s.flash e).done
  pub leave : flash_given e ≡ perform_all (asked_geometry (handed e)) (completed_in s e) s.flash

-- The completed erases of the sector of place p, over a list.
abbrev pub erases_since : Geometry → ℕ → Found → List CountedEvent → ℕ
erases_since g p s es = summed found_after (λ before e. erases_at g p (completed_in before e)) s es

-- What row and total come to, over any list of calls from there.
pub record RowKept (g : Geometry) (s : Found) (es : List CountedEvent) : Type 0 where
  -- the flash that the list leaves is the one that is seen of it
  pub same_flash : (state_after found_after s es).flash ≡ flash_after counted_seen s.flash es
  -- the row: that at the start and the completed erases since, place by place
  pub same_length : length (state_after found_after s es).row ≡ row_length g
  pub place_by_place : (p : ℕ) → p < row_length g → get_or (state_after found_after s es).row p 0 ≡ get_or s.row p 0 + erases_since g p s es
  -- of each power-up: what is completed here is as much as demand 3's bound counts, and has left the bytes
  pub completed_are : Along found_after (λ before e after. Completed before e) s es
  -- the total that is handed in next: the row's sum, if it was at the start
  pub total : s.total ≡ sum s.row → (state_after found_after s es).total ≡ sum (state_after found_after s es).row

-- All that is claimed of a list, as one claim. The exchange of what `old` holds stands a moves along where the list starts.
pub record SafeCounted (x : Exchange) (g : Geometry) (old : Flash) (a : ℕ) (s : Found) (es : List CountedEvent) : Type 0 where
  -- the flash's part: all of demand 3, as without a row
  pub flash : Safe check_of counted_seen x g old s.flash a es
  pub counts : RowKept g s es

-- Demand 3 while neither 19 nor 20 is met: from every start, with a row that has the geometry's length, every such list is safe.
abbrev pub CountedDemand3 : Type 0
CountedDemand3 =
    (x : Exchange) (g : Geometry) (s : Found) → Starts check_of x g s.flash → length s.row ≡ row_length g → (es : List CountedEvent)
    → AllowedCounted x g s es → SafeCounted x g s.flash 0 s es

-- The same of an exchange that is under way, a moves along.
abbrev pub CountedDemand3Ongoing : Type 0
CountedDemand3Ongoing =
    (x : Exchange) (g : Geometry) (old : Flash) (a : ℕ) (s : Found) → Ongoing check_of x g old s.flash a → length s.row ≡ row_length g
    → (es : List CountedEvent) → AllowedCounted x g s es → SafeCounted x g old a s es
