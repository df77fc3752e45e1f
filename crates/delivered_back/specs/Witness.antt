-- There and back is not empty: the calls are there for every list that the rules allow; and from version 8, armed over version 7, two halves
-- with a refused power-up and a loss of power in each.
use Rattle.std.specs.Prelude.{◌≡◌, List, ◌++◌, map, ℕ, ◌≤◌, length, sum}
use Rattle.flash.specs.declared.Geometry.{Geometry}
use Rattle.flash.specs.Buffers.{Flash}
use Rattle.exchange.specs.LostPower.{Torn}
use Rattle.exchange.specs.Along.{state_after}
use Rattle.exchange.specs.Demand.{update, Starts, Event, left, flash_after, completed, early_ends}
use Rattle.exchange.specs.Cases.{three, UpdateReady}
use Rattle.exchange.specs.Reached.{rough_list}
use Rattle.image.specs.Verdict.{check_of}
use Rattle.there_and_back.specs.Journey.{GivenBack, most_there_and_back, AllowedThrough}
use Rattle.delivered.specs.Demand.{CallEvent, seen}
use Rattle.delivered.specs.Witness.{armed, ruled, Called}
use Rattle.delivered.specs.PastFinish.{once_more}
use Rattle.counts.specs.Row.{row_length}
use Rattle.delivered_counts.specs.Demand.{CountedEvent, Found, found_after}
use Rattle.delivered_counts.specs.Witness as ofCounts
use Rattle.delivered_counts.specs.Witness.{CountedCalled, RoomFor, fresh}
use Rattle.delivered_back.specs.ThereAndBack.{CallHalves, CallsThrough, CountedHalves, CountedThrough}

-- For each list that the rules allow from an accepted update, through the finishes and at rest too, there are calls that meet the contract.
abbrev pub EveryListThrough : Type 0
EveryListThrough =
    (g : Geometry) (f : Flash) → Starts check_of update g f → (es : List Event) → AllowedThrough check_of g f es → Called (CallsThrough g f) f es

-- And counted calls, as long as the counts have room.
abbrev pub EveryListCountedThrough : Type 0
EveryListCountedThrough =
    (g : Geometry) (s : Found) → Starts check_of update g s.flash → length s.row ≡ row_length g → s.total ≡ sum s.row → (es : List Event)
    → RoomFor g (length es) s.row → AllowedThrough check_of g s.flash es → CountedCalled (CountedThrough g s) s es

-- The two halves as calls: each is a power-up that is refused, one that loses power with its copy to SWAP torn, and one that comes to the finish. At
-- the end every firmware sector is as it was.
pub record CallsBack (t : Torn) (budget : ℕ) : Type 0 where
  pub there : List CallEvent
  pub back : List CallEvent
  pub are_there : map ruled there ≡ rough_list three t budget
  pub are_back : map ruled back ≡ rough_list three t budget
  pub halves : CallHalves three armed there back
  pub as_before : GivenBack three armed (flash_after seen armed (there ++ back))

-- The same of counted calls, from a row of zeros.
pub record CountedCallsBack (t : Torn) (budget : ℕ) : Type 0 where
  pub there : List CountedEvent
  pub back : List CountedEvent
  pub are_there : map ofCounts.ruled there ≡ rough_list three t budget
  pub are_back : map ofCounts.ruled back ≡ rough_list three t budget
  pub halves : CountedHalves three (fresh armed) there back
  pub as_before : GivenBack three armed (state_after found_after (fresh armed) (there ++ back)).flash

-- For all torn bytes and every budget that is enough.
pub record BackMet : Type 0 where
  pub starts : Starts check_of update three armed
  pub calls : (t : Torn) → length t.bytes ≡ 256 → (budget : ℕ) → 23 ≤ budget → CallsBack t budget
  pub counted : (t : Torn) → length t.bytes ≡ 256 → (budget : ℕ) → 23 ≤ budget → CountedCallsBack t budget

-- The bound is reached, with m = 2 and nothing to disturb it: an update and a fallback take 40 operations. `delivered/PastFinishMet` has such
-- a flash, and `there_and_back/Played` what early ends add.
pub record BoundReachedBack : Type 0 where
  pub takes : (f : Flash) → UpdateReady check_of f → completed (left check_of) f once_more ≡ most_there_and_back 2
  pub undisturbed : (f : Flash) → UpdateReady check_of f → early_ends (left check_of) f once_more ≡ 0
