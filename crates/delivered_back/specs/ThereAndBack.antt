-- Document 02, "There and back", of the delivered calls: of an answer and bytes, as a caller gets them, where each call gave what its contract
-- says. The only premises are an accepted update and what document 01 allows in a list; of the counted calls also that the row has the
-- geometry's length, and that neither 19 nor 20 is met.
use Rattle.std.specs.Prelude.{◌≡◌, List, ◌++◌, ◌+◌, ◌*◌, ◌≤◌, length}
use Rattle.flash.specs.declared.Geometry.{Geometry}
use Rattle.flash.specs.Sizes.{firmware}
use Rattle.flash.specs.Buffers.{Flash}
use Rattle.exchange.specs.Along.{state_after, Along}
use Rattle.exchange.specs.Demand.{update, Finished, Starts, flash_left, flash_after, completed, early_ends}
use Rattle.image.specs.Verdict.{check_of}
use Rattle.there_and_back.specs.Journey.{GivenBack, Halfway, most_there_and_back, Journey, Halves}
use Rattle.delivered.specs.Demand.{CallEvent, Happens, seen, AllowedCalls}
use Rattle.counts.specs.Row.{row_length}
use Rattle.delivered_counts.specs.Demand.{CountedEvent, counted_seen, Found, found_after, HandedOn, AllowedCounted, RowKept}

-- ---- of `power_up`

-- The update's calls to its finish, then the fallback's to its finish.
abbrev pub CallHalves : Geometry → Flash → List CallEvent → List CallEvent → Type 0
CallHalves g f there back = Halves (flash_left seen) (λ y. y) (λ x y es. AllowedCalls x g y es) g f there back

-- Lists that may go on after a finish: each power-up finds what the last one left.
abbrev pub CallsThrough : Geometry → Flash → List CallEvent → Type 0
CallsThrough g f es = Along (flash_left seen) (λ before e after. Happens g before e) f es

pub record ThereAndBack (g : Geometry) (f : Flash) : Type 0 where
  -- the line for the release sheet: all firmware sectors of BOOT and of UPDATE are as they were before
  pub line : (there back : List CallEvent) → CallHalves g f there back → GivenBack g f (flash_after seen f (there ++ back))
  -- where the first half is at its finish the second starts, as a fallback whose UPDATE is good
  pub halfway : (there : List CallEvent) → AllowedCalls update g f there → Finished update g (flash_after seen f there)
      → Halfway check_of g f (flash_after seen f there)
  -- the power-ups of the two halves are one list, with at most 18m + 4 + 2c operations
  pub one_list : (there back : List CallEvent) → CallHalves g f there back → CallsThrough g f (there ++ back)
  pub bounded : (there back : List CallEvent) → CallHalves g f there back
      → completed seen f (there ++ back) ≤ most_there_and_back (firmware g) + 2 * early_ends seen f (there ++ back)
  -- and no list, however long, ends elsewhere than in one of the two jobs, at a finish or at rest
  pub journey : (es : List CallEvent) → CallsThrough g f es → Journey check_of seen g f es

-- For every accepted update.
abbrev pub EveryUpdateBack : Type 0
EveryUpdateBack = (g : Geometry) (f : Flash) → Starts check_of update g f → ThereAndBack g f

-- ---- of `power_up_counted`, while neither 19 nor 20 is met: flash, row and total go from call to call

abbrev pub CountedHalves : Geometry → Found → List CountedEvent → List CountedEvent → Type 0
CountedHalves g s there back = Halves found_after (λ t. t.flash) (λ x t es. AllowedCounted x g t es) g s there back

abbrev pub CountedThrough : Geometry → Found → List CountedEvent → Type 0
CountedThrough g s es = Along found_after (λ before e after. HandedOn g before e) s es

-- The flash's part, as without a row; and what row and total come to.
pub record CountedJourney (g : Geometry) (s : Found) (es : List CountedEvent) : Type 0 where
  pub flash : Journey check_of counted_seen g s.flash es
  pub counts : RowKept g s es

pub record CountedThereAndBack (g : Geometry) (s : Found) : Type 0 where
  pub line : (there back : List CountedEvent) → CountedHalves g s there back → GivenBack g s.flash (state_after found_after s (there ++ back)).flash
  pub halfway : (there : List CountedEvent) → AllowedCounted update g s there → Finished update g (state_after found_after s there).flash
      → Halfway check_of g s.flash (state_after found_after s there).flash
  pub one_list : (there back : List CountedEvent) → CountedHalves g s there back → CountedThrough g s (there ++ back)
  pub bounded : (there back : List CountedEvent) → CountedHalves g s there back
      → completed counted_seen s.flash (there ++ back) ≤ most_there_and_back (firmware g) + 2 * early_ends counted_seen s.flash (there ++ back)
  pub journey : (es : List CountedEvent) → CountedThrough g s es → CountedJourney g s es

-- For every accepted update, with a row that has the geometry's length.
abbrev pub EveryUpdateCountedBack : Type 0
EveryUpdateCountedBack =
    (g : Geometry) (s : Found) → Starts check_of update g s.flash → length s.row ≡ row_length g → CountedThereAndBack g s
