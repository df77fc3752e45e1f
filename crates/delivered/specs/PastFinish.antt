-- Why demand 3's lists stop at the finish, with three sectors of 256: the power-up after it is a new job, here the fallback, and with its
-- operations the list would break demand 3's bound.
use Rattle.std.specs.Prelude.{◌≡◌, List, [], ◌∷◌, ◌+◌, ◌*◌, ◌<◌}
use Rattle.flash.specs.Buffers.{Flash}
use Rattle.exchange.specs.Demand.{update, fallback, untorn, Event, left, completed, early_ends, most}
use Rattle.exchange.specs.Cases.{three, UpdateReady, FallbackReady}
use Rattle.image.specs.Verdict.{check_of}
use Rattle.delivered.specs.Witness.{armed}

-- An update that comes to its finish, and a power-up more.
abbrev pub once_more : List Event
once_more = untorn three 21 ∷ untorn three 100 ∷ []

abbrev pub PastFinish : Type 0
PastFinish = (f : Flash) → UpdateReady check_of f → most update 2 + 2 * early_ends (left check_of) f once_more < completed (left check_of) f once_more

-- The bound is reached, so it could not be smaller: case 3 of document 01, a power-up that is cut after 5 operations and one with enough, takes
-- 21 + 2 with one early end; and a fallback takes 19.
abbrev pub five_then_all : List Event
five_then_all = untorn three 5 ∷ untorn three 100 ∷ []

pub record BoundReached : Type 0 where
  pub of_update : (f : Flash) → UpdateReady check_of f
      → completed (left check_of) f five_then_all ≡ most update 2 + 2 * early_ends (left check_of) f five_then_all
  pub one_end : (f : Flash) → UpdateReady check_of f → early_ends (left check_of) f five_then_all ≡ 1
  pub of_fallback : (f : Flash) → FallbackReady check_of f → completed (left check_of) f (untorn three 100 ∷ []) ≡ most fallback 2

-- There is such an update: version 8 over version 7.
abbrev pub PastFinishMet : Type 0
PastFinishMet = UpdateReady check_of armed
