-- Document 02, "Erase counts for the service sheet": counted lists are there. For each list of power-ups that the rules allow there are counted calls, as long as the counts have room; and
-- from the two starts of `delivered/Witness` a list with a refused power-up, a torn copy, an early end and the finish.
use Rattle.std.specs.Prelude.{◌≡◌, List, map, ℕ, ◌+◌, ◌*◌, ◌≤◌, ◌<◌, length, get_or, replicate, sum}
use Rattle.flash.specs.declared.Geometry.{Geometry}
use Rattle.flash.specs.Sizes.{firmware}
use Rattle.flash.specs.Buffers.{Flash}
use Rattle.exchange.specs.LostPower.{Torn}
use Rattle.exchange.specs.Along.{state_after}
use Rattle.exchange.specs.Demand.{Exchange, update, fallback, Ongoing, Event, untorn, lost, left, flash_after, Allowed, most}
use Rattle.exchange.specs.Cases.{three}
use Rattle.exchange.specs.Reached.{rough_list}
use Rattle.image.specs.Verdict.{check_of}
use Rattle.delivered.specs.Witness.{armed, on_test}
use Rattle.counts.specs.Row.{row_length}
use Rattle.delivered_counts.specs.Demand.{CountedEvent, kept_power, cut_off, asked_geometry, Found, found_after, AllowedCounted}

-- A counted power-up as the rules have it: the same geometry, budget, loss of power and tear.
abbrev pub ruled : CountedEvent → Event
ruled (kept_power h whole) = untorn (asked_geometry h) h.budget
ruled (cut_off h whole k part t) = lost (asked_geometry h) h.budget k t

-- Counted calls that are allowed: they are the power-ups of the list es, one for one, and leave the flash that the rules have, from s on.
pub record CountedCalled (allowed : List CountedEvent → Type 0) (s : Found) (es : List Event) : Type 0 where
  pub calls : List CountedEvent
  pub are : map ruled calls ≡ es
  pub allows : allowed calls
  pub leaves : (state_after found_after s calls).flash ≡ flash_after (left check_of) s.flash es

-- Room in each count of a row for m erases in each of k power-ups.
abbrev pub RoomFor : Geometry → ℕ → List ℕ → Type 0
RoomFor g k row = (p : ℕ) → p < row_length g → get_or row p 0 + firmware g * k ≤ 4294967295

-- Wherever an exchange is under way, with a row of the right length, its sum as the total, and room in each count for m erases in each
-- power-up: neither 19 nor 20 is met, and the calls are there for every list that the rules allow.
abbrev pub EveryListCounted : Type 0
EveryListCounted =
    (x : Exchange) (g : Geometry) (old : Flash) (a : ℕ) (s : Found) → Ongoing check_of x g old s.flash a → length s.row ≡ row_length g
    → s.total ≡ sum s.row → (es : List Event) → RoomFor g (length es) s.row → Allowed check_of x g s.flash es
    → CountedCalled (AllowedCounted x g s) s es

-- From a start of three sectors, with a row of zeros.
abbrev pub fresh : Flash → Found
fresh f = record { flash = f; row = replicate 7 0; total = 0 }

abbrev pub CountedWitness : Exchange → Flash → Type 0
CountedWitness x f =
    (t : Torn) → length t.bytes ≡ 256 → (budget : ℕ) → most x 2 + 2 ≤ budget
    → CountedCalled (AllowedCounted x three (fresh f)) (fresh f) (rough_list three t budget)

pub record CountedWitnesses : Type 0 where
  pub of_update : CountedWitness update armed
  pub of_fallback : CountedWitness fallback on_test
