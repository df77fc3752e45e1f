-- Demand 3 and the marked cases, of the delivered check. Assumes nothing.
use mathlib.Core.Path.{◌≡◌, ap, subst}
use mathlib.Core.List.{map}
use Prim.Native.Nat.{◌≤◌}
use Rattle.flash.specs.declared.Geometry.{Geometry}
use Rattle.flash.specs.Sizes.{geometry}
use Rattle.flash.specs.Buffers.{Flash}
use Rattle.exchange.specs.PowerUp.{PowerUp, next_after}
use Rattle.exchange.specs.LostPower.{tear_next}
use Rattle.exchange.specs.Demand.{Exchange, Finished, ReadsFirmware, left_untorn, left_lost, left, EndsAsAllowed}
use Rattle.exchange.specs.Cases.{exchange_cases, three}
use Rattle.exchange.proofs.Along.{same_allowed}
use Rattle.exchange.proofs.Seen.{at, safe_seen}
use Rattle.exchange.proofs.Whole.{demand_3_ongoing, starts_ongoing}
use Rattle.exchange.proofs.Cases.{marked_exchange}
use Rattle.numbers.proofs.Every.{every_map, every_append}
use Rattle.header_round_trips.specs.Cases.{header_cases}
use Rattle.header_round_trips.proofs.Marked.{header_cases_lem}
use Rattle.image.specs.Verdict.{check_of}
use Rattle.image.proofs.Verdicts.{check_reads_firmware}
use Rattle.delivered.specs.Demand.{CallEvent, kept_power, cut_off, Happens, seen, Demand3, Demand3Ongoing}
use Rattle.delivered.specs.Witness.{ruled}
use Rattle.delivered.specs.MarkedCases.{of_exchange, of_header, MarkedCaseHolds, MarkedCases}

-- the delivered check reads the firmware sectors and nothing else
pub reads_firmware : (g : Geometry) → ReadsFirmware check_of g
reads_firmware g l l' e e' same = check_reads_firmware g l l' same

-- what the calls gave is what the rules have
pub happened : (g : Geometry) (f : Flash) (e : CallEvent) → Happens g f e → (seen f e ≡ left check_of f (ruled e)) × EndsAsAllowed check_of g f (ruled e)
unfolding left
happened g f (kept_power n s budget whole) h = (ap (left_untorn (geometry n s) budget) h, tt)
happened g f (cut_off n s budget whole k part t) h = (
  ap (λ (a : PowerUp). left_lost k (tear_next (geometry n s) t (next_after check_of (geometry n s) f k) a.flash)) h.1,
  (subst (λ (a : PowerUp). k ≤ a.count) h.0 h.2, h.3),
)

pub as_ruled : (x : Exchange) (g : Geometry) (f : Flash) (e : CallEvent) → (¬ Finished x g f) × Happens g f e
    → (seen f e ≡ left check_of f (ruled e)) × ((¬ Finished x g f) × EndsAsAllowed check_of g f (ruled e))
as_ruled x g f e h = let r = happened g f e h.1 in (r.0, (h.0, r.1))

pub demand_3_ongoing_delivered : Demand3Ongoing
demand_3_ongoing_delivered x g old f a ongoing es allowed =
    let r = same_allowed at seen (left check_of) ruled (λ before e. (¬ Finished x g before) × Happens g before e)
    (λ before e. (¬ Finished x g before) × EndsAsAllowed check_of g before e) (as_ruled x g) es f allowed in
    safe_seen check_of seen ruled x g old f a es r.0 (demand_3_ongoing check_of x g old f a (reads_firmware g) ongoing (map ruled es) r.1)

pub demand_3_delivered : Demand3
demand_3_delivered x g f starts es allowed = demand_3_ongoing_delivered x g f f 0 (starts_ongoing check_of x g f starts) es allowed

pub marked_cases_lem : MarkedCases
marked_cases_lem =
    every_append MarkedCaseHolds (map of_exchange exchange_cases) (map of_header header_cases)
    (every_map of_exchange MarkedCaseHolds exchange_cases (marked_exchange check_of (reads_firmware three)))
    (every_map of_header MarkedCaseHolds header_cases header_cases_lem)
