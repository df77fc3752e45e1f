-- Document 01, "Power-up": the one operation that is next, found by reading the status bytes and the flags.
use Rattle.std.specs.Prelude.{List, [], ◌∷◌, ℕ, zero, suc, Option, Some, None}
use Rattle.numbers.specs.Answer.{Answer, gives, refused}
use Rattle.exchange.specs.Base.{Geometry, BootStatus, BootNew, Testing, Success, UpdateStatus, UpdateNew, Updating, Flags, Malformed, AllF, At, All0, UpdateToSwap}
use Rattle.exchange.specs.Base.{sector_number, Flash, boot_status_at, update_status_at, flags_at}
use Rattle.exchange.specs.declared.Operation.{Operation}
use Rattle.exchange.specs.declared.Operation.TheVariants.{EraseBootTrailer, EraseUpdateTrailer, WriteBootStatus}
use Rattle.exchange.specs.declared.Job.{Job}
use Rattle.exchange.specs.declared.Job.TheVariants.{Update, Fallback, TurnDown}
use Rattle.exchange.specs.Operations.{leg_operation, phase_after, perform}

-- When all flags of an update are 0: what BOOT's status shows as done is not repeated.
abbrev pub closing : BootStatus → Operation
closing Success = EraseBootTrailer
closing BootNew = WriteBootStatus Testing
closing Testing = EraseUpdateTrailer

-- The leg of the first sector whose flag is not 0, at a phase (0, 1, 2) of the leg; `last` when all flags are 0.
abbrev pub exchange_next : ℕ → Flags → Operation → Option Operation
exchange_next p AllF last = Some (leg_operation UpdateToSwap p (sector_number 0))
exchange_next p (At i leg) last = Some (leg_operation leg p i)
exchange_next p All0 last = Some last
exchange_next p Malformed last = None

-- An update and a turning down are done once UPDATE is NEW, a fallback once BOOT is not TESTING.
abbrev pub ordered : Job → ℕ → BootStatus → UpdateStatus → Flags → Option Operation
ordered Update p b Updating flags = exchange_next p flags (closing b)
ordered Update p b UpdateNew flags = None
ordered Fallback p Testing u flags = exchange_next p flags (WriteBootStatus Success)
ordered Fallback p BootNew u flags = None
ordered Fallback p Success u flags = None
ordered TurnDown p b Updating flags = Some EraseUpdateTrailer
ordered TurnDown p b UpdateNew flags = None

-- A status byte that is not allowed orders nothing.
abbrev pub ordered_by : Job → ℕ → Answer BootStatus → Answer UpdateStatus → Flags → Option Operation
ordered_by job p (gives b) (gives u) flags = ordered job p b u flags
ordered_by job p (gives b) (refused n q) flags = None
ordered_by job p (refused n q) u flags = None

-- The next operation, by the bytes of BOOT and UPDATE alone: nothing is remembered but the phase of the leg.
abbrev pub next_by : Job → Geometry → ℕ → List ℕ → List ℕ → Option Operation
next_by job g p boot update = ordered_by job p (boot_status_at g boot) (update_status_at g update) (flags_at g update)

unfoldable pub next_operation : Job → Geometry → ℕ → Flash → Option Operation
next_operation job g p f = next_by job g p f.boot f.update

-- The single step: the next operation, if there is one, is done. It is the only way in which a power-up changes the flash.
pub record Step : Type 0 where
  pub next : Option Operation
  pub flash : Flash

abbrev pub perform_next : Geometry → Option Operation → Flash → Flash
perform_next g None f = f
perform_next g (Some o) f = perform g o f

unfoldable pub step : Job → Geometry → ℕ → Flash → Step
step job g p f = record { next = next_operation job g p f; flash = perform_next g (next_operation job g p f) f }

-- The step repeated, at most k times, from a phase of a leg, until it finds nothing to do: how many operations were done, the
-- phase and the flash after them.
pub record Run : Type 0 where
  pub count : ℕ
  pub phase : ℕ
  pub flash : Flash

abbrev pub stopped : ℕ → Flash → Run
stopped p f = record { count = 0; phase = p; flash = f }

abbrev pub one_more : Run → Run
one_more r = record { count = suc r.count; phase = r.phase; flash = r.flash }

unfoldable pub run : Job → Geometry → ℕ → ℕ → Flash → Run
run job g zero p f = stopped p f
run job g (suc k) p f =
    let s : Step = step job g p f in elim s.next [ None ↦ stopped p f | Some o ↦ one_more (run job g k (phase_after o) s.flash) ]

-- The operations that such a run does, in their order.
unfoldable pub operations : Job → Geometry → ℕ → ℕ → Flash → List Operation
operations job g zero p f = []
operations job g (suc k) p f =
    let s : Step = step job g p f in elim s.next [ None ↦ [] | Some o ↦ o ∷ operations job g k (phase_after o) s.flash ]
