-- What the rules order, by what UPDATE's flags show: a sector is a firmware sector, and a flag is written at the end of the leg that they show.
use mathlib.Core.Path.{◌≡◌, refl, ◌∙◌}
use mathlib.Core.List.{List}
use Prim.Native.Nat.{ℕ, zero, suc, ◌<◌}
use Rattle.std.specs.Prelude.{Option, Some, None}
use Rattle.numbers.specs.Answer.{Answer, gives, refused}
use Rattle.flash.specs.declared.Geometry.{Geometry}
use Rattle.flash.specs.Sizes.{firmware, Limits}
use Rattle.flash.specs.Sectors.{sector_number}
use Rattle.flash.specs.Buffers.{Flash}
use Rattle.flash.proofs.Checked.{some_firmware}
use Rattle.flash_status.specs.declared.BootStatus.{BootStatus}
use Rattle.flash_status.specs.declared.BootStatus.TheVariants.{New as BootNew, Testing, Success}
use Rattle.flash_status.specs.declared.UpdateStatus.{UpdateStatus}
use Rattle.flash_status.specs.declared.UpdateStatus.TheVariants.{New as UpdateNew, Updating}
use Rattle.flash_flags.specs.declared.Flag.{Flag}
use Rattle.flash_flags.specs.declared.Leg.{Leg}
use Rattle.flash_flags.specs.declared.Leg.TheVariants.{UpdateToSwap}
use Rattle.flash_flags.specs.declared.Flags.{Flags}
use Rattle.flash_flags.specs.declared.Flags.TheVariants.{Malformed, AllF, At, All0}
use Rattle.flash_status.specs.StatusBytes.{boot_status_at, update_status_at}
use Rattle.flash_flags.specs.SectorFlags.{flags_at}
use Rattle.flash_flags.proofs.Shown.{each_at}
use Rattle.flash_flags.proofs.Moves.{at_leg, at_leg_lem}
use Rattle.exchange.specs.declared.Job.{Job}
use Rattle.exchange.specs.declared.Job.TheVariants.{Update, Fallback, TurnDown}
use Rattle.exchange.specs.declared.Operation.{Operation}
use Rattle.exchange.specs.declared.Operation.TheVariants.{Erase, Copy, WriteFlag, EraseBootTrailer, EraseUpdateTrailer, WriteBootStatus, WriteUpdateStatus}
use Rattle.exchange.specs.Operations.{next_flag, leg_operation}
use Rattle.exchange.specs.Order.{closing, exchange_next, ordered, ordered_by, next_operation}

-- a flag write, which ends the leg that the flags show
pub record EndsLeg (g : Geometry) (u : List ℕ) (i : ℕ) (v : Flag) : Type 0 where
  pub leg : Leg
  pub inside : i < firmware g
  pub shows : flags_at g u ≡ at_leg i leg
  pub next : v ≡ next_flag leg

abbrev pub Ordered : Geometry → List ℕ → Operation → Type 0
Ordered g u (Erase a i) = i.0 < firmware g
Ordered g u (Copy leg i) = i.0 < firmware g
Ordered g u (WriteFlag i v) = EndsLeg g u i.0 v
Ordered g u EraseBootTrailer = Unit {0}
Ordered g u EraseUpdateTrailer = Unit {0}
Ordered g u (WriteBootStatus v) = Unit {0}
Ordered g u (WriteUpdateStatus v) = Unit {0}

-- ---- any claim on operations, over all that is ordered

abbrev pub OfNext : (Operation → Type 0) → Option Operation → Type 0
OfNext P None = Unit {0}
OfNext P (Some o) = P o

-- of the legs that flags show
abbrev pub OfLegs : (Operation → Type 0) → Flags → Type 0
OfLegs P AllF = (p : ℕ) → P (leg_operation UpdateToSwap p (sector_number 0))
OfLegs P (At i leg) = (p : ℕ) → P (leg_operation leg p i)
OfLegs P All0 = Unit {0}
OfLegs P Malformed = Unit {0}

module _ (P : Operation → Type 0) (boot : P EraseBootTrailer) (update : P EraseUpdateTrailer) (status : (v : BootStatus) → P (WriteBootStatus v)) where
  of_exchange_lem : (p : ℕ) (w : Flags) (last : Operation) → OfLegs P w → P last → OfNext P (exchange_next p w last)
  of_exchange_lem p AllF last h k = h p
  of_exchange_lem p (At i leg) last h k = h p
  of_exchange_lem p All0 last h k = k
  of_exchange_lem p Malformed last h k = tt

  of_closing : (b : BootStatus) → P (closing b)
  of_closing Success = boot
  of_closing BootNew = status Testing
  of_closing Testing = update

  of_job : (job : Job) (p : ℕ) (b : BootStatus) (u : UpdateStatus) (w : Flags) → OfLegs P w → OfNext P (ordered job p b u w)
  of_job Update p b Updating w h = of_exchange_lem p w (closing b) h (of_closing b)
  of_job Update p b UpdateNew w h = tt
  of_job Fallback p Testing u w h = of_exchange_lem p w (WriteBootStatus Success) h (status Success)
  of_job Fallback p BootNew u w h = tt
  of_job Fallback p Success u w h = tt
  of_job TurnDown p b Updating w h = update
  of_job TurnDown p b UpdateNew w h = tt

  by_statuses : (job : Job) (p : ℕ) (b : Answer BootStatus) (u : Answer UpdateStatus) (w : Flags) → OfLegs P w → OfNext P (ordered_by job p b u w)
  by_statuses job p (gives b) (gives u) w h = of_job job p b u w h
  by_statuses job p (gives b) (refused n q) w h = tt
  by_statuses job p (refused n q) u w h = tt

  pub of_ordered : (job : Job) (p : ℕ) (b : Answer BootStatus) (u : Answer UpdateStatus) (w : Flags) (o : Operation) → OfLegs P w → ordered_by job p b u w ≡ Some o → P o
  of_ordered job p b u w o h e = rw e at (by_statuses job p b u w h)

-- ---- by what the flags are

module _ (g : Geometry) (G : Limits g) (u : List ℕ) where
  of_leg : (i : ℕ) (leg : Leg) → i < firmware g → flags_at g u ≡ at_leg i leg → (p : ℕ) → Ordered g u (leg_operation leg p (sector_number i))
  of_leg i leg h e zero = h
  of_leg i leg h e (suc zero) = h
  of_leg i leg h e (suc (suc p)) = record { leg = leg; inside = h; shows = e; next = refl }

  of_flags : (w : Flags) → flags_at g u ≡ w → OfLegs (Ordered g u) w
  of_flags AllF e = of_leg 0 UpdateToSwap (some_firmware g G) e
  of_flags (At i leg) e = let f = each_at g u i leg e in of_leg i.0 leg f.inside (e ∙ at_leg_lem i.0 leg f.not_all_f)
  of_flags All0 e = tt
  of_flags Malformed e = tt

pub next_ordered : (g : Geometry) → Limits g → (job : Job) (p : ℕ) (f : Flash) (o : Operation) → next_operation job g p f ≡ Some o → Ordered g f.update o
unfolding next_operation
next_ordered g G job p f o e =
    of_ordered (Ordered g f.update) tt tt (λ v. tt) job p (boot_status_at g f.boot) (update_status_at g f.update) (flags_at g f.update) o
    (of_flags g G f.update (flags_at g f.update) refl) e
