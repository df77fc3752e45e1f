-- The sector of the next operation is a firmware sector.
use mathlib.Core.Path.{◌≡◌}
use mathlib.Core.List.{List}
use Prim.Native.Nat.{ℕ, zero, suc, ◌≤◌, ◌<◌}
use native.Mathlib.Decide.{ℕ_discrete}
use native.Mathlib.Omega.{arith}
use borrow.Author.Tests.{eq-eqb, ne_eqb}
use Rattle.std.specs.Prelude.{Option, Some, None}
use Rattle.flash.specs.declared.Geometry.{Geometry}
use Rattle.flash.specs.declared.SectorNumber.{SectorNumber}
use Rattle.flash.specs.Sizes.{firmware, Limits}
use Rattle.flash.specs.Sectors.{sector_number}
use Rattle.flash.proofs.Checked.{sectors_are, some_firmware}
use Rattle.flash_status.specs.StatusBytes.{boot_status_at, update_status_at}
use Rattle.flash_flags.specs.declared.Flag.{Flag}
use Rattle.flash_flags.specs.declared.Flag.TheVariants.{Untouched, Saved, Moved, Exchanged}
use Rattle.flash_flags.specs.declared.Leg.{Leg}
use Rattle.flash_flags.specs.declared.Leg.TheVariants.{UpdateToSwap, BootToUpdate, SwapToBoot}
use Rattle.flash_flags.specs.SectorFlags.{flag_at}
use Rattle.flash_flags.specs.Front.{by_own_flag, by_front}
use Rattle.exchange.specs.declared.Job.{Job}
use Rattle.exchange.specs.declared.Operation.{Operation}
use Rattle.exchange.specs.Operations.{leg_operation}
use Rattle.exchange_front.specs.declared.Progress.{Progress}
use Rattle.exchange_front.specs.Carried.{next_at}
use Rattle.exchange_front.proofs.Ordered.{OfLegs, of_ordered}
use Rattle.exchange_steps.specs.Inner.{SectorWithin}

-- a firmware sector, and the trailer sector, are sectors
pub sector_of_lem : (g : Geometry) → Limits g → (i : ℕ) → i < firmware g → i < g.sectors
sector_of_lem g G i h = omega (arith, sectors_are g G)

pub trailer_of : (g : Geometry) → Limits g → (i : ℕ) → i ≡ firmware g → i < g.sectors
trailer_of g G i e = omega (arith, sectors_are g G)

-- a leg of a firmware sector; the legs that a front shows
of_leg : (g : Geometry) (i : SectorNumber) (leg : Leg) → i.0 < firmware g → (p : ℕ) → SectorWithin g (leg_operation leg p i)
of_leg g i leg h zero = h
of_leg g i leg h (suc zero) = h
of_leg g i leg h (suc (suc p)) = h

module _ (g : Geometry) (G : Limits g) (i : ℕ) where
  own_flag : i < firmware g → (v : Option Flag) → OfLegs (SectorWithin g) (by_own_flag i v)
  own_flag h (Some Untouched) = by (ℕ_discrete i 0)
    where
      by : Dec (i ≡ 0) → OfLegs (SectorWithin g) (by_own_flag i (Some Untouched))
      by (yes n) = rw (eq-eqb i 0 n) (of_leg g (sector_number 0) UpdateToSwap (some_firmware g G))
      by (no n) = rw (ne_eqb i 0 n) (of_leg g (sector_number i) UpdateToSwap h)
  own_flag h (Some Saved) = of_leg g (sector_number i) BootToUpdate h
  own_flag h (Some Moved) = of_leg g (sector_number i) SwapToBoot h
  own_flag h (Some Exchanged) = tt
  own_flag h None = tt

  of_front : i ≤ firmware g → (v : Option Flag) → OfLegs (SectorWithin g) (by_front (firmware g) i v)
  of_front h v = by (ℕ_discrete i (firmware g))
    where
      by : Dec (i ≡ firmware g) → OfLegs (SectorWithin g) (by_front (firmware g) i v)
      by (yes n) = rw (eq-eqb i (firmware g) n) tt
      by (no n) = rw (ne_eqb i (firmware g) n) (own_flag (omega arith) v)

pub next_within : (g : Geometry) → Limits g → (job : Job) (at : Progress) (boot update : List ℕ) (o : Operation) → at.front.0 ≤ firmware g
    → next_at job g at boot update ≡ Some o → SectorWithin g o
next_within g G job at boot update o h e =
    of_ordered (SectorWithin g) tt tt (λ v. tt) job at.phase (boot_status_at g boot) (update_status_at g update) (by_front (firmware g) at.front.0 (flag_at g update at.front.0)) o
    (of_front g G at.front.0 h (flag_at g update at.front.0)) e
