-- The places of the sectors, and what raises them.
use mathlib.Core.Path.{◌≡◌, refl, ◌∙◌}
use Prim.Native.Nat.{ℕ, ◌<◌}
use native.Mathlib.Omega.{arith}
use lib.ListN.{replicate}
use Rattle.std.specs.Prelude.{Some, sum}
use Rattle.std.proofs.lemmas.List.Folds.{sum_by-replicate}
use Rattle.flash.specs.declared.Geometry.{Geometry}
use Rattle.flash.specs.declared.SectorNumber.{SectorNumber}
use Rattle.flash.specs.Sizes.{firmware, Limits}
use Rattle.flash.proofs.Checked.{sectors_are}
use Rattle.exchange.specs.declared.Area.{Area}
use Rattle.exchange.specs.declared.Area.TheVariants.{Boot, Update, Swap}
use Rattle.exchange.specs.declared.Operation.{Operation}
use Rattle.exchange.specs.declared.Operation.TheVariants.{Erase, Copy, WriteFlag, EraseBootTrailer, EraseUpdateTrailer, WriteBootStatus, WriteUpdateStatus}
use Rattle.counts.specs.Row.{row_length, slot}
use Rattle.counts.specs.Claims.{PlacesInOrder, RaisedIsErased, ErasedIsRaised, SumOfCounts}
use Rattle.counts.proofs.Rows.{SlotBelow, sum_raise}

pub erased_is_raised : ErasedIsRaised
erased_is_raised g = record { sector = λ a i. refl; boot_trailer = refl; update_trailer = refl }

pub places_in_order : PlacesInOrder
places_in_order g G =
    let n = sectors_are g G in
    record {
      first = refl;
      next_boot = λ i. refl;
      update_behind = omega (arith, n);
      next_update = λ i. omega arith;
      swap_behind = omega (arith, n);
      one_swap = λ i. refl;
      swap_last = omega arith;
    }

pub raised_is_erased : RaisedIsErased
raised_is_erased g (Erase a i) k e = record { area = a; sector = i.0; place = cc; erases = λ f. refl }
raised_is_erased g (Copy leg i) k e = absurd (let z : ◌≡◌ {A = ℕ} 0 1 = cc in omega arith)
raised_is_erased g (WriteFlag i v) k e = absurd (let z : ◌≡◌ {A = ℕ} 0 1 = cc in omega arith)
raised_is_erased g EraseBootTrailer k e = record { area = Boot; sector = firmware g; place = cc; erases = λ f. refl }
raised_is_erased g EraseUpdateTrailer k e = record { area = Update; sector = firmware g; place = cc; erases = λ f. refl }
raised_is_erased g (WriteBootStatus v) k e = absurd (let z : ◌≡◌ {A = ℕ} 0 1 = cc in omega arith)
raised_is_erased g (WriteUpdateStatus v) k e = absurd (let z : ◌≡◌ {A = ℕ} 0 1 = cc in omega arith)

-- an erase has a place in the row, if its sector is a firmware sector or a trailer
pub slot_below : (g : Geometry) → Limits g → (o : Operation) → ((a : Area) (i : SectorNumber) → o ≡ Erase a i → i.0 < firmware g) → SlotBelow (row_length g) (slot g o)
slot_below g G (Erase Boot i) h = omega (arith, sectors_are g G, h Boot i refl)
slot_below g G (Erase Update i) h = omega (arith, sectors_are g G, h Update i refl)
slot_below g G (Erase Swap i) h = omega arith
slot_below g G (Copy leg i) h = tt
slot_below g G (WriteFlag i v) h = tt
slot_below g G EraseBootTrailer h = omega (arith, sectors_are g G)
slot_below g G EraseUpdateTrailer h = omega (arith, sectors_are g G)
slot_below g G (WriteBootStatus v) h = tt
slot_below g G (WriteUpdateStatus v) h = tt

zeros_sum : (n : ℕ) → sum (replicate n 0) ≡ 0
zeros_sum n = sum_by-replicate (λ x. x) n 0 ∙ omega arith

pub sum_of_counts : SumOfCounts
sum_of_counts = record { zeros = zeros_sum; one_more = λ row k b. omega (arith, sum_raise (Some k) row b) }
