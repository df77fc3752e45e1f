-- The place of an operation, by what the code found, is within the row; and a geometry or none, as the first checks tell it.
use mathlib.Core.Path.{◌≡◌, refl, sym, subst}
use mathlib.Core.List.{List}
use Prim.Native.Nat.{ℕ, ◌<◌}
use lib.ListN.{length}
use Rattle.std.specs.Prelude.{Option, Some, None}
use Rattle.std.specs.Option.{ok_or}
use Rattle.flash.specs.declared.Geometry.{Geometry}
use Rattle.flash.specs.Sizes.{Limits, geometry_answer}
use Rattle.exchange.specs.declared.Operation.{Operation}
use Rattle.exchange_steps.specs.Inner.{SectorWithin}
use Rattle.counts.specs.Row.{row_length, slot}
use Rattle.counts.proofs.Rows.{SlotBelow}
use Rattle.counts.proofs.Places.{slot_below}
use Rattle.counts_row.specs.declared.CountsFault.TheVariants.{OutsideRules}
use Rattle.counts_row.specs.Inner.{counts_answer}

pub inside : (g : Geometry) → Limits g → (o : Operation) (row : List ℕ) → SectorWithin g o → {k : ℕ} → Some k ≡ slot g o → length row ≡ row_length g → k < length row
inside g G o row w e l = rw l (subst (SlotBelow (row_length g)) (sym e) (slot_below g G o (λ a i h. subst (SectorWithin g) h w)))

pub fitting : (x : Option Geometry) → counts_answer (ok_or x OutsideRules) ≡ geometry_answer x
fitting (Some g) = refl
fitting None = refl
