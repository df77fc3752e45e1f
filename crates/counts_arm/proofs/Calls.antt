-- The counted arm by its first checks.
use mathlib.Core.Path.{◌≡◌, refl, ap, ◌∙◌, subst}
use mathlib.Core.List.{List}
use Prim.Native.Nat.{ℕ}
use native.Mathlib.Omega.{arith}
use lib.ListN.{length}
use Rattle.std.specs.Prelude.{Option, Some, None, sum}
use Rattle.numbers.specs.Answer.{gives, refused}
use Rattle.flash.specs.declared.Geometry.{Geometry}
use Rattle.flash.specs.Sizes.{geometry, Limits}
use Rattle.flash.specs.Buffers.{Flash}
use Rattle.flash.proofs.Checked.{some_firmware}
use Rattle.exchange.specs.declared.Operation.{Operation}
use Rattle.exchange_steps.specs.Inner.{SectorWithin}
use Rattle.exchange.specs.Commands.{Command, command, arm_operations, arm_command}
use Rattle.exchange_commands.specs.declared.CommandKind.TheVariants.{Arm}
use Rattle.exchange_commands.specs.Inner.{permit_at}
use Rattle.counts.specs.Row.{row_length, slot, raised}
use Rattle.counts.specs.Calls.{arm_done, counted_arm}
use Rattle.counts.specs.Claims.{RoomForM, hands_back}
use Rattle.counts.proofs.FirstChecks.{asked_same, found, handed_back, worked}
use Rattle.counts.proofs.Places.{slot_below}
use Rattle.counts.proofs.Rows.{SlotBelow}
use Rattle.counts_row.specs.Inner.{counted_geometry, RoomFor}

module _ (n s : ℕ) (f : Flash) (row : List ℕ) (total : ℕ) where
  abbrev refusing : ℕ → ℕ → Command
  refusing m p = record { answer = refused m p; flash = f }

  pub not_counted : {m p : ℕ} → refused m p ≡ counted_geometry n s f row total → hands_back (record { answer = refused m p; flash = f }) row total ≡ counted_arm (geometry n s) f row total
  unfolding counted_arm
  not_counted e = handed_back n s f row total refusing (arm_command (geometry n s) f) (arm_done (arm_command (geometry n s) f).answer) e

  module _ {g : Geometry} (e : gives g ≡ counted_geometry n s f row total) where
    arms : command g arm_operations (permit_at Arm g f.boot f.update) f ≡ arm_command (geometry n s) f
    unfolding arm_command
    arms = rw (asked_same n s f row total e, (found n s f row total e).fit) refl

    pub counted_inside : (own : Command) (row' : List ℕ) (total' : ℕ) → own ≡ command g arm_operations (permit_at Arm g f.boot f.update) f
        → row' ≡ raised g (arm_done own.answer) row → total' ≡ sum row'
        → record { own = own; row = row'; total = total' } ≡ counted_arm (geometry n s) f row total
    unfolding counted_arm
    counted_inside own row' total' o r w =
        let a = o ∙ arms in
        worked n s f row total refusing (arm_command (geometry n s) f) (arm_done (arm_command (geometry n s) f).answer) e own row' total' a
        (r ∙ ap (λ (c : Command). raised g (arm_done c.answer) row) a) w

-- a row with room for m erases has room for one
pub room_for_one : (g : Geometry) → Limits g → (row : List ℕ) → length row ≡ row_length g → RoomForM g row → (o : Operation) → SectorWithin g o → RoomFor (slot g o) row
room_for_one g G row l room o w = by (slot g o) (slot_below g G o (λ a i e. subst (SectorWithin g) e w))
  where
    by : (p : Option ℕ) → SlotBelow (row_length g) p → RoomFor p row
    by None h = tt
    by (Some k) h = omega (arith, some_firmware g G, room k (rw l h))
