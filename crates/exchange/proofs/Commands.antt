-- Power lost in arm or confirm leaves the bytes before, between or after its operations.
use mathlib.Core.Bool.{Bool, true, false, cond}
use Prim.Native.Nat.{ℕ, zero, suc}
use Rattle.numbers.specs.Answer.{Answer, gives, refused}
use Rattle.exchange.specs.Base.{Geometry, Success, Updating}
use Rattle.exchange.specs.Base.{Flash, flags_at}
use Rattle.exchange.specs.declared.Operation.TheVariants.{EraseUpdateTrailer, WriteBootStatus, WriteUpdateStatus}
use Rattle.exchange.specs.Operations.{perform}
use Rattle.exchange.specs.Commands.{checked, may_arm, arm_operations, may_confirm, confirm_operations}
use Rattle.exchange.specs.LostPower.{Torn, lost_in, arm_lost, confirm_lost, ArmLeaves, before_arm, between_arm, after_arm, ConfirmLeaves, before_confirm, after_confirm, CommandsLost}

-- the first operation of arm, torn; and the second
arm_first : (g : Geometry) (f : Flash) (new : Bool) → ArmLeaves g f (cond new (perform g EraseUpdateTrailer f) f)
arm_first g f true = between_arm
arm_first g f false = before_arm

arm_second : (g : Geometry) (f : Flash) (new : Bool)
    → ArmLeaves g f (cond new (perform g (WriteUpdateStatus Updating) (perform g EraseUpdateTrailer f)) (perform g EraseUpdateTrailer f))
arm_second g f true = after_arm
arm_second g f false = between_arm

arm_by : (g : Geometry) (t : Torn) (a : Answer (Unit {0})) (k : ℕ) (f : Flash) → ArmLeaves g f (lost_in g t arm_operations a k f)
arm_by g t (refused n p) k f = before_arm
arm_by g t (gives u) zero f = arm_first g f t.new
arm_by g t (gives u) (suc zero) f = arm_second g f t.new
arm_by g t (gives u) (suc (suc k)) f = after_arm

confirm_first : (g : Geometry) (f : Flash) (new : Bool) → ConfirmLeaves g f (cond new (perform g (WriteBootStatus Success) f) f)
confirm_first g f true = after_confirm
confirm_first g f false = before_confirm

confirm_by : (g : Geometry) (t : Torn) (a : Answer (Unit {0})) (k : ℕ) (f : Flash) → ConfirmLeaves g f (lost_in g t confirm_operations a k f)
confirm_by g t (refused n p) k f = before_confirm
confirm_by g t (gives u) zero f = confirm_first g f t.new
confirm_by g t (gives u) (suc k) f = after_confirm

arm_left : (g : Geometry) (t : Torn) (k : ℕ) (f : Flash) → ArmLeaves g f (arm_lost g t k f)
unfolding arm_lost
arm_left g t k f = arm_by g t (checked g f may_arm) k f

confirm_left : (g : Geometry) (t : Torn) (k : ℕ) (f : Flash) → ConfirmLeaves g f (confirm_lost g t k f)
unfolding confirm_lost
confirm_left g t k f = confirm_by g t (checked g f (may_confirm (flags_at g f.update))) k f

pub commands_lost : CommandsLost
commands_lost = record { arm = arm_left; confirm = confirm_left }
