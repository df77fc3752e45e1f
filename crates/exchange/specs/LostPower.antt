-- Document 01, "Power-up": what a loss of power leaves of the operation that it breaks off; and what it leaves of arm and confirm.
use Rattle.std.specs.Prelude.{Bool, cond, List, [], ◌∷◌, ℕ, zero, suc, Option, Some, None}
use Rattle.numbers.specs.Answer.{Answer, gives, refused}
use Rattle.exchange.specs.Base.{Geometry, Success, Updating}
use Rattle.exchange.specs.Base.{Flash, flags_at}
use Rattle.exchange.specs.declared.Operation.{Operation}
use Rattle.exchange.specs.declared.Operation.TheVariants.{Erase, Copy, WriteFlag, EraseBootTrailer, EraseUpdateTrailer, WriteBootStatus, WriteUpdateStatus}
use Rattle.exchange.specs.Operations.{put, target, perform}
use Rattle.exchange.specs.Commands.{checked, may_arm, arm_operations, may_confirm, confirm_operations}

-- How an operation is torn: the bytes that it leaves if it writes a firmware or SWAP sector, and whether the new bytes stand if it
-- writes anything else.
pub record Torn : Type 0 where
  pub bytes : List ℕ
  pub new : Bool

-- Of a torn erase or copy the sector that it writes holds whatever bytes. A flag, a status byte and a trailer sector hold what stood
-- there before or what was to stand there.
abbrev pub perform_torn : Geometry → Torn → Operation → Flash → Flash
perform_torn g t (Erase a i) f = put g a i.0 t.bytes f
perform_torn g t (Copy leg i) f = put g (target leg) i.0 t.bytes f
perform_torn g t (WriteFlag i v) f = cond t.new (perform g (WriteFlag i v) f) f
perform_torn g t EraseBootTrailer f = cond t.new (perform g EraseBootTrailer f) f
perform_torn g t EraseUpdateTrailer f = cond t.new (perform g EraseUpdateTrailer f) f
perform_torn g t (WriteBootStatus v) f = cond t.new (perform g (WriteBootStatus v) f) f
perform_torn g t (WriteUpdateStatus v) f = cond t.new (perform g (WriteUpdateStatus v) f) f

-- The operation that would have been next, if there is one, is the one that is torn.
abbrev pub tear_next : Geometry → Torn → Option Operation → Flash → Flash
tear_next g t None f = f
tear_next g t (Some o) f = perform_torn g t o f

-- ---- arm and confirm

-- Power is lost after the first k of a list of operations.
abbrev pub lost_among : Geometry → Torn → List Operation → ℕ → Flash → Flash
lost_among g t [] k f = f
lost_among g t (o ∷ os) zero f = perform_torn g t o f
lost_among g t (o ∷ os) (suc k) f = lost_among g t os k (perform g o f)

-- The same of a command: one that is refused does nothing.
abbrev pub lost_in : Geometry → Torn → List Operation → Answer (Unit {0}) → ℕ → Flash → Flash
lost_in g t os (gives u) k f = lost_among g t os k f
lost_in g t os (refused n p) k f = f

unfoldable pub arm_lost : Geometry → Torn → ℕ → Flash → Flash
arm_lost g t k f = lost_in g t arm_operations (checked g f may_arm) k f

unfoldable pub confirm_lost : Geometry → Torn → ℕ → Flash → Flash
confirm_lost g t k f = lost_in g t confirm_operations (checked g f (may_confirm (flags_at g f.update))) k f

-- The bytes before arm, between its two operations, or after both.
pub data ArmLeaves (g : Geometry) (f : Flash) : Flash → Type 0 where
  before_arm : ArmLeaves g f f
  between_arm : ArmLeaves g f (perform g EraseUpdateTrailer f)
  after_arm : ArmLeaves g f (perform g (WriteUpdateStatus Updating) (perform g EraseUpdateTrailer f))

-- The bytes before confirm or after it.
pub data ConfirmLeaves (g : Geometry) (f : Flash) : Flash → Type 0 where
  before_confirm : ConfirmLeaves g f f
  after_confirm : ConfirmLeaves g f (perform g (WriteBootStatus Success) f)

-- Wherever power fails in arm or confirm, nothing else is left.
pub record CommandsLost : Type 0 where
  pub arm : (g : Geometry) (t : Torn) (k : ℕ) (f : Flash) → ArmLeaves g f (arm_lost g t k f)
  pub confirm : (g : Geometry) (t : Torn) (k : ℕ) (f : Flash) → ConfirmLeaves g f (confirm_lost g t k f)
