-- Document 02, "Erase counts for the service sheet": power-up and arm with a row of counts and its total. Beyond these both do and answer
-- as power-up and arm do.
use Rattle.std.specs.Prelude.{cond, List, [], ℕ, sum}
use Rattle.numbers.specs.Answer.{Answer, gives, refused, numbered}
use Rattle.flash.specs.declared.Geometry.{Geometry}
use Rattle.flash.specs.Buffers.{Flash, fits}
use Rattle.exchange.specs.declared.Operation.{Operation}
use Rattle.exchange.specs.Decision.{Check}
use Rattle.exchange.specs.PowerUp.{PowerUp, refusal, idle, power_up, operations_of}
use Rattle.exchange.specs.Commands.{Command, arm_operations, arm_command}
use Rattle.counts.specs.Row.{raised, check_row}

-- What a counted call answers and leaves: the uncounted call's own answer and flash, the row, and the total that goes out.
pub record Counted (A : Type 0) : Type 0 where
  pub own : A
  pub row : List ℕ
  pub total : ℕ

-- The checks that come first: geometry and the lengths of the flash, then the row and the total. All others, 10 among them, come after.
unfoldable pub check_counted : Geometry → Flash → List ℕ → ℕ → Answer (Unit {0})
check_counted g f row total = cond (fits g f) (check_row g row total) (refused 1 0)

-- A call that these checks refuse does nothing and hands row and total back as they came: at 20 the total is the sum already. Else it is the
-- uncounted call; the row is raised by the operations that this call did, and the total goes out as the row's sum.
abbrev pub counted : {A : Type 0} → Answer (Unit {0}) → (ℕ → ℕ → A) → A → Geometry → List Operation → List ℕ → ℕ → Counted A
counted (refused n p) refuse did g os row total = record { own = refuse n p; row = row; total = total }
counted (gives t) refuse did g os row total = record { own = did; row = raised g os row; total = sum (raised g os row) }

-- The counted power-up, whole.
unfoldable pub counted_power_up : Check → Geometry → Flash → ℕ → List ℕ → ℕ → Counted PowerUp
counted_power_up check g f budget row total =
    counted (check_counted g f row total) (λ n p. idle (refusal (numbered n p)) f) (power_up check g f budget) g (operations_of check g f budget) row total

-- The operations of an arm that answers so: both or none.
abbrev pub arm_done : Answer ℕ → List Operation
arm_done (gives n) = arm_operations
arm_done (refused n p) = []

-- The counted arm, whole. Its checks are the same, though it erases once.
unfoldable pub counted_arm : Geometry → Flash → List ℕ → ℕ → Counted Command
counted_arm g f row total =
    counted (check_counted g f row total) (λ n p. record { answer = refused n p; flash = f }) (arm_command g f) g (arm_done (arm_command g f).answer) row total
