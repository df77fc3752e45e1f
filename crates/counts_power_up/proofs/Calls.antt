-- The counted power-up by its first checks.
use mathlib.Core.Path.{◌≡◌, refl, ap, ◌∙◌}
use mathlib.Core.List.{List}
use Prim.Native.Nat.{ℕ}
use Rattle.std.specs.Prelude.{sum}
use Rattle.numbers.specs.Answer.{gives, refused, numbered}
use Rattle.flash.specs.declared.Geometry.{Geometry}
use Rattle.flash.specs.Sizes.{geometry}
use Rattle.flash.specs.Buffers.{Flash, Shaped}
use Rattle.exchange.specs.declared.Job.{Job}
use Rattle.exchange.specs.declared.Operation.{Operation}
use Rattle.exchange.specs.Order.{operations}
use Rattle.exchange.specs.Decision.{Check, Plan, decide_within, decide}
use Rattle.exchange.specs.PowerUp.{PowerUp, refusal, idle, carry_out, power_up, operations_in, operations_of}
use Rattle.counts.specs.Row.{raised}
use Rattle.counts.specs.Calls.{counted_power_up}
use Rattle.counts.specs.Claims.{RoomForM, Within32, hands_back}
use Rattle.counts.proofs.ToCome.{no_more_than_m}
use Rattle.counts.proofs.Claimed.{stays}
use Rattle.counts.proofs.FirstChecks.{asked_same, found, handed_back, worked}
use Rattle.counts_row.specs.Inner.{counted_geometry}

module _ (n s : ℕ) (f : Flash) (check : Check) (budget : ℕ) (row : List ℕ) (total : ℕ) where
  abbrev refusing : ℕ → ℕ → PowerUp
  refusing m p = idle (refusal (numbered m p)) f

  pub not_counted : {m p : ℕ} → refused m p ≡ counted_geometry n s f row total
      → hands_back (idle (refusal (numbered m p)) f) row total ≡ counted_power_up check (geometry n s) f budget row total
  unfolding counted_power_up
  not_counted e = handed_back n s f row total refusing (power_up check (geometry n s) f budget) (operations_of check (geometry n s) f budget) e

  module _ {g : Geometry} (e : gives g ≡ counted_geometry n s f row total) (x : Plan) (d : x ≡ decide_within check g f.boot f.update) where
    -- the plan, and its operations
    carried : carry_out check g f budget x ≡ power_up check (geometry n s) f budget
    unfolding power_up decide
    carried = rw (d, asked_same n s f row total e, (found n s f row total e).fit) refl

    planned : operations_in g f budget x ≡ operations_of check (geometry n s) f budget
    unfolding operations_of decide
    planned = rw (d, asked_same n s f row total e, (found n s f row total e).fit) refl

    pub counted_inside : (own : PowerUp) (row' : List ℕ) (total' : ℕ) → own ≡ carry_out check g f budget x → row' ≡ raised g (operations_in g f budget x) row → total' ≡ sum row'
        → record { own = own; row = row'; total = total' } ≡ counted_power_up check (geometry n s) f budget row total
    unfolding counted_power_up
    counted_inside own row' total' o r w =
        worked n s f row total refusing (power_up check (geometry n s) f budget) (operations_of check (geometry n s) f budget) e own row' total'
        (o ∙ carried) (r ∙ ap (λ (os : List Operation). raised g os row) planned) w

-- a job keeps the row within 32 bits
pub stays_in_job : (g : Geometry) (f : Flash) → Shaped g f → (job : Job) (budget : ℕ) (row : List ℕ) → RoomForM g row → Within32 (raised g (operations job g budget 0 f) row)
stays_in_job g f s job budget row room = stays g (operations job g budget 0 f) row (λ k. no_more_than_m g f s job budget k) room
