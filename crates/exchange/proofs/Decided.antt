-- The checks before the work decide for the exchange at each of its stages.
use mathlib.Core.Path.{◌≡◌, refl, ◌∙◌}
use mathlib.Core.List.{List}
use Prim.Native.Nat.{ℕ, zero, suc, ◌+◌, ◌*◌}
use native.Mathlib.Omega.{arith}
use Rattle.numbers.specs.Answer.{Answer, no_reason}
use Rattle.exchange.specs.Base.{Geometry, SectorNumber, BootStatus, UpdateStatus, Leg, UpdateToSwap, BootToUpdate, SwapToBoot, AllF, At, All0}
use Rattle.exchange.specs.Base.{Limits, sector_number, Flash, Shaped}
use Rattle.exchange.specs.Decision.{Check, work, decide_by, decide}
use Rattle.exchange.specs.Demand.{Exchange, job_of, Underway, from_new, from_success, from_testing}
use Rattle.flash.proofs.Checked.{shaped_fits}
use Rattle.flash_flags.specs.SectorFlags.{leg_moves}
use Rattle.flash_flags.proofs.Moves.{at_leg, shown_leg}
use Rattle.exchange.proofs.Orders.{decide_by_reads}
use Rattle.exchange.proofs.Stage.{Closing, erase_boot, write_testing, erase_update, write_success, Stage, in_leg_lem, at_last, at_end, all_0}

pub shaped_at : {D : List ℕ → List ℕ → Type 0} {g : Geometry} {old f : Flash} {x : Exchange} {b₀ : BootStatus} {u₀ : UpdateStatus} {B : Underway x b₀ u₀} {p r : ℕ} → Stage D g old B f p r → Shaped g f
shaped_at (in_leg_lem i leg hi hp s d e₁ e₂ ready n) = s.shaped
shaped_at (at_last b u c le s e₁ e₂ n z) = s.shaped
shaped_at (at_end b u c y s e₁ e₂ n z) = s

-- resumed: some flag is not F, and no image is checked
pub resumed : {x : Exchange} {b : BootStatus} {u : UpdateStatus} → Underway x b u → (i : SectorNumber) (leg : Leg) (y z : Answer ℕ)
    → decide_by b u (At i leg) y z ≡ work (job_of x) no_reason
resumed from_new i leg y z = refl
resumed from_success i leg y z = refl
resumed from_testing i leg y z = refl

closing_on : {x : Exchange} {b : BootStatus} {u : UpdateStatus} → Closing x b u → (y z : Answer ℕ) → decide_by b u All0 y z ≡ work (job_of x) no_reason
closing_on erase_boot y z = refl
closing_on write_testing y z = refl
closing_on erase_update y z = refl
closing_on write_success y z = refl

-- where all flags are F, the checks decide for the exchange
abbrev pub Decides : {x : Exchange} {b : BootStatus} {u : UpdateStatus} → Check → Geometry → Underway x b u → List ℕ → List ℕ → Type 0
Decides {x} {b} {u} check g B boot update = decide_by b u AllF (check g update) (check g boot) ≡ work (job_of x) no_reason

-- at a leg: begun again where all flags are F
at_leg_lem : (check : Check) (g : Geometry) {x : Exchange} {b : BootStatus} {u : UpdateStatus} (B : Underway x b u) (i : ℕ) (leg : Leg) (f : Flash)
    → (3 * i + leg_moves leg ≡ 0 → Decides check g B f.boot f.update) → decide_by b u (at_leg i leg) (check g f.update) (check g f.boot) ≡ work (job_of x) no_reason
at_leg_lem check g B zero UpdateToSwap f d = d (omega arith)
at_leg_lem check g B zero BootToUpdate f d = resumed B (sector_number 0) BootToUpdate (check g f.update) (check g f.boot)
at_leg_lem check g B zero SwapToBoot f d = resumed B (sector_number 0) SwapToBoot (check g f.update) (check g f.boot)
at_leg_lem check g B (suc i) leg f d = resumed B (sector_number (suc i)) leg (check g f.update) (check g f.boot)

module _ (check : Check) (g : Geometry) (G : Limits g) (old : Flash) {x : Exchange} {b₀ : BootStatus} {u₀ : UpdateStatus} (B : Underway x b₀ u₀) where
  pub decided : (f : Flash) (r : ℕ) → Stage (Decides check g B) g old B f 0 (suc r) → decide check g f ≡ work (job_of x) no_reason
  decided f r (in_leg_lem i leg hi hp s d e₁ e₂ ready n) =
      decide_by_reads check g f b₀ u₀ (at_leg i leg) (shaped_fits g f s.shaped) e₁ e₂ (shown_leg g f.update i leg hi s.moves) ∙ at_leg_lem check g B i leg f d
  decided f r (at_last b u c le s e₁ e₂ n z) =
      decide_by_reads check g f b u All0 (shaped_fits g f s.shaped) e₁ e₂ (all_0 g G old f s) ∙ closing_on c (check g f.update) (check g f.boot)
  decided f r (at_end b u c y s e₁ e₂ n z) = absurd (omega arith)
