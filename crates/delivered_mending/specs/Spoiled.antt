-- Beyond the request: no printer that was on its way with an accepted update is turned away. Whatever became of its flag bytes, a call of
-- `mend` finds a mark. That the mark shows the very sectors with which the update began is not claimed: where both images end before a
-- sector, a mark fits that is too early for it (`mending/Witness` has one).
use Rattle.std.specs.Prelude.{◌≡◌, List, ℕ, ◌≤◌}
use Rattle.flash.specs.declared.Geometry.{Geometry}
use Rattle.flash.specs.Sizes.{geometry, firmware}
use Rattle.flash.specs.Buffers.{Flash}
use Rattle.exchange.specs.Demand.{update, Starts, flash_after}
use Rattle.image.specs.Verdict.{check_of}
use Rattle.mending.specs.declared.Mark.{Mark}
use Rattle.mending.specs.Marks.{Among, moves_of}
use Rattle.mending.specs.Mended.{MayMend, ButFlags, ReadAs}
use Rattle.mend.specs.Delivered.{MendAnswer, mended_with, MendDelivers}
use Rattle.delivered.specs.Demand.{CallEvent, seen, AllowedCalls}

-- The answer is a mark, and no later one than the flags showed before they were lost, in the flash `whole`.
pub record GaveMark (g : Geometry) (whole : Flash) (answer : MendAnswer) : Type 0 where
  pub mark : Mark
  pub bytes : ℕ
  pub answers : answer ≡ mended_with mark bytes
  pub lost : Mark
  pub among : Among (firmware g) lost
  pub shown : ReadAs g whole lost
  pub not_later : moves_of (firmware g) mark ≤ moves_of (firmware g) lost

-- An update that was accepted, and any list of calls of `power_up` that 01 allows from there; then the flag bytes hold anything, and nothing else
-- has changed. Where UPDATE is UPDATING and BOOT is NEW or SUCCESS, so before the finish, no call of `mend` is refused.
abbrev pub SpoiledCallMends : Type 0
SpoiledCallMends =
    (n s : ℕ) (f₀ : Flash) → Starts check_of update (geometry n s) f₀ → (es : List CallEvent) → AllowedCalls update (geometry n s) f₀ es → (f : Flash)
    → ButFlags (geometry n s) (flash_after seen f₀ es) f → MayMend (geometry n s) f → (answer : MendAnswer) (u : List ℕ) → MendDelivers n s f answer u
    → GaveMark (geometry n s) (flash_after seen f₀ es) answer
