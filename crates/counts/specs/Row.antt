-- Document 02, "Erase counts for the service sheet": the row of counts, what raises it, and the checks before the work.
use Rattle.std.specs.Prelude.{cond, Option, Some, None, List, [], ◌∷◌, ℕ, suc, ◌+◌, ◌-◌, ◌*◌, length, get_or, set, eqb, ltb, sum}
use Rattle.std.specs.List.{list_any}
use Rattle.numbers.specs.Answer.{Answer, gives, refused}
use Rattle.flash.specs.declared.Geometry.{Geometry}
use Rattle.flash.specs.Sizes.{firmware}
use Rattle.exchange.specs.declared.Area.{Area}
use Rattle.exchange.specs.declared.Area.TheVariants.{Boot, Update, Swap}
use Rattle.exchange.specs.declared.Operation.{Operation}
use Rattle.exchange.specs.declared.Operation.TheVariants.{Erase, Copy, WriteFlag, EraseBootTrailer, EraseUpdateTrailer, WriteBootStatus, WriteUpdateStatus}

-- ---- the row

-- One count for each BOOT sector, then one for each UPDATE sector, then SWAP's: 2n + 1 in all. The place of sector i of an area, from 0;
-- SWAP is one sector, whatever i.
abbrev pub row_length : Geometry → ℕ
row_length g = 2 * g.sectors + 1

abbrev pub row_place : Geometry → Area → ℕ → ℕ
row_place g Boot i = i
row_place g Update i = g.sectors + i
row_place g Swap i = 2 * g.sectors

-- The place that an operation raises: that of the sector which it erases, if it is an erase. The trailer sector is the one behind the
-- firmware sectors.
abbrev pub slot : Geometry → Operation → Option ℕ
slot g (Erase a i) = Some (row_place g a i.0)
slot g (Copy leg i) = None
slot g (WriteFlag i v) = None
slot g EraseBootTrailer = Some (row_place g Boot (firmware g))
slot g EraseUpdateTrailer = Some (row_place g Update (firmware g))
slot g (WriteBootStatus v) = None
slot g (WriteUpdateStatus v) = None

-- One more at a place; and the row after some operations, each erase of which adds one to its place.
abbrev pub raise : Option ℕ → List ℕ → List ℕ
raise None row = row
raise (Some k) row = set row k (suc (get_or row k 0))

abbrev pub raised : Geometry → List Operation → List ℕ → List ℕ
raised g [] row = row
raised g (o ∷ os) row = raised g os (raise (slot g o) row)

-- ---- the checks before the work

-- A row of another length is 1; then a total that is not the row's sum is 19; then some count, wherever in the row, that is greater than
-- 4,294,967,295 − m is 20.
abbrev pub check_row : Geometry → List ℕ → ℕ → Answer (Unit {0})
check_row g row total =
    cond (eqb (length row) (row_length g))
    (cond (eqb (sum row) total) (cond (list_any (ltb (4294967295 - firmware g)) row) (refused 20 0) (gives tt)) (refused 19 0))
    (refused 1 0)
