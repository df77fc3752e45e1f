-- Document 02, "Mend lost flags": the marks at which lost flags may have stood.
use Rattle.std.specs.Prelude.{cond, List, [], ◌∷◌, ℕ, zero, suc, ◌+◌, ◌*◌, ◌<◌, ltb, eqb}
use Rattle.flash.specs.Sectors.{sector_number}
use Rattle.flash_flags.specs.declared.Flag.{Flag}
use Rattle.flash_flags.specs.declared.Flag.TheVariants.{Untouched, Exchanged}
use Rattle.flash_flags.specs.declared.Leg.TheVariants.{UpdateToSwap, BootToUpdate, SwapToBoot}
use Rattle.flash_flags.specs.SectorFlags.{leg_flag, leg_moves}
use Rattle.mending.specs.declared.Mark.{Mark}
use Rattle.mending.specs.declared.Mark.TheVariants.{At, All0}

-- The marks of m firmware sectors: each of these sectors at each leg, which its flag shows as F, 7 or 3; and all 0.
abbrev pub Among : ℕ → Mark → Type 0
Among m (At j leg) = j.0 < m
Among m All0 = Unit {0}

-- "0 before it and F after it": sector i's flag under a mark.
abbrev pub flag_under : Mark → ℕ → Flag
flag_under (At j leg) i = cond (ltb i j.0) Exchanged (cond (eqb i j.0) (leg_flag leg) Untouched)
flag_under All0 i = Exchanged

-- "every move that the mended flags have behind them": three of each sector before the mark, and none, one or two of its own.
abbrev pub moves_of : ℕ → Mark → ℕ
moves_of m (At j leg) = 3 * j.0 + leg_moves leg
moves_of m All0 = 3 * m

-- "ordered by sector, then F, 7, 3, with all 0 last": the marks from sector i on, of n sectors; and all of them.
unfoldable pub marks_from : ℕ → ℕ → List Mark
marks_from zero i = All0 ∷ []
marks_from (suc n) i =
    At (sector_number i) UpdateToSwap ∷ At (sector_number i) BootToUpdate ∷ At (sector_number i) SwapToBoot ∷ marks_from n (suc i)

unfoldable pub marks : ℕ → List Mark
marks m = marks_from m 0

-- How a mark is named to a caller: by a sector and its flag. All 0 is named sector m, flag 0.
abbrev pub sector_named : ℕ → Mark → ℕ
sector_named m (At j leg) = j.0
sector_named m All0 = m

abbrev pub flag_named : Mark → Flag
flag_named (At j leg) = leg_flag leg
flag_named All0 = Exchanged
