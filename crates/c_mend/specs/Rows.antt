-- The row by which a C caller gets what mending answers.
use Rattle.std.specs.Prelude.{ℕ, List, [], ◌∷◌}
use Rattle.numbers.specs.Answer.{Answer, gives, refused}
use Rattle.flash_flags.specs.SectorFlags.{flag_value}
use Rattle.mending.specs.Marks.{sector_named, flag_named}
use Rattle.mending.specs.Mending.{Given}

-- Of m firmware sectors: the mark's sector and the value of its flag, and how many flag bytes differ. All 0 is sector m, flag 0. Zeros
-- stand beside a refusal: they name no mark, since there is a firmware sector.
abbrev pub mend_row : ℕ → Answer Given → List ℕ
mend_row m (gives r) = sector_named m r.mark ∷ flag_value (flag_named r.mark) ∷ r.bytes ∷ []
mend_row m (refused n p) = 0 ∷ 0 ∷ 0 ∷ []
