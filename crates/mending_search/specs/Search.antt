-- Document 02, "Mend lost flags", "the first fitting mark": the marks are tried in their order, by the moves that they have behind them.
use Rattle.std.specs.Prelude.{ℕ, drop, Option, Some, None}
use Rattle.numbers.specs.Answer.{Answer, gives}
use Rattle.flash.specs.declared.Geometry.{Geometry}
use Rattle.flash.specs.Sizes.{firmware}
use Rattle.flash.specs.Buffers.{Flash}
use Rattle.image.specs.Verdict.{check_of}
use Rattle.mending.specs.declared.Mark.{Mark}
use Rattle.mending.specs.Marks.{marks}
use Rattle.mending.specs.OldImages.{fits_mark}
use Rattle.mending.specs.Mending.{first_fitting}

-- The first mark that fits, of those with a moves or more behind them; 17 where none of them fits.
abbrev pub first_from : ℕ → Geometry → Flash → Answer Mark
first_from a g f = first_fitting (fits_mark check_of g f) (drop a (marks (firmware g)))

-- What a search over some marks found; where it found none, `rest`, which is what the marks behind them give.
abbrev pub found_or : Option Mark → Answer Mark → Answer Mark
found_or (Some k) rest = gives k
found_or None rest = rest
