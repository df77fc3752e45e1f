-- Document 02, "Mend lost flags": demand 3 from the mended state, of the delivered calls. The mended state is what a call of `mend` left; the list
-- is made of calls of `power_up`, as in `delivered`. The only premises are those contracts and what document 01 allows in a list.
use Rattle.std.specs.Prelude.{List, ℕ}
use Rattle.flash.specs.Sizes.{geometry, firmware}
use Rattle.flash.specs.Buffers.{Flash}
use Rattle.exchange.specs.Demand.{update, Safe}
use Rattle.image.specs.Verdict.{check_of}
use Rattle.mending.specs.declared.Mark.{Mark}
use Rattle.mending.specs.Marks.{moves_of}
use Rattle.mending.specs.OldImages.{old_flash}
use Rattle.mend.specs.Delivered.{mended_with, MendDelivers}
use Rattle.delivered.specs.Demand.{CallEvent, seen, AllowedCalls}
use Rattle.delivered_mending.specs.Asked.{left_by}

-- "Demand 3 then holds, its list starting from the mended state, for the images that the mark shows, with 9m three smaller for every move that
-- the mended flags have behind them." In `Safe` the old sectors are those of `old_flash`, and its bound counts the mark's moves three times.
abbrev pub Demand3Mended : Type 0
Demand3Mended =
    (n s : ℕ) (f : Flash) (k : Mark) (bytes : ℕ) (u : List ℕ) → MendDelivers n s f (mended_with k bytes) u → (es : List CallEvent)
    → AllowedCalls update (geometry n s) (left_by f u) es
    → Safe check_of seen update (geometry n s) (old_flash (geometry n s) k f) (left_by f u) (moves_of (firmware (geometry n s)) k) es
