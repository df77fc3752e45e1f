use mathlib.Core.Path.{refl, ◌∙◌}
use native.Mathlib.Omega.{arith}
use Prim.Native.Nat.{◌-◌}
use Rattle.std.proofs.Common.{rules}
use borrow.Author.Tests.{tests}
use Rattle.std.proofs.lemmas.Iterator.{YieldsList-from_range}
use Rattle.std.proofs.lemmas.Iterator.Search.{all_from_yields_List}
use Rattle.flash.specs.Sizes.{firmware}
use Rattle.flash_flags.specs.SectorFlags.{flag_at, is_f}
use Rattle.flash_flags.proofs.Scan.{same_as_f, all_f_listed}
use Rattle.flash_flags.proofs.untouched_from.Goals as goal

pub returns : goal.returns
returns c =
    let a = c.args in
    all_from_yields_List (λ j. is_f (flag_at a.g a.update.now j)) _ _ _ c.all.ensures.ran (YieldsList-from_range a.start.0 c.firmware_sectors.result (firmware a.g - a.start.0) refl (omega arith)) (λ x b q k. search (rules, tests, same_as_f))
    ∙ all_f_listed a.g a.update.now (firmware a.g - a.start.0) a.start.0
