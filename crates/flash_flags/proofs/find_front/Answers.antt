use mathlib.Core.Path.{◌≡◌, ap, ◌∙◌}
use Prim.Native.Nat.{ℕ}
use Rattle.std.proofs.Common.{rules}
use borrow.Author.Tests.{tests}
use Rattle.std.specs.Prelude.{Some}
use Rattle.std.proofs.lemmas.Iterator.{first_from_Range}
use Rattle.flash.specs.Sectors.{sector_number}
use Rattle.flash_flags.specs.declared.Flag.TheVariants.{Exchanged}
use Rattle.flash_flags.specs.SectorFlags.{flag_at}
use Rattle.flash_flags.proofs.Front.{front_searched}
use Rattle.flash_flags.proofs.find_front.Goals as goal

pub returns : goal.returns
returns c =
    let a = c.args in
    let is_0 : ℕ → Type 0 = λ i. flag_at a.g a.update.now i ≡ Some Exchanged in
    ap sector_number
    (c.unwrap_or.ensures
    ∙ front_searched a.g a.update.now _ c.firmware_sectors-m.ensures _
    (first_from_Range _ _ _ c.find-front.result (λ i. is_0 i → ⊥) is_0 c.find-front.ensures.ran (λ x q k. search (rules, tests)) (λ x q k. search (rules, tests))))
