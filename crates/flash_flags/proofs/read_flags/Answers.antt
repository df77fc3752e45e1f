use mathlib.Core.Path.{sym, ◌∙◌}
use native.Mathlib.Omega.{arith}
use Rattle.flash_flags.specs.Front.{untouched_after}
use Rattle.flash_flags.proofs.Front.{sector_number_lem, front_within, front_small, told_shown, told_not}
use Rattle.flash_flags.proofs.read_flags.Goals as goal

pub flags_by_front-requires : goal.flags_by_front-requires
flags_by_front-requires c =
    (c.requires, omega (arith, sector_number_lem c.find_front-front.ensures, front_within c.args.g c.args.update.now))

pub returns-then-untouched_from : goal.returns-then-untouched_from
unfolding untouched_after
returns-then-untouched_from c =
    let a = c.args in
    told_shown a.g a.update.now c.requires.limits _ (sector_number_lem c.find_front-front.ensures) _ c.flags_by_front.ensures (sym c.untouched_from.ensures ∙ c.if-untouched_from.true)

pub returns-else-untouched_from : goal.returns-else-untouched_from
unfolding untouched_after
returns-else-untouched_from c =
    let a = c.args in
    told_not a.g a.update.now c.requires.limits _ (sector_number_lem c.find_front-front.ensures) (sym c.untouched_from.ensures ∙ c.if-untouched_from.false)

pub overflow_add-front : goal.overflow_add-front
overflow_add-front c =
    omega (arith, sector_number_lem c.find_front-front.ensures, front_small c.args.g c.args.update.now c.requires.limits)
