use native.Mathlib.Omega.{arith}
use Rattle.flash_flags.proofs.Room.{flag_inside}
use Rattle.mending_flags.proofs.write_byte.Goals as goal

pub bounds-update-at : goal.bounds-update-at
bounds-update-at c = omega (arith, flag_inside c.args.g c.requires.0.limits _ c.requires.1)

pub bounds-update-at-2 : goal.bounds-update-at-2
bounds-update-at-2 c = omega (arith, flag_inside c.args.g c.requires.0.limits _ c.requires.1)
