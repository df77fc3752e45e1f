use mathlib.Core.Path.{refl}
use Rattle.image.proofs.Verdicts.{checked}
use Rattle.power_up.proofs.if_boot_good.Goals as goal

pub returns-in-Ok : goal.returns-in-Ok
returns-in-Ok c = rw (checked c.args.g c.args.boot.now c.in-Ok.ensures) refl

pub returns-in-Err : goal.returns-in-Err
returns-in-Err c = rw (checked c.args.g c.args.boot.now c.in-Err.ensures) refl
