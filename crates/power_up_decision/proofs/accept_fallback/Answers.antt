use mathlib.Core.Path.{refl}
use Rattle.image.proofs.Verdicts.{checked}
use Rattle.power_up_decision.proofs.accept_fallback.Goals as goal

pub returns-in-Ok : goal.returns-in-Ok
returns-in-Ok c = rw (checked c.args.g c.args.update.now c.in-Ok.ensures) refl

pub returns-in-Err : goal.returns-in-Err
returns-in-Err c = rw (checked c.args.g c.args.update.now c.in-Err.ensures) refl
