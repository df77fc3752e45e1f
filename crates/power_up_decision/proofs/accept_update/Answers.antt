use mathlib.Core.Path.{refl}
use native.Mathlib.Omega.{arith}
use borrow.Author.Tests.{lt-ltb, le-ltb}
use Rattle.std.specs.Prelude.{Ok, Err}
use Rattle.std.proofs.lemmas.Result.{err_from_is_err_and}
use Rattle.image.proofs.Verdicts.{checked}
use Rattle.power_up_decision.proofs.Mapped.{gone}
use Rattle.power_up_decision.proofs.accept_update.Goals as goal

pub returns-in-Err : goal.returns-in-Err
returns-in-Err c = rw (checked c.args.g c.args.update.now c.in-Err.ensures) refl

pub returns-in_err-running : goal.returns-in_err-running
returns-in_err-running c =
    let a = c.args in
    let p = err_from_is_err_and c.from_residual.result c.from_residual.ensures.1 in
    let j = c.judge_partition-2 in
    rw (p.1, p.2, checked a.g a.update.now c.in-Ok.ensures, checked a.g a.boot.now j.ensures)
    (gone c.in-Ok.release.version j.result (Err c.in_err-running.field-0.0) c.in_err-running.ensures.cases)

pub returns-then-running-coming : goal.returns-then-running-coming
returns-then-running-coming c =
    let a = c.args in
    let j = c.judge_partition-2 in
    let x = c.in_ok-running.running in
    let v = c.in-Ok.release.version in
    rw (checked a.g a.update.now c.in-Ok.ensures, checked a.g a.boot.now j.ensures)
    (rw (lt-ltb x.version v (omega arith)) at (gone v j.result (Ok x) c.in_ok-running.ensures.cases))

pub returns-else-running-coming : goal.returns-else-running-coming
returns-else-running-coming c =
    let a = c.args in
    let j = c.judge_partition-2 in
    let x = c.in_ok-running.running in
    let v = c.in-Ok.release.version in
    rw (checked a.g a.update.now c.in-Ok.ensures, checked a.g a.boot.now j.ensures)
    (rw (le-ltb x.version v (omega arith)) at (gone v j.result (Ok x) c.in_ok-running.ensures.cases))
