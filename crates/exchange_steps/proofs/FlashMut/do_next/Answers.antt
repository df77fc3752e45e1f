use mathlib.Core.Path.{sym}
use native.Mathlib.Omega.{arith}
use Rattle.flash.proofs.Checked.{sectors_are}
use Rattle.exchange_steps.specs.Lent.{bytes}
use Rattle.exchange_steps.proofs.Bounds.{next_within}
use Rattle.exchange_steps.proofs.Steps.{step_done, step_none}
use Rattle.exchange_steps.proofs.FlashMut.do_next.Goals as goal

pub do_operation-requires : goal.do_operation-requires
do_operation-requires c =
    let a = c.args in
    let f = a.self.now in
    (c.requires.0, next_within f.geometry c.requires.0.limits a.job a.at f.boot.now f.update.now c.in-Some.op c.requires.1 (sym c.in-Some.ensures))

pub carry_on-requires : goal.carry_on-requires
carry_on-requires c =
    let G = c.requires.0.limits in
    (omega (arith, c.requires.1, sectors_are _ G, G.many), c.requires.2)

pub returns-clause-step : goal.returns-clause-step
returns-clause-step c =
    let a = c.args in
    let f = a.self.now in
    step_done a.job f.geometry a.at (bytes f) c.requires.0 _ c.in-Some.ensures _ c.do_operation.ensures.bytes _ c.carry_on.ensures

pub returns-in_default-clause-step : goal.returns-in_default-clause-step
returns-in_default-clause-step c =
    let a = c.args in
    let f = a.self.now in
    step_none a.job f.geometry a.at (bytes f) c.requires.0 c.in_default.ensures
