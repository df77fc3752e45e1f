use mathlib.Core.Path.{sym, ◌∙◌, subst}
use Rattle.std.specs.Prelude.{Option}
use Rattle.exchange.specs.declared.Operation.{Operation}
use Rattle.exchange_steps.proofs.Bounds.{next_within}
use Rattle.counts_steps.specs.Inner.{RoomForNext}
use Rattle.counts_steps.proofs.do_next_counted.Goals as goal

pub count_done-requires : goal.count_done-requires
count_done-requires c =
    let a = c.args in
    let f = a.f.now in
    let G = c.requires.0.limits in
    let s = c.do_next-step.ensures in
    let e = sym s.step.found ∙ c.in-Some.is in
    rw s.same.geometry
    (G, next_within f.geometry G a.job a.at f.boot.now f.update.now _ c.requires.1 e, c.requires.3, subst (λ (m : Option Operation). RoomForNext f.geometry m a.row.now) e c.requires.4)
