use Rattle.exchange.specs.declared.Operation.TheVariants.{EraseUpdateTrailer}
use Rattle.counts_arm.proofs.Calls.{room_for_one}
use Rattle.counts_arm.proofs.obey.Goals as goal

pub count_done-requires : goal.count_done-requires
count_done-requires c =
    let a = c.args in
    let G = c.requires.0.limits in
    rw c.do_operation.ensures.same.geometry
    (G, tt, c.requires.1, room_for_one a.f.now.geometry G a.row.now c.requires.1 c.requires.2 EraseUpdateTrailer tt)
