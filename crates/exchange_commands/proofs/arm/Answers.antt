use mathlib.Core.Path.{ap, ◌∙◌}
use borrow.Author.Rules.{rules}
use Rattle.std.proofs.lemmas.Result.{err_from_is_err_and}
use Rattle.flash.specs.Buffers.{Flash, flash}
use Rattle.flash_status.specs.declared.UpdateStatus.TheVariants.{Updating}
use Rattle.exchange.specs.declared.Operation.TheVariants.{WriteUpdateStatus}
use Rattle.exchange.specs.Operations.{perform}
use Rattle.exchange.specs.Commands.{arm_operations, arm_command}
use Rattle.exchange_steps.proofs.Runs.{shaped_on, same_again, given_back}
use Rattle.exchange_commands.specs.declared.CommandKind.TheVariants.{Arm}
use Rattle.exchange_commands.proofs.Calls.{refused_command, granted_shaped, granted_command}
use Rattle.exchange_commands.proofs.arm.Goals as goal

pub returns-in_err-geometry : goal.returns-in_err-geometry
unfolding arm_command
returns-in_err-geometry c =
    let a = c.args in
    let p = err_from_is_err_and c.from_residual.result c.from_residual.ensures.1 in
    rw (p.1, p.2) (refused_command Arm a.sectors a.size (flash a.boot.now a.update.now a.swap.now) arm_operations c.in_err-geometry.ensures)

pub do_operation-requires : goal.do_operation-requires
do_operation-requires c =
    let a = c.args in
    (granted_shaped Arm a.sectors a.size (flash a.boot.now a.update.now a.swap.now) c.in_ok-geometry.ensures, tt)

pub do_operation-requires-2 : goal.do_operation-requires-2
do_operation-requires-2 c = (shaped_on _ _ (granted_shaped Arm c.args.sectors c.args.size (flash c.args.boot.now c.args.update.now c.args.swap.now) c.in_ok-geometry.ensures) c.do_operation.ensures.same, tt)

pub returns : goal.returns
unfolding arm_command
returns c =
    let a = c.args in
    let g = c.in_ok-geometry.geometry in
    let o = c.do_operation-2 in
    let k = same_again _ _ _ c.do_operation.ensures.same o.ensures.same in
    let second = rw c.do_operation.ensures.same.geometry at o.ensures.bytes in
    granted_command Arm a.sectors a.size (flash a.boot.now a.update.now a.swap.now) c.in_ok-geometry.ensures arm_operations
    (given_back o.new.self (search (rules, k)) (search (rules, k)) (search (rules, k))
    ∙ second ∙ ap (λ (y : Flash). perform g (WriteUpdateStatus Updating) y) c.do_operation.ensures.bytes)
