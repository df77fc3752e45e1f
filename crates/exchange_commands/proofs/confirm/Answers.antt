use borrow.Author.Rules.{rules}
use mathlib.Core.Path.{◌∙◌}
use Rattle.std.proofs.lemmas.Result.{err_from_is_err_and}
use Rattle.flash.specs.Buffers.{flash}
use Rattle.exchange.specs.Commands.{confirm_operations, confirm_command}
use Rattle.exchange_steps.proofs.Runs.{given_back}
use Rattle.exchange_commands.specs.declared.CommandKind.TheVariants.{Confirm}
use Rattle.exchange_commands.proofs.Calls.{refused_command, granted_shaped, granted_command}
use Rattle.exchange_commands.proofs.confirm.Goals as goal

pub returns-in_err-geometry : goal.returns-in_err-geometry
unfolding confirm_command
returns-in_err-geometry c =
    let a = c.args in
    let p = err_from_is_err_and c.from_residual.result c.from_residual.ensures.1 in
    rw (p.1, p.2) (refused_command Confirm a.sectors a.size (flash a.boot.now a.update.now a.swap.now) confirm_operations c.in_err-geometry.ensures)

pub do_operation-requires : goal.do_operation-requires
do_operation-requires c =
    let a = c.args in
    (granted_shaped Confirm a.sectors a.size (flash a.boot.now a.update.now a.swap.now) c.in_ok-geometry.ensures, tt)

pub returns : goal.returns
unfolding confirm_command
returns c =
    let a = c.args in
    let o = c.do_operation in
    let k = o.ensures.same in
    granted_command Confirm a.sectors a.size (flash a.boot.now a.update.now a.swap.now) c.in_ok-geometry.ensures confirm_operations
    (given_back o.new.self (search (rules, k)) (search (rules, k)) (search (rules, k)) ∙ o.ensures.bytes)
