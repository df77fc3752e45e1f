use mathlib.Core.Path.{ap, ◌∙◌}
use Rattle.std.proofs.lemmas.Result.{err_from_is_err_and}
use Rattle.flash.specs.Buffers.{flash}
use Rattle.flash.proofs.Answers.{flash_given_lem}
use Rattle.flash.proofs.Checked.{boot_partition, update_partition}
use Rattle.exchange_commands.specs.Numbers.{command_of}
use Rattle.exchange_commands.proofs.Calls.{asked, not_fit, decided}
use Rattle.exchange_commands.proofs.permit.Goals as goal

pub returns-in_err-g : goal.returns-in_err-g
returns-in_err-g c =
    let a = c.args in
    let p = err_from_is_err_and c.from_residual.result c.from_residual.ensures.1 in
    rw (p.1, p.2)
    (not_fit a.kind a.sectors a.size (flash a.boot.now a.update.now a.swap.now) (ap command_of c.in_err-g.ensures.value ∙ asked c.check_flash.result ∙ c.check_flash.ensures))

pub decide-requires : goal.decide-requires
decide-requires c =
    let a = c.args in
    let f = flash a.boot.now a.update.now a.swap.now in
    let h = flash_given_lem a.sectors a.size f _ (ap command_of c.in_ok-g.ensures.value ∙ asked c.check_flash.result ∙ c.check_flash.ensures) in
    (boot_partition _ f h, update_partition _ f h)

pub returns-in_err-decide : goal.returns-in_err-decide
returns-in_err-decide c =
    let a = c.args in
    let p = err_from_is_err_and c.from_residual-in_err-decide.result c.from_residual-in_err-decide.ensures.1 in
    rw (p.1, p.2)
    (decided a.kind a.sectors a.size (flash a.boot.now a.update.now a.swap.now) (ap command_of c.in_ok-g.ensures.value ∙ asked c.check_flash.result ∙ c.check_flash.ensures) c.in_err-decide.ensures)

pub returns : goal.returns
returns c =
    let a = c.args in
    decided a.kind a.sectors a.size (flash a.boot.now a.update.now a.swap.now) (ap command_of c.in_ok-g.ensures.value ∙ asked c.check_flash.result ∙ c.check_flash.ensures) c.in_ok-decide.ensures
