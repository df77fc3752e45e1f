use mathlib.Core.Path.{ap, ◌∙◌}
use Rattle.std.proofs.lemmas.Result.{err_from_is_err_and}
use Rattle.flash.specs.Buffers.{flash}
use Rattle.flash.proofs.Answers.{flash_given_lem}
use Rattle.counts.proofs.FirstChecks.{asked_outside, asked_refused, asked_inside}
use Rattle.counts_row.specs.Inner.{counts_answer}
use Rattle.counts_row.proofs.Inside.{fitting}
use Rattle.counts_row.proofs.check_counted.Goals as goal

pub returns-in_err-g : goal.returns-in_err-g
returns-in_err-g c =
    let a = c.args in
    let p = err_from_is_err_and c.from_residual.result c.from_residual.ensures.1 in
    let e = ap counts_answer c.in_err-g.ensures.value ∙ fitting c.check_flash.result ∙ c.check_flash.ensures in
    rw (p.1, p.2) (asked_outside a.sectors a.size (flash a.boot.now a.update.now a.swap.now) a.row.now a.total e)

pub check_row-requires : goal.check_row-requires
check_row-requires c =
    (flash_given_lem _ _ _ _ (ap counts_answer c.in_ok-g.ensures.value ∙ fitting c.check_flash.result ∙ c.check_flash.ensures)).limits

pub returns-in_err-check_row : goal.returns-in_err-check_row
returns-in_err-check_row c =
    let a = c.args in
    let p = err_from_is_err_and c.from_residual-in_err-check_row.result c.from_residual-in_err-check_row.ensures.1 in
    let e = ap counts_answer c.in_ok-g.ensures.value ∙ fitting c.check_flash.result ∙ c.check_flash.ensures in
    rw (p.1, p.2) (asked_refused a.sectors a.size (flash a.boot.now a.update.now a.swap.now) a.row.now a.total e c.in_err-check_row.ensures)

pub returns : goal.returns
returns c =
    let a = c.args in
    let e = ap counts_answer c.in_ok-g.ensures.value ∙ fitting c.check_flash.result ∙ c.check_flash.ensures in
    asked_inside a.sectors a.size (flash a.boot.now a.update.now a.swap.now) a.row.now a.total e c.in_ok-check_row.ensures
