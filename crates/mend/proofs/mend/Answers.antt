use Rattle.std.proofs.lemmas.Result.{err_from_is_err_and}
use Rattle.flash.specs.Buffers.{flash}
use Rattle.flash.proofs.Answers.{flash_given_lem}
use Rattle.flash.proofs.Checked.{boot_partition, update_partition}
use Rattle.mend.proofs.Calls.{not_fit, not_permitted, no_mark, mark_written}
use Rattle.mend.proofs.mend.Goals as goal

pub returns-in_default : goal.returns-in_default
returns-in_default c = let a = c.args in not_fit a.sectors a.size (flash a.boot.now a.update.now a.swap.now) c.in_default.ensures

pub permit-requires : goal.permit-requires
permit-requires c =
    let a = c.args in
    let f = flash a.boot.now a.update.now a.swap.now in
    let h = flash_given_lem a.sectors a.size f _ c.in-Some.ensures in
    (boot_partition _ f h, update_partition _ f h)

pub returns-in_err-permit : goal.returns-in_err-permit
returns-in_err-permit c =
    let a = c.args in
    let p = err_from_is_err_and c.from_residual.result c.from_residual.ensures.1 in
    rw (p.1, p.2) (not_permitted a.sectors a.size (flash a.boot.now a.update.now a.swap.now) c.in-Some.ensures c.in_err-permit.ensures)

pub invariant_of-flash : goal.invariant_of-flash
invariant_of-flash c =
    let a = c.args in record { shaped = flash_given_lem a.sectors a.size (flash a.boot.now a.update.now a.swap.now) _ c.in-Some.ensures }

pub returns-in_default-first_fitting : goal.returns-in_default-first_fitting
returns-in_default-first_fitting c =
    let a = c.args in
    no_mark a.sectors a.size (flash a.boot.now a.update.now a.swap.now) c.in-Some.ensures c.in_ok-permit.ensures c.in_default-first_fitting.ensures

pub returns : goal.returns
returns c =
    let a = c.args in
    mark_written a.sectors a.size (flash a.boot.now a.update.now a.swap.now) c.in-Some.ensures c.in_ok-permit.ensures _ _ _ c.in-Some-first_fitting.ensures c.write_flags-bytes.ensures
