use native.Mathlib.Omega.{arith}
use Rattle.flash.proofs.Answers.{flash_outside, update_unequal, swap_unequal, flash_equal}
use Rattle.flash.proofs.check_flash.Goals as goal

pub returns-then-update-boot : goal.returns-then-update-boot
returns-then-update-boot c =
    let a = c.args in
    update_unequal a.sectors a.size a.boot.now a.update.now a.swap.now _ c.in_ok-g.ensures (λ e. omega arith)

pub returns-then-swap-g : goal.returns-then-swap-g
returns-then-swap-g c =
    let a = c.args in
    swap_unequal a.sectors a.size a.boot.now a.update.now a.swap.now _ c.in_ok-g.ensures (λ e. omega arith)

pub returns : goal.returns
returns c =
    let a = c.args in
    flash_equal a.sectors a.size a.boot.now a.update.now a.swap.now _ c.in_ok-g.ensures (omega arith) (omega arith)

pub returns-in_err-g : goal.returns-in_err-g
returns-in_err-g c =
    let a = c.args in
    rw c.from_residual.ensures (flash_outside a.sectors a.size a.boot.now a.update.now a.swap.now c.in_err-g.ensures)
