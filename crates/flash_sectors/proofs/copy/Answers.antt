use mathlib.Core.Path.{ap, ◌∙◌}
use mathlib.Core.List.{List}
use Prim.Native.Nat.{ℕ, ◌≤◌, ◌<◌}
use native.Mathlib.Omega.{arith}
use lib.ListN.{length, get_or, set}
use borrow.Author.Tests.{eq-eqb}
use Rattle.std.proofs.Common.{Ok}
use Rattle.flash_sectors.specs.Copying.{copied, copy_of}
use Rattle.flash_sectors.proofs.Lent.{copy_more, copy_done}
use Rattle.flash_sectors.proofs.copy.Goals as goal

pub loop-i-preserved : goal.loop-i-preserved
loop-i-preserved c =
    let l = c.loop-i in
    let a = c.args in
    let hd : l.i < length a.target.now = omega arith in
    let hs : l.i < length a.source.now = omega arith in
    ap (λ (x : List ℕ). set x l.i (get_or a.source.now l.i 0)) l.invariant ∙ copy_more _ _ l.i hs hd

pub returns : goal.returns
unfolding copy_of
returns c =
    let l = c.loop-i in
    let a = c.args in
    let d : length a.target.now ≤ l.i = omega arith in
    let e : length a.source.now ≤ l.i = omega arith in
    rw (eq-eqb (length a.target.now) (length a.source.now) (omega arith)) (ap (copied (Ok tt)) (l.invariant ∙ copy_done a.source.now a.target.now l.i e d))
