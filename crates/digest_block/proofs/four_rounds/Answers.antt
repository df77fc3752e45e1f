use Rattle.std.proofs.Common.{◌+◌, refl, arith}
use Rattle.digest_fips180.specs.Sha256.{K}
use Rattle.digest_block.proofs.Steps.{round_more}
use Rattle.digest_block.proofs.four_rounds.Goals as goal

pub returns : goal.returns
unfolding K
returns c = λ begin e.
    let t = c.args.t in
    let r1 = round_more begin t (t + 1) e c.round_on-x1.ensures refl in
    let r2 = round_more begin (t + 1) (t + 2) r1 c.round_on-x2.ensures (omega arith) in
    let r3 = round_more begin (t + 2) (t + 3) r2 c.round_on-x3.ensures (omega arith) in
    round_more begin (t + 3) (t + 4) r3 c.round_on.ensures (omega arith)
