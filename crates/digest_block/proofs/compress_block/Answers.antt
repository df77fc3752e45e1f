use native.Mathlib.Omega.{arith}
use Rattle.digest_fips180.specs.Sha256.{words, compress}
use Rattle.digest_rounds.proofs.Window.{same_variables, each_block_has_sixteen}
use Rattle.digest_block.proofs.compress_block.Goals as goal

pub returns : goal.returns
unfolding compress
returns c =
    let a = c.args in
    simp (c.next_hash.ensures, c.do_rounds-x.ensures, c.load.ensures, same_variables (words a.b.now) a.h 64 (each_block_has_sixteen a.b.now) (omega arith))
