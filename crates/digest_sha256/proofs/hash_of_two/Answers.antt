use Rattle.std.proofs.Common.{◌-◌, ◌%◌, length, refl, arith}
use Rattle.digest_sha256.proofs.Seam.{none_more, block_more}
use Rattle.digest_sha256.proofs.hash_of_two.Goals as goal

pub returns-then-b-k : goal.returns-then-b-k
returns-then-b-k c =
    let a = c.args in
    none_more a.h a.a.now a.b.now c.hash_blocks-s.ensures c.if-b-k.true

pub returns : goal.returns
returns c =
    let a = c.args in
    block_more a.h a.a.now a.b.now c.hash_blocks-s.ensures (64 - length a.a.now % 64) refl (omega arith) refl
    c.lay.ensures c.compress_block.ensures c.hash_blocks.ensures
