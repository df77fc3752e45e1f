use Rattle.std.proofs.Common.{◌≡◌, length, take, arith, length-take-le}
use Rattle.digest_sha256.proofs.Pending.{split_law, full_count}
use Rattle.digest_sha256.proofs.Hasher.absorb.Goals as goal

pub absorb_blocks-requires : goal.absorb_blocks-requires
absorb_blocks-requires c =
    let k = c.min-k.result in
    let p = c.args.part.now in
    let e : length (take k p) ≡ k = length-take-le k p (omega arith) in
    full_count c.args.self c.top_up-d.result (take k p) (omega arith) c.top_up-d.ensures

pub returns : goal.returns
returns c =
    let t = c.top_up-d in
    let k = c.min-k.result in
    split_law c.args.self t.result c.args.part.now k t.ensures c.absorb_blocks.ensures
