use Rattle.std.proofs.Common.{◌≡◌, length, arith}
use Rattle.digest_sha256.proofs.Pending.{finished_law}
use Rattle.digest_sha256.proofs.Hasher.finish.Goals as goal

pub returns : goal.returns
returns c =
    let d = c.args.self in
    let l : length d.pending ≡ 64 = omega arith in finished_law d l c.digest_from.ensures
