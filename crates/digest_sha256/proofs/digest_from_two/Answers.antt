use Rattle.digest_sha256.proofs.Seam.{left_over, ends_both}
use Rattle.digest_sha256.proofs.digest_from_two.Goals as goal

pub returns : goal.returns
returns c =
    let a = c.args in
    ends_both a.a.now a.b.now _ c.min-k.result (left_over _ _) c.min-k.ensures a.h a.count c.hash_of_two.ensures c.digest_after.ensures
