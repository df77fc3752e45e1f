use Rattle.std.proofs.Common.{rules}
use Rattle.digest_fips180.specs.Sha256.{◌!◌, ◌⊞◌, first, next_hash}
use Rattle.digest_fips180.proofs.First.{from_fn_made}
use Rattle.digest_block.proofs.next_hash.Goals as goal

pub returns : goal.returns
unfolding first next_hash
returns c =
    let a = c.args in
    from_fn_made (λ i. a.s ! i ⊞ a.h ! i) (λ i x d called. search rules) c.from_fn.ensures.items
