use Rattle.std.proofs.Common.{◌≡◌, ◌++◌, refl, ap, ◌∙◌, arith, length-append}
use Rattle.digest_fips180.specs.Sha256.{bytes, padding}
use Rattle.digest_sha256.specs.Parts.{hash_over, digest_after}
use Rattle.digest_sha256.proofs.Pending.{laid_is}
use Rattle.digest_sha256.proofs.Padding.{marked_law, ends_law, more_law}
use Rattle.digest_sha256.proofs.digest_after.Goals as goal
use Rattle.digest_sha256.proofs.digest_after.Goals.{then-n-ge56, else-n-ge56}

pub returns : goal.returns
unfolding digest_after
returns c =
    let s = c.args in
    let r = s.x.now ++ s.y.now in
    let l = length-append s.x.now s.y.now in
    let t = marked_law r _ l (omega arith) (c.lay.ensures ∙ laid_is s.x.now s.y.now) refl in
    let done : c.compress_block.result ≡ hash_over s.h (r ++ padding s.count) = elim c.if-n-ge56.branch [
      | then-n-ge56 w ↦ more_law s.h r s.count (l ∙ c.requires) (omega (arith, l)) t w.b-is (w.s-is ∙ w.compress_block-s.ensures) c.put_length.ensures c.compress_block.ensures
      | else-n-ge56 w ↦ ends_law s.h r s.count (l ∙ c.requires) (omega (arith, l)) (w.b-is ∙ t) w.s-is c.put_length.ensures c.compress_block.ensures
    ] in
    c.words_to_bytes.ensures ∙ ap bytes done
