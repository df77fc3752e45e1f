use Rattle.std.proofs.Common.{ℕ, ◌%◌, ◌^◌, ◌++◌, sym, ap, ◌∙◌, length-append}
use Rattle.digest_fips180.specs.Sha256.{H0}
use Rattle.digest_sha256.proofs.Seam.{wrapped}
use Rattle.digest_sha256.proofs.digest_of_two.Goals as goal

pub returns : goal.returns
unfolding H0
returns c =
    let a = c.args in
    c.digest_from_two.ensures
    ∙ wrapped (a.a.now ++ a.b.now) _ (ap (λ (n : ℕ). n % 2 ^ 64) (sym (length-append a.a.now a.b.now)))
