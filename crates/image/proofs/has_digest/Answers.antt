use mathlib.Core.Path.{◌≡◌, sym, ◌∙◌}
use mathlib.Core.List.{◌++◌}
use lib.Pointwise.{bytes_decides}
use Rattle.digest_fips180.specs.Sha256.{sha256}
use Rattle.header_tags.proofs.Same.{same_is}
use Rattle.image.proofs.has_digest.Goals as goal

pub returns : goal.returns
returns c =
    let is : c.as_slice.result.now ≡ sha256 (c.args.before.now ++ c.args.firmware.now) = c.as_slice.ensures ∙ c.digest_of_two-digest.ensures in
    let w = bytes_decides c.as_slice.result.now c.args.stated.now in
    same_is _ _ c.eq.result (λ e. sym is ∙ w.0 (sym c.eq.ensures ∙ e)) (λ e. c.eq.ensures ∙ w.1 (is ∙ e))
