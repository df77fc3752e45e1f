use Rattle.std.proofs.Common.{ℕ, List, ap, ◌∙◌, append-nil, arith}
use Rattle.digest_sha256.specs.Parts.{digest_after}
use Rattle.digest_sha256.proofs.Pending.{behind_blocks}
use Rattle.digest_sha256.proofs.digest_from.Goals as goal

pub returns : goal.returns
returns c =
    let a = c.args in
    let h = c.hash_blocks in
    c.digest_after.ensures
    ∙ ap (λ (l : List ℕ). digest_after h.result l a.count) (append-nil _)
    ∙ behind_blocks a.h a.rest.now a.count _ _ (omega arith) h.ensures
