use Rattle.std.proofs.Common.{◌∙◌, refl, arith}
use Rattle.digest_sha256.proofs.Pending.{laid_waiting, waits_law, full_law}
use Rattle.digest_sha256.proofs.Hasher.top_up.Goals as goal

pub returns-then-fill-part-lt64 : goal.returns-then-fill-part-lt64
returns-then-fill-part-lt64 c = let a = c.args in waits_law a.self a.part.now (omega arith) (c.lay.ensures ∙ laid_waiting a.self a.part.now (omega arith)) refl

pub returns : goal.returns
returns c =
    let a = c.args in
    full_law a.self a.part.now (omega arith) (c.lay.ensures ∙ laid_waiting a.self a.part.now (omega arith)) c.compress_block-self.ensures refl
