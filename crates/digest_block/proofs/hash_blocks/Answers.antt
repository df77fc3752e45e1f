use Rattle.std.proofs.Common.{rules, [], ◌∷◌, ◌∙◌, arith, length-append}
use Rattle.digest_block.proofs.Steps.{hashed_none, hashed_more, hashed_all}
use Rattle.digest_block.proofs.hash_blocks.Goals as goal

pub loop-block-init : goal.loop-block-init
loop-block-init c = (hashed_none c.args.h c.args.m.now (search rules), search rules)

pub loop-block-preserved : goal.loop-block-preserved
loop-block-preserved c =
    let l = c.loop-block in
    let step = c.in-Some.ensures.steps in
    let size = l.invariant.1 in
    (hashed_more _ _ l.invariant.0 (length-append l.yielded (c.in-Some.block ∷ [])) step.1.0 (step.1.1 ∙ size) c.compress_block-next.ensures, step.0 ∙ size)

pub returns : goal.returns
returns c = let step = c.in-None.ensures.steps in hashed_all c.loop-block.invariant.0 (omega arith)
