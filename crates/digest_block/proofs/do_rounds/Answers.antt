use Rattle.digest_block.proofs.Steps.{none}
use Rattle.digest_block.proofs.do_rounds.Goals as goal

pub loop-i-init : goal.loop-i-init
loop-i-init c = none c.args.m c.args.h
