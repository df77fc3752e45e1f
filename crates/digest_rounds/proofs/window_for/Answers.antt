use Rattle.std.proofs.Common.{refl, arith, lt-ltb}
use Rattle.digest_rounds.specs.Window.{window_for}
use Rattle.digest_rounds.proofs.Window.{stored}
use Rattle.digest_rounds.proofs.window_for.Goals as goal

pub returns-then-t-lt16 : goal.returns-then-t-lt16
unfolding window_for
returns-then-t-lt16 c = rw (lt-ltb _ 16 c.if-t-lt16.true) refl

pub returns : goal.returns
returns c = let a = c.args in stored a.v a.t (omega arith) c.next_word-x.ensures
