use Rattle.digest_rounds.proofs.Window.{rounded}
use Rattle.digest_rounds.proofs.round_on.Goals as goal

pub returns : goal.returns
returns c =
    let a = c.args in
    rounded a.x a.t a.k c.window_for-w.ensures c.do_round.ensures
