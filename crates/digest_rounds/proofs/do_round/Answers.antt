use Rattle.digest_rounds.proofs.Bits.{round_by}
use Rattle.digest_rounds.proofs.do_round.Goals as goal

pub returns : goal.returns
returns c =
    let a = c.args in
    rw (c.ch.ensures, c.big_sigma1.ensures, c.big_sigma0.ensures, c.maj.ensures) (round_by a.s a.k a.w)
