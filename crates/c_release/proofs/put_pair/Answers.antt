use Rattle.c_headers.proofs.Filled.{filled}
use Rattle.output.proofs.Laws.{puts_then}
use native.Mathlib.Omega.{arith}
use lib.ListN.{length-append}
use Rattle.c_release.proofs.put_pair.Goals as goal

pub returns : goal.returns
returns c =
    let x = c.put in
    filled {q = x.result} (puts_then c.put-hint_at.ensures x.ensures) (simp length-append (omega arith))
