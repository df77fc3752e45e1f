use mathlib.Core.Path.{◌∙◌}
use native.Mathlib.Omega.{arith}
use Rattle.header_sealed.proofs.Answers.{sealed_no_hint, sealed_written, written_on}
use Rattle.header_sealed.proofs.write_sealed.Goals as goal

pub returns-then-not-v : goal.returns-then-not-v
returns-then-not-v c = sealed_no_hint c.args.v c.args.out.now (omega arith) (λ e. omega arith) c.if-not-v.true

pub returns-in_err-write_header : goal.returns-in_err-write_header
returns-in_err-write_header c = written_on c.args.v c.args.out.now _ _ c.from_residual.ensures.1 c.in_err-write_header.ensures c.if-not-v.false

pub returns : goal.returns
returns c = c.in_ok-write_header.ensures ∙ sealed_written c.args.v c.args.out.now c.if-not-v.false
