use Rattle.std.proofs.Common.{◌≡◌}
use Rattle.header_walker.specs.Walker.{after_calls}
use Rattle.header_walker.proofs.nth.Given as goal

abbrev pub invariant-loop : goal.invariant-loop
invariant-loop l = l.w ≡ after_calls l.counter l.initial.w
