use Rattle.std.proofs.Common.{◌≡◌}
use Rattle.store_ends.specs.declared.limits.TheConstants.{LONGEST_NAME}
use Rattle.store_tests.proofs.calls.answered.Given as goal

abbrev pub invariant-loop-i : goal.invariant-loop-i
invariant-loop-i g l = g.T.Store.longest l.store ≡ LONGEST_NAME
