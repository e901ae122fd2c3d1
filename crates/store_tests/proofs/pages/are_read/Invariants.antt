use Rattle.std.proofs.Common.{◌≡◌}
use Rattle.store_ends.specs.declared.limits.TheConstants.{LONGEST_NAME}
use Rattle.store_tests.proofs.pages.are_read.Given as goal

abbrev pub invariant-loop-at : goal.invariant-loop-at
invariant-loop-at g l = g.T.Store.longest l.store ≡ LONGEST_NAME
