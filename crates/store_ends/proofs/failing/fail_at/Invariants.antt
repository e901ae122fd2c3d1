use Rattle.std.proofs.Common.{◌≡◌, drop}
use Rattle.store_ends.specs.Past.{failing_call}
use Rattle.store_ends.proofs.failing.fail_at.Given as goal

abbrev pub invariant-loop-fail : goal.invariant-loop-fail
invariant-loop-fail l = failing_call (drop l.fail-index l.fails) l.call ≡ failing_call l.fails l.call
