use Rattle.std.proofs.Common.{length, ◌-◌, ◌≤◌}
use Rattle.store_ends.proofs.folder.fill.Given as goal

abbrev pub invariant-loop-count : goal.invariant-loop-count
invariant-loop-count g l = l.count ≤ length l.buf

abbrev pub decreases-loop-count : goal.decreases-loop-count
decreases-loop-count g l = length l.initial.buf - l.count
