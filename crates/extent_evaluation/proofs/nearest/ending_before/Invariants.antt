use Rattle.std.proofs.Common.{◌≤◌, ◌<◌, ℕ, length}
use Rattle.extent_lists.specs.Rows.{end_at}
use Rattle.extent_evaluation.proofs.nearest.ending_before.Given as goal

abbrev pub invariant-loop-count : goal.invariant-loop-count
invariant-loop-count l = record {
  within : l.count ≤ length l.table;
  between : (k : ℕ) → l.count ≤ k → k < length l.table → l.end ≤ end_at l.ys k;
}

abbrev pub decreases-loop-count : goal.decreases-loop-count
decreases-loop-count l = l.count
