use Rattle.std.proofs.Common.{◌≤◌, ◌<◌, ℕ}
use Rattle.extent_lists.specs.Rows.{begin_at}
use Rattle.extent_evaluation.proofs.nearest.begins_below.Given as goal

abbrev pub invariant-loop-count : goal.invariant-loop-count
invariant-loop-count l = record {
  within : l.count ≤ l.fn.count;
  others : (k : ℕ) → l.count ≤ k → k < l.fn.count → l.top ≤ begin_at l.ys k;
}

abbrev pub decreases-loop-count : goal.decreases-loop-count
decreases-loop-count l = l.count
