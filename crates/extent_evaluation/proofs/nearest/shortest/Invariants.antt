use Rattle.std.proofs.Common.{◌≤◌, ◌<◌, ◌-◌, ℕ}
use Rattle.extent_lists.specs.Rows.{begin_at, end_at}
use Rattle.extent_evaluation.proofs.nearest.shortest.Given as goal

abbrev pub invariant-loop-count : goal.invariant-loop-count
invariant-loop-count l = record {
  within : l.count ≤ l.fn.count;
  some : 0 < l.fn.count → 0 < l.count;
  moved : l.count < l.fn.count → l.low ≤ begin_at l.ys (l.count - 1);
  behind : (k : ℕ) → l.count ≤ k → k < l.fn.count → end_at l.ys (l.count - 1) ≤ end_at l.ys k;
}

abbrev pub decreases-loop-count : goal.decreases-loop-count
decreases-loop-count l = l.count
