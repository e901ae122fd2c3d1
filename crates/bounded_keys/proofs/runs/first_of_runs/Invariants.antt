use Rattle.std.proofs.Common.{◌≡◌, List, ◌++◌, length}
use Rattle.std.specs.List.Sorted.{IsPermutation}
use Rattle.bounded_keys.specs.Runs.{HoldsRuns}
use Rattle.bounded_keys.proofs.runs.first_of_runs.Given as goal

abbrev pub invariant-loop-item : goal.invariant-loop-item
invariant-loop-item g l = record {
  most : l.runs.most ≡ l.fn.most;
  runs : (taken : List g.row.T.Denot) × IsPermutation l.fn.items.items (l.items.items ++ taken)
      × HoldsRuns g.T.Leading.before l.fn.most taken l.runs.run l.runs.full.items l.runs.items.items;
}

abbrev pub decreases-loop-item : goal.decreases-loop-item
decreases-loop-item g l = length l.items.items
