use Rattle.std.proofs.Common.{◌≤◌, drop, length}
use Rattle.extent_lists.specs.Operators.{IsChain}
use Rattle.extent_evaluation.specs.Covers.{Covers}
use Rattle.extent_lists.specs.Rows.{sets}
use Rattle.extent_evaluation.proofs.ordered.chains.Given as goal

abbrev pub invariant-loop-i : goal.invariant-loop-i
invariant-loop-i l = record {
  within : l.i ≤ length l.first;
  so_far : Covers (IsChain l.n (sets (drop l.i l.lists))) l.out.items;
}

abbrev pub decreases-loop-i : goal.decreases-loop-i
decreases-loop-i l = l.i
