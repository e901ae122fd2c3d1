use Rattle.std.proofs.Common.{◌≤◌, drop, length, reverse}
use Rattle.extent_evaluation.specs.Nearest.{Leads}
use Rattle.extent_lists.specs.Operators.{Joins}
use Rattle.extent_evaluation.specs.Covers.{Finds}
use Rattle.extent_lists.specs.Rows.{Has}
use Rattle.extent_evaluation.proofs.ordered.following.Given as goal

abbrev pub invariant-loop-i : goal.invariant-loop-i
invariant-loop-i l = record {
  within : l.i ≤ length l.firsts;
  reached : l.reach.count ≤ length l.later;
  leads : Leads l.later l.n l.reach.low l.reach.count;
  so_far : Finds (Joins l.n (Has (drop l.i l.firsts)) (Has l.later)) (reverse l.out.items);
}

abbrev pub decreases-loop-i : goal.decreases-loop-i
decreases-loop-i l = l.i
