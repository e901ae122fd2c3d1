use Rattle.std.proofs.Common.{◌≤◌, drop, length, reverse}
use Rattle.extent_lists.specs.Rows.{Has}
use Rattle.extent_evaluation.proofs.CoverLemmas.{CoversFrom}
use Rattle.extent_evaluation.proofs.ends.least_ends.Given as goal

abbrev pub invariant-loop-i : goal.invariant-loop-i
invariant-loop-i l = record {
  within : l.i ≤ length l.xs;
  so_far : CoversFrom (Has (drop l.i l.xs)) (drop l.i l.xs) (reverse l.out.items);
}

abbrev pub decreases-loop-i : goal.decreases-loop-i
decreases-loop-i l = l.i
