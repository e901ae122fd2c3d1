use Rattle.std.proofs.Common.{◌≤◌, drop, length}
use Rattle.extent_evaluation.specs.Covers.{Covers}
use Rattle.extent_evaluation.proofs.WindowLemmas.{Encloses}
use Rattle.extent_evaluation.proofs.unordered.windows.Given as goal

abbrev pub invariant-loop-i : goal.invariant-loop-i
invariant-loop-i l = record {
  within : l.i ≤ length l.lists;
  so_far : Covers (Encloses l.lists (drop l.i l.lists)) l.out.items;
}

abbrev pub decreases-loop-i : goal.decreases-loop-i
decreases-loop-i l = l.i
