use Rattle.std.proofs.Common.{◌≤◌, ◌<◌, ℕ, drop, length, reverse}
use Rattle.extent_evaluation.specs.Nearest.{IsTail}
use Rattle.extent_lists.specs.Rows.{begin_at}
use Rattle.extent_evaluation.proofs.WindowLemmas.{IsWidened}
use Rattle.extent_evaluation.proofs.unordered.widened.Given as goal

abbrev pub invariant-loop-i : goal.invariant-loop-i
invariant-loop-i l = record {
  within : l.i ≤ length l.xs;
  tail : (j : ℕ) → j < l.i → IsTail l.list (begin_at l.xs j) l.tail.from l.tail.least;
  so_far : IsWidened l.list (drop l.i l.xs) (reverse l.out.items);
}

abbrev pub decreases-loop-i : goal.decreases-loop-i
decreases-loop-i l = l.i
