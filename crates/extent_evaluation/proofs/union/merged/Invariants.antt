use Rattle.std.proofs.Common.{◌≡◌, ◌≤◌, ◌-◌, ◌+◌, ◌++◌, length, drop}
use Rattle.extent_evaluation.proofs.MergeLemmas.{merge}
use Rattle.extent_evaluation.proofs.union.merged.Given as goal

abbrev pub invariant-loop-i : goal.invariant-loop-i
invariant-loop-i l = record {
  left : l.i ≤ length l.a;
  right : l.j ≤ length l.b;
  total : l.out.items ++ merge (drop l.i l.a) (drop l.j l.b) ≡ merge l.a l.b;
}

abbrev pub decreases-loop-i : goal.decreases-loop-i
decreases-loop-i l = (length l.a - l.i) + (length l.b - l.j)
