use Rattle.std.proofs.Common.{◌≡◌, ◌≤◌, drop, length}
use Rattle.extent_walks.specs.Shapes.{plans_shape}
use Rattle.extent_walks.specs.Walks.{plans}
use Rattle.extent_walks.proofs.walk.weakest.Given as goal

abbrev pub invariant-loop-i : goal.invariant-loop-i
invariant-loop-i l = record {
  inside : l.i ≤ length l.all;
  shape : l.shape ≡ plans_shape (plans (drop l.i l.all));
}

abbrev pub decreases-loop-i : goal.decreases-loop-i
decreases-loop-i l = l.i
