use Rattle.std.proofs.Common.{◌≡◌, ◌≤◌, drop, length}
use Rattle.extent_walks.specs.Shapes.{first_of, list_shape}
use Rattle.extent_walks.proofs.listed.Listed.shape.Given as goal

abbrev pub invariant-loop-i : goal.invariant-loop-i
invariant-loop-i l = record {
  within : l.i ≤ length l.self-inside.items.items;
  shape : l.shape ≡ list_shape (drop l.i l.self-inside.items.items);
  next : l.next ≡ first_of (drop l.i l.self-inside.items.items);
}

abbrev pub decreases-loop-i : goal.decreases-loop-i
decreases-loop-i l = l.i
