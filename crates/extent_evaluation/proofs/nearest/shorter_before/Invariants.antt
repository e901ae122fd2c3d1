use Rattle.std.proofs.Common.{◌≡◌, ◌<◌, ℕ, length, slice_index}
use Rattle.extent_evaluation.specs.Nearest.{IsShorterAt}
use Rattle.extent_lists.specs.Rows.{end_at}
use Rattle.extent_evaluation.proofs.nearest.shorter_before.Given as goal

abbrev pub invariant-loop-y : goal.invariant-loop-y
invariant-loop-y l = record {
  lengths : length l.table.items ≡ l.y-index;
  each : (j : ℕ) → j < length l.table.items → IsShorterAt l.ys j (slice_index l.table.items j) (end_at l.ys j);
}
