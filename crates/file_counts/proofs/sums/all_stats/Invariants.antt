use Rattle.std.proofs.Common.{◌≡◌, length}
use Rattle.std.specs.List.{All}
use Rattle.belief_nodes.specs.Leaves.{AreLeafStats}
use Rattle.file_counts.proofs.sums.all_stats.Given as goal

abbrev pub invariant-loop-leaf : goal.invariant-loop-leaf
invariant-loop-leaf g l = record {
  each : length l.all.items ≡ l.leaf-index;
  range : All (λ s. AreLeafStats s) l.all.items;
}
