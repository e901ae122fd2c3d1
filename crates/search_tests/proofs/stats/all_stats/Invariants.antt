use Rattle.std.proofs.Common.{◌≡◌, length}
use Rattle.std.specs.List.{All}
use Rattle.belief_nodes.specs.Leaves.{AreLeafStats}
use Rattle.search_tests.proofs.stats.all_stats.Given as goal

abbrev pub invariant-loop-leaf : goal.invariant-loop-leaf
invariant-loop-leaf l = record {
  each : length l.all.items ≡ l.leaf-index;
  range : All (λ s. AreLeafStats s) l.all.items;
}
