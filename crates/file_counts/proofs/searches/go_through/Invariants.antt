use Rattle.std.proofs.Common.{All}
use Rattle.belief_nodes.specs.Leaves.{HasPrior}
use Rattle.belief_nodes.specs.Network.{network_tree}
use Rattle.file_counts.proofs.searches.go_through.Given as goal

abbrev pub invariant-loop : goal.invariant-loop
invariant-loop g l = All (HasPrior 0) (network_tree l.search.network).leaves
