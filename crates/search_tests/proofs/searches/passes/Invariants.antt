use Rattle.std.proofs.Common.{All}
use Rattle.belief_nodes.specs.Leaves.{HasPrior}
use Rattle.belief_nodes.specs.Network.{network_tree}
use Rattle.search_tests.proofs.searches.passes.Given as goal

abbrev pub invariant-loop : goal.invariant-loop
invariant-loop l = All (HasPrior 0) (network_tree l.search.network).leaves
