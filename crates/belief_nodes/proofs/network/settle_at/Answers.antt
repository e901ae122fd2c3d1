use Rattle.std.proofs.Common.{rules}
use Rattle.belief_nodes.proofs.Plugs.{map-slice_set}
use Rattle.belief_nodes.proofs.network.settle_at.Goals as goal

pub returns-clause-stay : goal.returns-clause-stay
returns-clause-stay g c = search (rules, map-slice_set)
