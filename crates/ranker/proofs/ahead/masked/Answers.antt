use Rattle.std.proofs.Common.{◌/◌, List, map, subst}
use Rattle.ri_base.specs.Query.{filter_tree}
use Rattle.query_check.specs.Leaves.{LeafTree}
use Rattle.belief_nodes.specs.Network.{network_tree}
use Rattle.range_masks.specs.Masks.{IsMask}
use Rattle.range_masks.specs.May.{query_may}
use Rattle.ranker.proofs.AheadLemmas.{IsAhead-mask}
use Rattle.ranker.proofs.ahead.masked.Goals as goal

pub returns-clause-ahead : goal.returns-clause-ahead
returns-clause-ahead g c = λ sound span read ahead.
    let docs = g.P.Postings.documents c.args.part.now in
    let filters = map filter_tree c.args.filters.now in
    let leaves = (network_tree c.args.network.now).leaves in
    let mask = c.in_ok-mask.mask in
    IsAhead-mask filters leaves docs c.args.id c.args.ahead.end mask c.args.ahead.bound (span.short read)
    (subst (λ (ls : List LeafTree). IsMask (query_may filters ls) (c.args.id / 64) docs mask) c.leaves.ensures (c.in_ok-mask.ensures.exact sound))
