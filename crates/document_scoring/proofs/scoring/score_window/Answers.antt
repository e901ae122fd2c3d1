use Rattle.std.proofs.Common.{List, sym, subst, ◌∙◌}
use Rattle.std.specs.List.{All}
use Rattle.belief_nodes.specs.Leaves.{IsLeafCount}
use Rattle.belief_nodes.specs.declared.leaf_count.LeafCount.{LeafCount}
use Rattle.document_scoring.proofs.CounterLemmas.{count_ranges}
use Rattle.document_scoring.proofs.scoring.score_window.Goals as goal

pub scored-requires-clause-counts : goal.scored-requires-clause-counts
scored-requires-clause-counts g c =
    subst (λ (ns : List LeafCount). All (λ n. IsLeafCount n) ns) (sym (c.deref-2.ensures.value ∙ c.in_ok-counts.ensures.exact))
    (count_ranges c.args.window.begin c.args.counters.now c.args.window c.requires.within c.requires.ready)
