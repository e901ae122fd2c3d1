use Rattle.std.proofs.Common.{rules, ◌≡◌, ◌<◌, ◌+◌, ◌∙◌, ◌++◌, ◌∷◌, [], List, length, get_or, map, take, sym, ap, subst, arith}
use Rattle.std.specs.Prelude.{All}
use Rattle.std.specs.Option.{option_copied}
use Rattle.std.proofs.Math.ListN.{get_or-map}
use Rattle.std.proofs.lemmas.List.{get_or_default, length-map, map-append}
use Rattle.ri_base.specs.Ratio.{ratio_of}
use Rattle.ri_base.specs.declared.hit.LeafStats.{LeafStats}
use Rattle.ri_base.specs.declared.query.Range.{Range}
use Rattle.query_check.specs.Leaves.{LeafTree, leaf_tree}
use Rattle.query_check.specs.Trees.{scaled_tree}
use Rattle.belief_nodes.specs.Leaves.{HasPrior}
use Rattle.belief_nodes.specs.Priors.{IsPrior}
use Rattle.range_bounds.specs.Bounds.{IsToldBound}
use Rattle.range_bounds.specs.Ranges.{range_documents}
use Rattle.range_bounds.specs.Tables.{AreCountsOf, names_of, terms_of}
use Rattle.range_bounds.specs.declared.range_counts.RangeCounts.{RangeCounts}
use Rattle.range_bounds.proofs.Covers.{all_covered}
use Rattle.range_bounds.proofs.Leads.{all_are_beliefs, are_beliefs, each_told, keys_lead}
use Rattle.range_bounds.proofs.Told.{AreToldBounds, all_told, bounds_length, bounds_more, bounds_told, counts_told}
use Rattle.range_bounds.proofs.table.RangeTable.bound_fractions.Goals as goal

pub leaf_bound-bound-requires-clause-plugs : goal.leaf_bound-bound-requires-clause-plugs
leaf_bound-bound-requires-clause-plugs g c =
    let leaves = c.leaves-leaf-items.result.now in
    let leaf = c.leaf-item.result in
    let many = length c.args.plugs.now in
    let inside : c.loop-i.i < length (map leaf_tree leaves) = rw (length-map leaves leaf_tree) c.loop-i-test.true in
    let at : get_or (map leaf_tree leaves) c.loop-i.i (leaf_tree leaf) ≡ leaf_tree leaf = get_or-map leaf_tree leaves c.loop-i.i leaf ∙ ap leaf_tree (sym c.leaf-item.is) in
    let each : All (HasPrior many) (map leaf_tree leaves) = subst (All (HasPrior many)) (sym c.leaves-leaf-items.ensures) c.requires.plugs in
    subst (HasPrior many) at (each c.loop-i.i (leaf_tree leaf) inside)

pub loop-i-preserved : goal.loop-i-preserved
loop-i-preserved g c =
    let kind = c.args.rule.now.kind in
    let priors = map (λ b. (goal.BeliefNode-dyn g (b.vtable, b.value)).meaning b.value) c.args.plugs.now in
    let table = c.args.self.now in
    let counts = c.unwrap-counts.result.now in
    let network = c.args.network.now in
    let leaves : List LeafTree = map leaf_tree network.leaves.items in
    let items = c.leaves-leaf-items.result.now in
    let i = c.loop-i.i in
    let leaf = c.leaf-item.result in
    let none : LeafStats = record { cf = 0; total = 0 } in
    let stat : LeafStats = get_or network.stats.items i none in
    let told : map leaf_tree items ≡ leaves = c.leaves-leaf-items.ensures in
    let first : i < length (map leaf_tree items) = rw (length-map items leaf_tree) c.loop-i-test.true in
    let inside : i < length leaves = subst (λ (ls : List LeafTree). i < length ls) told first in
    let here : leaf_tree leaf ≡ get_or leaves i (leaf_tree leaf) =
    subst (λ (ls : List LeafTree). leaf_tree leaf ≡ get_or ls i (leaf_tree leaf)) told (ap leaf_tree c.leaf-item.is ∙ sym (get_or-map leaf_tree items i leaf)) in
    let short : i < length network.stats.items = omega (arith, inside, network.kept.each) in
    let stat_at : stat ≡ get_or network.stats.items i stat = get_or_default network.stats.items i none stat short in
    let bound : IsToldBound kind priors network.range table counts (leaf_tree leaf) stat (ratio_of c.leaf_bound-bound.result) =
    subst (λ (ss : List LeafStats). IsToldBound kind priors network.range table counts (leaf_tree leaf) (get_or ss i none) (ratio_of c.leaf_bound-bound.result)) c.stats-stats.ensures
    (subst (λ (r : Range). IsToldBound kind priors r table counts (leaf_tree leaf) (get_or c.stats-stats.result.now i none) (ratio_of c.leaf_bound-bound.result)) c.range.ensures c.leaf_bound-bound.ensures) in
    let pushed : c.push.new.self.items ≡ c.loop-i.bounds.items ++ c.leaf_bound-bound.result ∷ [] = search rules in
    let more : map ratio_of c.push.new.self.items ≡ map ratio_of c.loop-i.bounds.items ++ ratio_of c.leaf_bound-bound.result ∷ [] =
    ap (map ratio_of) pushed ∙ map-append ratio_of c.loop-i.bounds.items (c.leaf_bound-bound.result ∷ []) in
    subst (AreToldBounds kind priors network.range table counts (take (i + 1) leaves) (take (i + 1) network.stats.items)) (sym more)
    (bounds_more kind priors network.range table counts leaves network.stats.items (map ratio_of c.loop-i.bounds.items) i (leaf_tree leaf) stat (ratio_of c.leaf_bound-bound.result)
    inside short here stat_at c.loop-i.invariant bound)

pub returns-clause-each : goal.returns-clause-each
returns-clause-each g c =
    let kind = c.args.rule.now.kind in
    let priors = map (λ b. (goal.BeliefNode-dyn g (b.vtable, b.value)).meaning b.value) c.args.plugs.now in
    let network = c.args.network.now in
    let leaves : List LeafTree = map leaf_tree network.leaves.items in
    let bounds = map ratio_of c.loop-i.bounds.items in
    let all = all_told kind priors network.range c.args.self.now c.unwrap-counts.result.now leaf_tree _ leaves network.stats.items bounds c.loop-i.i c.leaves-leaf-items.ensures c.loop-i-test.false network.kept.each c.loop-i.invariant in
    ap length c.of.ensures ∙ sym (length-map c.loop-i.bounds.items ratio_of)
    ∙ bounds_length kind priors network.range c.args.self.now c.unwrap-counts.result.now leaves network.stats.items bounds (omega (arith, network.kept.each)) all

pub returns-clause-exact : goal.returns-clause-exact
returns-clause-exact g c = λ docs is_table.
    let kind = c.args.rule.now.kind in
    let priors = map (λ b. (goal.BeliefNode-dyn g (b.vtable, b.value)).meaning b.value) c.args.plugs.now in
    let table = c.args.self.now in
    let counts : RangeCounts = c.unwrap-counts.result.now in
    let network = c.args.network.now in
    let leaves : List LeafTree = map leaf_tree network.leaves.items in
    let counted : AreCountsOf leaves (terms_of table) (names_of table) (range_documents docs c.args.range) counts = counts_told leaves docs table c.args.range counts is_table (sym c.counts.ensures.value ∙ ap option_copied c.unwrap-counts.ensures) in
    let all = all_told kind priors network.range table counts leaf_tree _ leaves network.stats.items (map ratio_of c.loop-i.bounds.items) c.loop-i.i c.leaves-leaf-items.ensures c.loop-i-test.false network.kept.each c.loop-i.invariant in
    rw c.of.ensures (bounds_told kind priors network.range table counts (range_documents docs c.args.range) leaves network.stats.items (map ratio_of c.loop-i.bounds.items) counted.least counted.most all)

pub returns-clause-covers : goal.returns-clause-covers
returns-clause-covers g c = λ docs d w is_table has in_it.
    let kind = c.args.rule.now.kind in
    let priors = map (λ b. (goal.BeliefNode-dyn g (b.vtable, b.value)).meaning b.value) c.args.plugs.now in
    let network = c.args.network.now in
    let leaves : List LeafTree = map leaf_tree network.leaves.items in
    let formed = (counts_told leaves docs c.args.self.now c.args.range c.unwrap-counts.result.now is_table (sym c.counts.ensures.value ∙ ap option_copied c.unwrap-counts.ensures)).formed in
    all_covered kind priors network.range (range_documents docs c.args.range) d w formed has in_it leaves network.stats.items _ network.kept.counted (returns-clause-exact g c docs is_table)

pub returns-clause-beliefs : goal.returns-clause-beliefs
returns-clause-beliefs g c = λ docs d w is_table has in_it.
    let kind = c.args.rule.now.kind in
    let priors = map (λ b. (goal.BeliefNode-dyn g (b.vtable, b.value)).meaning b.value) c.args.plugs.now in
    let network = c.args.network.now in
    let leaves : List LeafTree = map leaf_tree network.leaves.items in
    let told : All IsPrior priors = each_told _ c.args.plugs.now (λ b. (g.dyn-1-met b.vtable).0.beliefs b.value) in
    let formed = (counts_told leaves docs c.args.self.now c.args.range c.unwrap-counts.result.now is_table (sym c.counts.ensures.value ∙ ap option_copied c.unwrap-counts.ensures)).formed in
    all_are_beliefs kind priors network.range (range_documents docs c.args.range) d w formed has in_it c.ask_rule.ensures told leaves network.stats.items network.kept.counted

pub returns-clause-keys : goal.returns-clause-keys
returns-clause-keys g c = λ docs d w k is_table has in_it.
    let kind = c.args.rule.now.kind in
    let priors = map (λ b. (goal.BeliefNode-dyn g (b.vtable, b.value)).meaning b.value) c.args.plugs.now in
    let network = c.args.network.now in
    let leaves : List LeafTree = map leaf_tree network.leaves.items in
    let bounds = c.of.result in
    let told : All IsPrior priors = each_told _ c.args.plugs.now (λ b. (g.dyn-1-met b.vtable).0.beliefs b.value) in
    let formed = (counts_told leaves docs c.args.self.now c.args.range c.unwrap-counts.result.now is_table (sym c.counts.ensures.value ∙ ap option_copied c.unwrap-counts.ensures)).formed in
    keys_lead kind priors network.range (range_documents docs c.args.range) d w formed has in_it c.ask_rule.ensures told leaves network.stats.items (map ratio_of bounds) (scaled_tree network.tree) k network.kept.counted (are_beliefs bounds)
    (returns-clause-exact g c docs is_table)
