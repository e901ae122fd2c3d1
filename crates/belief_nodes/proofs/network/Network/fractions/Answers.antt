use Rattle.std.proofs.Common.{rules, ◌≡◌, ◌<◌, ◌≤◌, ◌++◌, ◌∷◌, [], List, length, get_or, map, sym, ap, subst, ◌∙◌, arith}
use Rattle.std.proofs.Math.ListN.{get_or-map}
use Rattle.std.proofs.lemmas.List.{length-map}
use Rattle.ri_base.specs.Ratio.{ratio_of}
use Rattle.query_check.specs.Leaves.{leaf_tree}
use Rattle.belief_nodes.specs.Fractions.{leaf_fraction}
use Rattle.belief_nodes.specs.Leaves.{HasPrior}
use Rattle.belief_nodes.specs.Priors.{Prior}
use Rattle.belief_nodes.specs.declared.leaf_count.LeafCount.{LeafCount}
use Rattle.belief_nodes.proofs.LeafBeliefs.{joined_none, leaf_end, leaf_next}
use Rattle.belief_nodes.proofs.network.Network.fractions.Goals as goal

pub fraction-requires-clause-plugs : goal.fraction-requires-clause-plugs
fraction-requires-clause-plugs g c =
    let leaves = c.args.self.now.leaves.items in
    let leaf = c.leaf-item.result in
    let inside : c.loop-i.i < length (map leaf_tree leaves) = rw (length-map leaves leaf_tree) (rw c.deref-leaf-items.ensures.value at c.loop-i-test.true) in
    let here : leaf ≡ get_or leaves c.loop-i.i leaf = rw c.deref-leaf-items.ensures.value at c.leaf-item.is in
    let at : get_or (map leaf_tree leaves) c.loop-i.i (leaf_tree leaf) ≡ leaf_tree leaf = get_or-map leaf_tree leaves c.loop-i.i leaf ∙ ap leaf_tree (sym here) in
    subst (λ n. HasPrior n (leaf_tree leaf)) (sym c.loop-i.auto.plugs) (subst (HasPrior (length c.args.plugs.now)) at (c.requires.plugs c.loop-i.i (leaf_tree leaf) inside))

pub loop-i-preserved : goal.loop-i-preserved
loop-i-preserved g c =
    let leaves = c.args.self.now.leaves.items in
    let counts = c.args.counts.now in
    let stats = c.args.self.now.stats.items in
    let kind = c.args.rule.now.kind in
    let i = c.loop-i.i in
    let leaf = c.leaf-item.result in
    let count : LeafCount = get_or counts i (record { tf = 0; len = 0 }) in
    let stat = c.index-stats.result.now in
    let priors = map (λ b. (goal.BeliefNode-dyn g (b.vtable, b.value)).meaning b.value) c.args.plugs.now in
    let inside : i < length (map leaf_tree leaves) = rw (length-map leaves leaf_tree) (rw c.deref-leaf-items.ensures.value at c.loop-i-test.true) in
    let here : leaf ≡ get_or leaves i leaf = rw c.deref-leaf-items.ensures.value at c.leaf-item.is in
    let told : leaf_tree leaf ≡ get_or (map leaf_tree leaves) i (leaf_tree leaf) = ap leaf_tree here ∙ sym (get_or-map leaf_tree leaves i leaf) in
    let belief : ratio_of c.fraction.result ≡ leaf_fraction kind priors c.args.docno.now c.args.len (leaf_tree leaf) count stat =
    c.fraction.ensures.belief ∙ ap (λ (ps : List Prior). leaf_fraction kind ps c.args.docno.now c.args.len (leaf_tree leaf) count stat) c.loop-i.invariant.stay in
    let next = leaf_next kind priors c.args.docno.now c.args.len (map leaf_tree leaves) counts stats i (leaf_tree leaf) count stat inside
    (omega (arith, inside, c.requires.each)) (omega (arith, inside, c.args.self.now.kept.each)) told (search rules) (search rules)
    c.loop-i.fractions.items c.fraction.result _ belief c.loop-i.invariant.so_far in
    let pushed : c.push.new.self.items ≡ c.loop-i.fractions.items ++ c.fraction.result ∷ [] = search rules in
    record { stay = c.fraction.ensures.stay ∙ c.loop-i.invariant.stay; so_far = rw pushed next }

pub returns-clause-beliefs : goal.returns-clause-beliefs
returns-clause-beliefs g c =
    let leaves = c.args.self.now.leaves.items in
    let priors = map (λ b. (goal.BeliefNode-dyn g (b.vtable, b.value)).meaning b.value) c.args.plugs.now in
    let end : length leaves ≤ c.loop-i.i = rw c.deref-leaf-items.ensures.value at c.loop-i-test.false in
    let none = leaf_end c.args.rule.now.kind priors c.args.docno.now c.args.len (map leaf_tree leaves) c.args.counts.now c.args.self.now.stats.items c.loop-i.i (rw (length-map leaves leaf_tree) end) in
    rw c.of.ensures (sym (joined_none _) ∙ ap (λ rs. map ratio_of c.loop-i.fractions.items ++ rs) (sym none) ∙ c.loop-i.invariant.so_far)
