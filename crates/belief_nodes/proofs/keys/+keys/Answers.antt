use Rattle.std.proofs.Common.{rules, arith, ◌≡◌, ◌*◌, ◌/◌, [], ◌∷◌, map, sym, ◌∙◌}
use Rattle.std.proofs.lemmas.List.{nil_from_length}
use Rattle.query_check.specs.declared.tree.Tree.{the_lemmas}
use Rattle.query_check.specs.Scale.{count, total, scale}
use Rattle.query_check.specs.Trees.{leaf, combine, weight, greatest, scaled_tree, scaled_trees, weighted_scaled_tree, weighted_scaled_trees}
use Rattle.query_check.proofs.Combined.{count_is}
use Rattle.query_check.proofs.TreeLemmas.{scaled_tree_laws}
use Rattle.belief_nodes.proofs.Walks.{leaf_fit, leaf_key, combine_some, combine_whole, combine_fit, combine_key, weight_some, weight_few, weight_whole, weight_fit, weight_key, greatest_fit, greatest_key, first_fit, first_divides, rest_fit, share_small, sum_small, here_fit, here_divides, next_fit, sum_next, sum_so_far, least_next, shares_end, least_of_none, least_of_first, weighted_here_fit, weighted_here_divides, weighted_next_fit, weighted_sum_next, weighted_sum_so_far, weighted_sum_small, weighted_shares_end, times_assoc}
use Rattle.belief_nodes.specs.Keys.{key}
use Rattle.belief_nodes.proofs.keys.+keys.Goals as goal

pub key_of-bounds-digits-number : goal.key_of-bounds-digits-number
key_of-bounds-digits-number t c =
    let e : scaled_tree c.args.tree.now ≡ leaf c.in-Leaf.number = search (rules, scaled_tree_laws) in
    omega (arith, leaf_fit _ _ (rw e at c.requires.fit))

pub key_of-nonzero_div-scale : goal.key_of-nonzero_div-scale
key_of-nonzero_div-scale t c =
    let e : scaled_tree c.args.tree.now ≡ combine c.in-Combine.scale (scaled_trees (map scaled_tree c.deref.result.now)) = search (rules, scaled_tree_laws) in
    let n : c.len.result ≡ count (scaled_trees (map scaled_tree c.deref.result.now)) = rw count_is (search rules) in
    rw n (combine_some _ _ _ (rw e at c.requires.fit))

pub key_of-sum_of-requires : goal.key_of-sum_of-requires
key_of-sum_of-requires t c =
    let e : scaled_tree c.args.tree.now ≡ combine c.in-Combine.scale (scaled_trees (map scaled_tree c.deref.result.now)) = search (rules, scaled_tree_laws) in
    let n : c.len.result ≡ count (scaled_trees (map scaled_tree c.deref.result.now)) = rw count_is (search rules) in
    let fit = rw e at c.requires.fit in
    (search (rules, the_lemmas), (rw n (combine_fit _ _ _ fit), (rw n (combine_whole _ _ _ fit), c.requires.small)))

pub key_of-total_weight-requires : goal.key_of-total_weight-requires
key_of-total_weight-requires t c =
    let e : scaled_tree c.args.tree.now ≡ weight c.in-Weight.scale (weighted_scaled_trees (map weighted_scaled_tree c.deref-in-Weight-2.result.now)) = search (rules, scaled_tree_laws) in
    weight_few _ _ _ (rw e at c.requires.fit)

pub key_of-nonzero_div-scale-in-Weight : goal.key_of-nonzero_div-scale-in-Weight
key_of-nonzero_div-scale-in-Weight t c =
    let e : scaled_tree c.args.tree.now ≡ weight c.in-Weight.scale (weighted_scaled_trees (map weighted_scaled_tree c.deref-in-Weight-2.result.now)) = search (rules, scaled_tree_laws) in
    let n : c.total_weight.result ≡ total (weighted_scaled_trees (map weighted_scaled_tree c.deref-in-Weight-2.result.now)) = search rules in
    rw n (weight_some _ _ _ (rw e at c.requires.fit))

pub key_of-weighted_sum_of-requires : goal.key_of-weighted_sum_of-requires
key_of-weighted_sum_of-requires t c =
    let e : scaled_tree c.args.tree.now ≡ weight c.in-Weight.scale (weighted_scaled_trees (map weighted_scaled_tree c.deref-in-Weight.result.now)) = search (rules, scaled_tree_laws) in
    let n : c.total_weight.result ≡ total (weighted_scaled_trees (map weighted_scaled_tree c.deref-in-Weight.result.now)) = search rules in
    let fit = rw e at c.requires.fit in
    (search (rules, the_lemmas), (rw n (weight_fit _ _ _ fit), (rw n (weight_whole _ _ _ fit), c.requires.small)))

pub key_of-least_of-requires : goal.key_of-least_of-requires
key_of-least_of-requires t c =
    let e : scaled_tree c.args.tree.now ≡ greatest c.in-Max.scale (scaled_trees (map scaled_tree c.deref-in-Max.result.now)) = search (rules, scaled_tree_laws) in
    (search (rules, the_lemmas), (greatest_fit _ _ _ (rw e at c.requires.fit), c.requires.small))

pub key_of-returns-in-Leaf : goal.key_of-returns-in-Leaf
key_of-returns-in-Leaf t c =
    let e : scaled_tree c.args.tree.now ≡ leaf c.in-Leaf.number = search (rules, scaled_tree_laws) in
    rw e (sym (leaf_key _ _))

pub key_of-returns-in-Combine : goal.key_of-returns-in-Combine
key_of-returns-in-Combine t c =
    let e : scaled_tree c.args.tree.now ≡ combine c.in-Combine.scale (scaled_trees (map scaled_tree c.deref.result.now)) = search (rules, scaled_tree_laws) in
    let n : c.len.result ≡ count (scaled_trees (map scaled_tree c.deref.result.now)) = rw count_is (search rules) in
    rw e (rw n at c.sum_of.ensures ∙ combine_key _ _ _ _ (rw e at c.requires.fit))

pub key_of-returns-in-Weight : goal.key_of-returns-in-Weight
key_of-returns-in-Weight t c =
    let e : scaled_tree c.args.tree.now ≡ weight c.in-Weight.scale (weighted_scaled_trees (map weighted_scaled_tree c.deref-in-Weight.result.now)) = search (rules, scaled_tree_laws) in
    let n : c.total_weight.result ≡ total (weighted_scaled_trees (map weighted_scaled_tree c.deref-in-Weight.result.now)) = search rules in
    rw e (rw n at c.weighted_sum_of.ensures ∙ weight_key _ _ _ _ (rw e at c.requires.fit))

pub key_of-returns-in-Max : goal.key_of-returns-in-Max
key_of-returns-in-Max t c =
    let e : scaled_tree c.args.tree.now ≡ greatest c.in-Max.scale (scaled_trees (map scaled_tree c.deref-in-Max.result.now)) = search (rules, scaled_tree_laws) in
    rw e (c.least_of.ensures ∙ greatest_key _ _ _ _ (rw e at c.requires.fit))

pub least_of-returns-in_default : goal.least_of-returns-in_default
least_of-returns-in_default t c =
    let is : c.args.trees.now ≡ [] = nil_from_length _ c.in_default.ensures.cases in
    rw is (sym (least_of_none c.args.digits.now c.args.common))

pub least_of-key_of-requires : goal.least_of-key_of-requires
least_of-key_of-requires t c =
    let is : c.args.trees.now ≡ c.in-Some.first.now ∷ c.in-Some.rest.now = c.in-Some.ensures.cases.0 in
    let fit = rw is at c.requires.fit in
    (search (rules, the_lemmas), (first_fit _ _ _ _ fit, c.requires.small))

pub least_of-brought_to-least-requires-clause-scaled : goal.least_of-brought_to-least-requires-clause-scaled
least_of-brought_to-least-requires-clause-scaled t c =
    let is : c.args.trees.now ≡ c.in-Some.first.now ∷ c.in-Some.rest.now = c.in-Some.ensures.cases.0 in
    (first_fit _ _ _ _ (rw is at c.requires.fit)).scaled

pub least_of-brought_to-least-requires-clause-positive : goal.least_of-brought_to-least-requires-clause-positive
least_of-brought_to-least-requires-clause-positive t c =
    let is : c.args.trees.now ≡ c.in-Some.first.now ∷ c.in-Some.rest.now = c.in-Some.ensures.cases.0 in
    (first_fit _ _ _ _ (rw is at c.requires.fit)).positive

pub least_of-brought_to-least-requires-clause-small : goal.least_of-brought_to-least-requires-clause-small
least_of-brought_to-least-requires-clause-small t c =
    let is : c.args.trees.now ≡ c.in-Some.first.now ∷ c.in-Some.rest.now = c.in-Some.ensures.cases.0 in
    let small = share_small c.args.digits.now c.requires.small c.args.common (scaled_tree c.in-Some.first.now) (first_divides _ _ _ _ (rw is at c.requires.fit)) c.requires.fit.small in
    rw c.key_of.ensures (omega (arith, small))

pub least_of-loop-tree-init : goal.least_of-loop-tree-init
least_of-loop-tree-init t c =
    let is : c.args.trees.now ≡ c.in-Some.first.now ∷ c.in-Some.rest.now = c.in-Some.ensures.cases.0 in
    let first : c.brought_to-least.result ≡ c.args.common / scale (scaled_tree c.in-Some.first.now) * key c.args.digits.now (scaled_tree c.in-Some.first.now) = rw c.key_of.ensures at c.brought_to-least.ensures in
    (rest_fit _ _ _ _ (rw is at c.requires.fit), rw (first, is) (sym (least_of_first c.args.digits.now c.args.common c.in-Some.first.now c.in-Some.rest.now)))

pub least_of-key_of-requires-in-loop-tree : goal.least_of-key_of-requires-in-loop-tree
least_of-key_of-requires-in-loop-tree t c =
    (search (rules, the_lemmas), (here_fit _ _ c.in-Some.rest.now c.loop-tree.tree-index c.tree-item.result c.loop-tree-test.true c.tree-item.is c.loop-tree.invariant.0, c.requires.small))

pub least_of-brought_to-requires-clause-scaled : goal.least_of-brought_to-requires-clause-scaled
least_of-brought_to-requires-clause-scaled t c =
    (here_fit _ _ c.in-Some.rest.now c.loop-tree.tree-index c.tree-item.result c.loop-tree-test.true c.tree-item.is c.loop-tree.invariant.0).scaled

pub least_of-brought_to-requires-clause-positive : goal.least_of-brought_to-requires-clause-positive
least_of-brought_to-requires-clause-positive t c =
    (here_fit _ _ c.in-Some.rest.now c.loop-tree.tree-index c.tree-item.result c.loop-tree-test.true c.tree-item.is c.loop-tree.invariant.0).positive

pub least_of-brought_to-requires-clause-small : goal.least_of-brought_to-requires-clause-small
least_of-brought_to-requires-clause-small t c =
    let divides = here_divides _ _ c.in-Some.rest.now c.loop-tree.tree-index c.tree-item.result c.loop-tree-test.true c.tree-item.is c.loop-tree.invariant.0 in
    let small = share_small c.args.digits.now c.requires.small c.args.common (scaled_tree c.tree-item.result) divides c.requires.fit.small in
    rw c.key_of-in-loop-tree.ensures (omega (arith, small))

pub least_of-loop-tree-preserved : goal.least_of-loop-tree-preserved
least_of-loop-tree-preserved t c =
    let share : c.brought_to.result ≡ c.args.common / scale (scaled_tree c.tree-item.result) * key c.args.digits.now (scaled_tree c.tree-item.result) = rw c.key_of-in-loop-tree.ensures at c.brought_to.ensures in
    let least = rw (← share) at (least_next c.args.digits.now c.args.common c.in-Some.rest.now c.loop-tree.tree-index c.tree-item.result c.loop-tree-test.true c.tree-item.is _ _ c.loop-tree.invariant.1) in (
      next_fit _ _ c.in-Some.rest.now c.loop-tree.tree-index c.tree-item.result c.loop-tree-test.true c.tree-item.is c.loop-tree.invariant.0,
      search (rules, least),
    )

pub least_of-returns : goal.least_of-returns
least_of-returns t c =
    let none = shares_end c.args.digits.now c.args.common c.in-Some.rest.now c.loop-tree.tree-index (omega arith) in
    rw none at c.loop-tree.invariant.1

pub sum_of-key_of-requires : goal.sum_of-key_of-requires
sum_of-key_of-requires t c =
    (search (rules, the_lemmas), (here_fit _ _ c.args.trees.now c.loop-tree.tree-index c.tree-item.result c.loop-tree-test.true c.tree-item.is c.loop-tree.invariant.0, c.requires.small))

pub sum_of-brought_to-sum-requires-clause-scaled : goal.sum_of-brought_to-sum-requires-clause-scaled
sum_of-brought_to-sum-requires-clause-scaled t c =
    (here_fit _ _ c.args.trees.now c.loop-tree.tree-index c.tree-item.result c.loop-tree-test.true c.tree-item.is c.loop-tree.invariant.0).scaled

pub sum_of-brought_to-sum-requires-clause-positive : goal.sum_of-brought_to-sum-requires-clause-positive
sum_of-brought_to-sum-requires-clause-positive t c =
    (here_fit _ _ c.args.trees.now c.loop-tree.tree-index c.tree-item.result c.loop-tree-test.true c.tree-item.is c.loop-tree.invariant.0).positive

pub sum_of-brought_to-sum-requires-clause-small : goal.sum_of-brought_to-sum-requires-clause-small
sum_of-brought_to-sum-requires-clause-small t c =
    let divides = here_divides _ _ c.args.trees.now c.loop-tree.tree-index c.tree-item.result c.loop-tree-test.true c.tree-item.is c.loop-tree.invariant.0 in
    let small = share_small c.args.digits.now c.requires.small c.args.common (scaled_tree c.tree-item.result) divides c.requires.fit.small in
    rw c.key_of.ensures (omega (arith, small))

pub sum_of-overflow_add-sum : goal.sum_of-overflow_add-sum
sum_of-overflow_add-sum t c =
    let share : c.brought_to-sum.result ≡ c.args.common / scale (scaled_tree c.tree-item.result) * key c.args.digits.now (scaled_tree c.tree-item.result) = rw c.key_of.ensures at c.brought_to-sum.ensures in
    let so_far = sum_so_far c.args.digits.now c.args.common c.args.trees.now c.loop-tree.tree-index c.tree-item.result c.loop-tree-test.true c.tree-item.is _ _ c.loop-tree.invariant.1 in
    let whole = sum_small c.args.digits.now c.requires.small c.args.common _ c.requires.fit.divides c.requires.whole in
    rw share (omega (arith, so_far, whole))

pub sum_of-loop-tree-preserved : goal.sum_of-loop-tree-preserved
sum_of-loop-tree-preserved t c =
    let share : c.brought_to-sum.result ≡ c.args.common / scale (scaled_tree c.tree-item.result) * key c.args.digits.now (scaled_tree c.tree-item.result) = rw c.key_of.ensures at c.brought_to-sum.ensures in (
      next_fit _ _ c.args.trees.now c.loop-tree.tree-index c.tree-item.result c.loop-tree-test.true c.tree-item.is c.loop-tree.invariant.0,
      rw share (sum_next c.args.digits.now c.args.common c.args.trees.now c.loop-tree.tree-index c.tree-item.result c.loop-tree-test.true c.tree-item.is _ _ c.loop-tree.invariant.1),
    )

pub sum_of-returns : goal.sum_of-returns
sum_of-returns t c =
    let none = shares_end c.args.digits.now c.args.common c.args.trees.now c.loop-tree.tree-index (omega arith) in
    rw none at c.loop-tree.invariant.1

pub weighted_sum_of-key_of-requires : goal.weighted_sum_of-key_of-requires
weighted_sum_of-key_of-requires t c =
    (search (rules, the_lemmas), (weighted_here_fit _ _ c.args.trees.now c.loop-weight.weight-index c.loop-weight-item.result c.loop-weight-test.true c.loop-weight-item.is c.loop-weight.invariant.0, c.requires.small))

pub weighted_sum_of-brought_to-requires-clause-scaled : goal.weighted_sum_of-brought_to-requires-clause-scaled
weighted_sum_of-brought_to-requires-clause-scaled t c =
    (weighted_here_fit _ _ c.args.trees.now c.loop-weight.weight-index c.loop-weight-item.result c.loop-weight-test.true c.loop-weight-item.is c.loop-weight.invariant.0).scaled

pub weighted_sum_of-brought_to-requires-clause-positive : goal.weighted_sum_of-brought_to-requires-clause-positive
weighted_sum_of-brought_to-requires-clause-positive t c =
    (weighted_here_fit _ _ c.args.trees.now c.loop-weight.weight-index c.loop-weight-item.result c.loop-weight-test.true c.loop-weight-item.is c.loop-weight.invariant.0).positive

pub weighted_sum_of-brought_to-requires-clause-small : goal.weighted_sum_of-brought_to-requires-clause-small
weighted_sum_of-brought_to-requires-clause-small t c =
    let divides = weighted_here_divides _ _ c.args.trees.now c.loop-weight.weight-index c.loop-weight-item.result c.loop-weight-test.true c.loop-weight-item.is c.loop-weight.invariant.0 in
    let small = share_small c.args.digits.now c.requires.small c.args.common (scaled_tree c.loop-weight-item.result.1) divides c.requires.fit.small in
    rw c.key_of.ensures (omega (arith, small))

pub weighted_sum_of-overflow_mul-sum : goal.weighted_sum_of-overflow_mul-sum
weighted_sum_of-overflow_mul-sum t c =
    let share : c.brought_to.result ≡ c.args.common / scale (scaled_tree c.loop-weight-item.result.1) * key c.args.digits.now (scaled_tree c.loop-weight-item.result.1) = rw c.key_of.ensures at c.brought_to.ensures in
    let weight : c.from.result ≡ c.loop-weight-item.result.0 = search rules in
    let so_far = weighted_sum_so_far c.args.digits.now c.args.common c.args.trees.now c.loop-weight.weight-index c.loop-weight-item.result c.loop-weight-test.true c.loop-weight-item.is _ _ c.loop-weight.invariant.1 in
    let whole = weighted_sum_small c.args.digits.now c.requires.small c.args.common _ c.requires.fit.divides c.requires.whole in
    rw (share, weight) (omega (arith, so_far, whole))

pub weighted_sum_of-overflow_add-sum : goal.weighted_sum_of-overflow_add-sum
weighted_sum_of-overflow_add-sum t c =
    let share : c.brought_to.result ≡ c.args.common / scale (scaled_tree c.loop-weight-item.result.1) * key c.args.digits.now (scaled_tree c.loop-weight-item.result.1) = rw c.key_of.ensures at c.brought_to.ensures in
    let weight : c.from.result ≡ c.loop-weight-item.result.0 = search rules in
    let so_far = weighted_sum_so_far c.args.digits.now c.args.common c.args.trees.now c.loop-weight.weight-index c.loop-weight-item.result c.loop-weight-test.true c.loop-weight-item.is _ _ c.loop-weight.invariant.1 in
    let whole = weighted_sum_small c.args.digits.now c.requires.small c.args.common _ c.requires.fit.divides c.requires.whole in
    rw (share, weight) (omega (arith, so_far, whole))

pub weighted_sum_of-loop-weight-preserved : goal.weighted_sum_of-loop-weight-preserved
weighted_sum_of-loop-weight-preserved t c =
    let share : c.brought_to.result ≡ c.args.common / scale (scaled_tree c.loop-weight-item.result.1) * key c.args.digits.now (scaled_tree c.loop-weight-item.result.1) = rw c.key_of.ensures at c.brought_to.ensures in
    let weight : c.from.result ≡ c.loop-weight-item.result.0 = search rules in
    let one_more = weighted_sum_next c.args.digits.now c.args.common c.args.trees.now c.loop-weight.weight-index c.loop-weight-item.result c.loop-weight-test.true c.loop-weight-item.is _ _ c.loop-weight.invariant.1 in (
      weighted_next_fit _ _ c.args.trees.now c.loop-weight.weight-index c.loop-weight-item.result c.loop-weight-test.true c.loop-weight-item.is c.loop-weight.invariant.0,
      rw (share, weight, times_assoc) one_more,
    )

pub weighted_sum_of-returns : goal.weighted_sum_of-returns
weighted_sum_of-returns t c =
    let none = weighted_shares_end c.args.digits.now c.args.common c.args.trees.now c.loop-weight.weight-index (omega arith) in
    rw none at c.loop-weight.invariant.1
