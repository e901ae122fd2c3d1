use Rattle.std.proofs.Common.{rules, arith, ◌≡◌, ◌<◌, ◌+◌, Err, map, ap, sym, ◌∙◌}
use Rattle.ri_base.specs.declared.belief.Belief.{the_lemmas}
use Rattle.ri_base.specs.Query as query
use Rattle.ri_base.specs.Query.{belief_tree, belief_trees, weighted_tree, weighted_trees}
use Rattle.ri_base.proofs.QueryLemmas.{belief_tree_laws}
use Rattle.query_check.specs.Check.{pruned, all_pruned, weighted_pruned, leaf_count, all_leaf_count, weighted_leaf_count, weights, tree_from, trees_from, weighted_trees_from}
use Rattle.query_check.specs.Multiples.{common_divisor}
use Rattle.query_check.specs.Scale.{scale, common, weighted_common}
use Rattle.query_check.specs.Trees.{leaf, scaled_tree, weighted_scaled_tree}
use Rattle.query_check.proofs.Combined.{combined_parts, combined_common, greatest_scale, greatest_le, weighed_parts, weighed_common}
use Rattle.query_check.proofs.Numbering.{joined_more, joined_none, more_common, trees_at, count_at, trees_end, count_end, weighted_joined_more, weighted_joined_none, more_weighted_common, weighted_trees_at, weighted_count_at, weighted_dropped_at, weighted_trees_end, weighted_count_end, weighted_trees_more, weighted_trees_scaled, trees_more, too_large_of, trees_scaled, combine_tree, combine_count, greatest_tree, greatest_count, weight_tree, weight_count, divisor_positive, no_operator_tree}
use Rattle.query_check.proofs.TreeLemmas.{scaled_tree-Leaf}
use Rattle.query_check.proofs.scaling.+scaling.Goals as goal

pub scale_all-scale_belief-requires : goal.scale_all-scale_belief-requires
scale_all-scale_belief-requires t c =
    let at = trees_at c.args.all.now c.loop-x.x-index c.x-item.result c.loop-x-test.true c.x-item.is c.loop-x.next in
    let whole = rw at at c.loop-x.invariant.0 in
    let pos : 0 < scale (tree_from c.loop-x.next (pruned (belief_tree c.x-item.result))) = (more_common _ _ _ _ whole c.requires.positive).0 in
    let n = count_at c.args.all.now c.loop-x.x-index c.x-item.result c.loop-x-test.true c.x-item.is in
    let room : c.loop-x.next + leaf_count (pruned (belief_tree c.x-item.result)) < 4294967296 = omega (arith, n, c.loop-x.invariant.1, c.requires.room) in
    (search (rules, the_lemmas), (pos, room))

pub scale_all-returns-in_err-scale_belief-clause-trees : goal.scale_all-returns-in_err-scale_belief-clause-trees
scale_all-returns-in_err-scale_belief-clause-trees t c =
    let at = trees_at c.args.all.now c.loop-x.x-index c.x-item.result c.loop-x-test.true c.x-item.is c.loop-x.next in
    let whole = rw at at c.loop-x.invariant.0 in
    let le = (more_common _ _ _ _ whole c.requires.positive).1 in
    let r : c.from_residual.result ≡ Err c.in_err-scale_belief.field-0.0 = search rules in
    rw r (too_large_of c.in_err-scale_belief.field-0.0 _ _ le c.in_err-scale_belief.ensures.tree)

pub scale_all-loop-x-preserved : goal.scale_all-loop-x-preserved
scale_all-loop-x-preserved t c =
    let at = trees_at c.args.all.now c.loop-x.x-index c.x-item.result c.loop-x-test.true c.x-item.is c.loop-x.next in
    let n = count_at c.args.all.now c.loop-x.x-index c.x-item.result c.loop-x-test.true c.x-item.is in
    let pushed = trees_more c.loop-x.trees.items c.in_ok-scale_belief.field-0 _ c.push.new.self.items c.in_ok-push.ensures.items c.in_ok-scale_belief.ensures.tree.0 in
    let next : c.scale_belief.new.next ≡ c.loop-x.next + leaf_count (pruned (belief_tree c.x-item.result)) = search rules in
    (rw (pushed, joined_more, next, ← at) c.loop-x.invariant.0, omega (arith, n, next, c.loop-x.invariant.1))

pub scale_all-returns-clause-trees : goal.scale_all-returns-clause-trees
scale_all-returns-clause-trees t c =
    let end = trees_end c.args.all.now c.loop-x.x-index c.loop-x.next (omega arith) in
    sym (joined_none (map scaled_tree c.loop-x.trees.items)) ∙ rw end at c.loop-x.invariant.0

pub scale_all-returns-clause-next : goal.scale_all-returns-clause-next
scale_all-returns-clause-next t c = omega (arith, count_end c.args.all.now c.loop-x.x-index (omega arith), c.loop-x.invariant.1)

pub scale_belief-scale_all-requires : goal.scale_belief-scale_all-requires
scale_belief-scale_all-requires t c =
    let e : belief_tree c.args.x.now ≡ query.combine (belief_trees (map belief_tree c.deref.result.now)) = search (rules, belief_tree_laws) in
    let pos : 0 < common (trees_from c.args.next.now (all_pruned (belief_trees (map belief_tree c.deref.result.now)))) = (combined_parts _ (rw (combine_tree c.args.next.now _ _ e) at c.requires.positive)).1 in
    let room : c.args.next.now + all_leaf_count (all_pruned (belief_trees (map belief_tree c.deref.result.now))) < 4294967296 = omega (arith, combine_count c.args.next.now _ _ e, c.requires.room) in
    (search (rules, the_lemmas), (pos, room))

pub scale_belief-returns-in_err-scale_all-in-Combine-clause-tree : goal.scale_belief-returns-in_err-scale_all-in-Combine-clause-tree
scale_belief-returns-in_err-scale_all-in-Combine-clause-tree t c =
    let e : belief_tree c.args.x.now ≡ query.combine (belief_trees (map belief_tree c.deref.result.now)) = search (rules, belief_tree_laws) in
    let tree = combine_tree c.args.next.now _ _ e in
    let r : c.from_residual.result ≡ Err c.in_err-scale_all-in-Combine.field-0.0 = search rules in
    rw (r, tree) (too_large_of c.in_err-scale_all-in-Combine.field-0.0 _ _ (combined_common _ (rw tree at c.requires.positive)) c.in_err-scale_all-in-Combine.ensures.trees)

pub scale_belief-combine-requires-clause-scaled : goal.scale_belief-combine-requires-clause-scaled
scale_belief-combine-requires-clause-scaled t c = rw c.in_ok-scale_all-in-Combine.ensures.trees (trees_scaled c.args.next.now _)

pub scale_belief-scale_all-requires-in-Max : goal.scale_belief-scale_all-requires-in-Max
scale_belief-scale_all-requires-in-Max t c =
    let e : belief_tree c.args.x.now ≡ query.greatest (belief_trees (map belief_tree c.deref-in-Max.result.now)) = search (rules, belief_tree_laws) in
    let pos : 0 < common (trees_from c.args.next.now (all_pruned (belief_trees (map belief_tree c.deref-in-Max.result.now)))) = rw (greatest_tree c.args.next.now _ _ e, greatest_scale) at c.requires.positive in
    let room : c.args.next.now + all_leaf_count (all_pruned (belief_trees (map belief_tree c.deref-in-Max.result.now))) < 4294967296 = omega (arith, greatest_count c.args.next.now _ _ e, c.requires.room) in
    (search (rules, the_lemmas), (pos, room))

pub scale_belief-returns-in_err-scale_all-in-Max-clause-tree : goal.scale_belief-returns-in_err-scale_all-in-Max-clause-tree
scale_belief-returns-in_err-scale_all-in-Max-clause-tree t c =
    let e : belief_tree c.args.x.now ≡ query.greatest (belief_trees (map belief_tree c.deref-in-Max.result.now)) = search (rules, belief_tree_laws) in
    let tree = greatest_tree c.args.next.now _ _ e in
    let r : c.from_residual-in_err-scale_all-in-Max.result ≡ Err c.in_err-scale_all-in-Max.field-0.0 = search rules in
    rw (r, tree) (too_large_of c.in_err-scale_all-in-Max.field-0.0 _ _ (greatest_le _) c.in_err-scale_all-in-Max.ensures.trees)

pub scale_belief-max-requires-clause-scaled : goal.scale_belief-max-requires-clause-scaled
scale_belief-max-requires-clause-scaled t c = rw c.in_ok-scale_all-in-Max.ensures.trees (trees_scaled c.args.next.now _)

pub scale_belief-scale_weighted-requires : goal.scale_belief-scale_weighted-requires
scale_belief-scale_weighted-requires t c =
    let e : belief_tree c.args.x.now ≡ query.weight (weighted_trees (map weighted_tree c.deref-in-Weight.result.now)) = search (rules, belief_tree_laws) in
    let parts = weighed_parts _ (rw (weight_tree c.args.next.now _ _ e) at c.requires.positive) in
    let d : c.divisor.result ≡ common_divisor (weights (weighted_pruned (weighted_trees (map weighted_tree c.deref-in-Weight.result.now)))) = search rules in
    let some : 0 < c.divisor.result = rw d (divisor_positive _ _ _ parts.0) in
    let pos : 0 < weighted_common (weighted_trees_from c.divisor.result c.args.next.now (weighted_pruned (weighted_trees (map weighted_tree c.deref-in-Weight.result.now)))) = rw d parts.1 in
    let room : c.args.next.now + weighted_leaf_count (weighted_pruned (weighted_trees (map weighted_tree c.deref-in-Weight.result.now))) < 4294967296 = omega (arith, weight_count c.args.next.now _ _ e, c.requires.room) in
    (search (rules, the_lemmas), (some, (pos, room)))

pub scale_belief-returns-in_err-scale_weighted-in-Weight-clause-tree : goal.scale_belief-returns-in_err-scale_weighted-in-Weight-clause-tree
scale_belief-returns-in_err-scale_weighted-in-Weight-clause-tree t c =
    let e : belief_tree c.args.x.now ≡ query.weight (weighted_trees (map weighted_tree c.deref-in-Weight.result.now)) = search (rules, belief_tree_laws) in
    let d : c.divisor.result ≡ common_divisor (weights (weighted_pruned (weighted_trees (map weighted_tree c.deref-in-Weight.result.now)))) = search rules in
    let tree = rw (← d) at (weight_tree c.args.next.now _ _ e) in
    let r : c.from_residual-in_err-scale_weighted-in-Weight.result ≡ Err c.in_err-scale_weighted-in-Weight.field-0.0 = search rules in
    rw (r, tree) (too_large_of c.in_err-scale_weighted-in-Weight.field-0.0 _ _ (weighed_common _ (rw tree at c.requires.positive)) c.in_err-scale_weighted-in-Weight.ensures.trees)

pub scale_belief-weight-requires-clause-scaled : goal.scale_belief-weight-requires-clause-scaled
scale_belief-weight-requires-clause-scaled t c = rw c.in_ok-scale_weighted-in-Weight.ensures.trees (weighted_trees_scaled c.divisor.result c.args.next.now _)

pub scale_belief-weight-requires-clause-positive : goal.scale_belief-weight-requires-clause-positive
scale_belief-weight-requires-clause-positive t c =
    let e : belief_tree c.args.x.now ≡ query.weight (weighted_trees (map weighted_tree c.deref-in-Weight.result.now)) = search (rules, belief_tree_laws) in
    let d : c.divisor.result ≡ common_divisor (weights (weighted_pruned (weighted_trees (map weighted_tree c.deref-in-Weight.result.now)))) = search rules in
    let tree = rw (← d) at (weight_tree c.args.next.now _ _ e) in
    rw c.in_ok-scale_weighted-in-Weight.ensures.trees (rw tree at c.requires.positive)

pub scale_weighted-scale_belief-requires : goal.scale_weighted-scale_belief-requires
scale_weighted-scale_belief-requires t c = (
  search (rules, the_lemmas),
  (
    let at = weighted_trees_at c.args.all.now c.loop-weight.weight-index c.loop-weight-item.result c.loop-weight-test.true c.loop-weight-item.is c.args.divisor c.loop-weight.next (omega arith) in
        let whole = rw at at c.loop-weight.invariant.0 in
        (more_weighted_common _ _ _ _ _ whole c.requires.positive).0,
    let n = weighted_count_at c.args.all.now c.loop-weight.weight-index c.loop-weight-item.result c.loop-weight-test.true c.loop-weight-item.is (omega arith) in
        omega (arith, n, c.loop-weight.invariant.1, c.requires.room),
  ),
)

pub scale_weighted-returns-in_err-tree-clause-trees : goal.scale_weighted-returns-in_err-tree-clause-trees
scale_weighted-returns-in_err-tree-clause-trees t c =
    let at = weighted_trees_at c.args.all.now c.loop-weight.weight-index c.loop-weight-item.result c.loop-weight-test.true c.loop-weight-item.is c.args.divisor c.loop-weight.next (omega arith) in
    let whole = rw at at c.loop-weight.invariant.0 in
    let le = (more_weighted_common _ _ _ _ _ whole c.requires.positive).1 in
    let r : c.from_residual.result ≡ Err c.in_err-tree.field-0.0 = search rules in
    rw r (too_large_of c.in_err-tree.field-0.0 _ _ le c.in_err-tree.ensures.tree)

pub scale_weighted-loop-weight-preserved : goal.scale_weighted-loop-weight-preserved
scale_weighted-loop-weight-preserved t c =
    let at = weighted_trees_at c.args.all.now c.loop-weight.weight-index c.loop-weight-item.result c.loop-weight-test.true c.loop-weight-item.is c.args.divisor c.loop-weight.next (omega arith) in
    let n = weighted_count_at c.args.all.now c.loop-weight.weight-index c.loop-weight-item.result c.loop-weight-test.true c.loop-weight-item.is (omega arith) in
    let pushed = weighted_trees_more c.loop-weight.trees.items _ c.in_ok-tree.tree _ c.push.new.self.items c.in_ok-push.ensures.items c.in_ok-tree.ensures.tree.0 in
    let next : c.scale_belief.new.next ≡ c.loop-weight.next + leaf_count (pruned (belief_tree c.loop-weight-item.result.1)) = search rules in
    (rw (pushed, weighted_joined_more, next, ← at) c.loop-weight.invariant.0, omega (arith, n, next, c.loop-weight.invariant.1))

pub scale_weighted-returns-clause-trees : goal.scale_weighted-returns-clause-trees
scale_weighted-returns-clause-trees t c =
    let end = weighted_trees_end c.args.all.now c.loop-weight.weight-index c.args.divisor c.loop-weight.next (omega arith) in
    sym (weighted_joined_none (map weighted_scaled_tree c.loop-weight.trees.items)) ∙ rw end at c.loop-weight.invariant.0

pub scale_weighted-returns-clause-next : goal.scale_weighted-returns-clause-next
scale_weighted-returns-clause-next t c = omega (arith, weighted_count_end c.args.all.now c.loop-weight.weight-index (omega arith), c.loop-weight.invariant.1)

pub scale_weighted-loop-weight-preserved-then-weight-eq0 : goal.scale_weighted-loop-weight-preserved-then-weight-eq0
scale_weighted-loop-weight-preserved-then-weight-eq0 t c =
    let same = weighted_dropped_at c.args.all.now c.loop-weight.weight-index c.loop-weight-item.result c.loop-weight-test.true c.loop-weight-item.is (omega arith) in
    rw (← same) c.loop-weight.invariant

pub scale_belief-returns-in-Prior-clause-tree : goal.scale_belief-returns-in-Prior-clause-tree
scale_belief-returns-in-Prior-clause-tree t c =
    let is = no_operator_tree c.args.next.now c.args.x.now c.in-Prior.is in
    (scaled_tree-Leaf c.take_number.result ∙ ap leaf c.take_number.ensures.number ∙ is.0, omega (arith, is.1))
