-- What the scaled tree and the leaves of a sound query keep.
use Rattle.std.proofs.Common.{◌≡◌, ℕ, ◌<◌, ◌≤◌, ◌+◌, zero, suc, refl, arith, Bool, true}
use Rattle.std.specs.Prelude.{◌&&◌, ◌==◌, nat_le, nat_lt}
use Rattle.std.specs.List.{list_any}
use Rattle.std.proofs.lemmas.Bool.Decides.{nat_tests}
use Rattle.ri_base.specs.Expression as expr
use Rattle.ri_base.specs.Query as query
use Rattle.ri_base.specs.Query.{BeliefTree, BeliefTrees, WeightedTrees}
use Rattle.query_check.specs.Check.{weights, is_some_weight, has_weights, have_weights, have_weights_weighted, pruned, all_pruned, weighted_pruned, leaf_count, all_leaf_count, weighted_leaf_count, combined, weighed, greatest_of, tree_from, trees_from, weighted_trees_from}
use Rattle.query_check.specs.Kept.{depth, depths, weighted_depths, has_arguments, are_arguments, have_arguments, are_weighted_arguments, have_weighted_arguments, is_below, are_below, are_weighted_below}
use Rattle.query_check.specs.Multiples.{common_divisor}
use Rattle.query_check.proofs.Scales.{both_left, both_right}
use Rattle.query_check.proofs.Walks.{weighted_kept}

pub both : (a b : Bool) → a ≡ true → b ≡ true → (a && b) ≡ true
both a b p q = rw (p, q) refl

pub test_below : (n m : ℕ) → n < m → nat_lt n m ≡ true
test_below n m h = grind (arith, nat_tests)

pub test_same : (m n : ℕ) → m ≡ n → (m == n) ≡ true
test_same m n e = rw e (grind (arith, nat_tests))

pub at_most_of : (m n : ℕ) → nat_le m n ≡ true → m ≤ n
at_most_of m n h = grind (arith, nat_tests)

pub test_at_most : (m n : ℕ) → m ≤ n → nat_le m n ≡ true
test_at_most m n h = grind (arith, nat_tests)

mutual
  unfolding tree_from trees_from weighted_trees_from combined weighed greatest_of pruned all_pruned depth depths weighted_depths query.depth query.depths query.weighted_depths

  -- no deeper than the beliefs
  pub tree_depth : (n : ℕ) (x : BeliefTree) → depth (tree_from n (pruned x)) ≤ query.depth x
  tree_depth n (query.combine xs) = omega (arith, trees_depth n xs)
  tree_depth n (query.weight xs) = omega (arith, weighted_trees_depth (common_divisor (weights (weighted_pruned xs))) n xs)
  tree_depth n (query.greatest xs) = omega (arith, trees_depth n xs)
  tree_depth n (query.prior f) = omega arith
  tree_depth n (query.leaf x context) = omega arith

  pub trees_depth : (n : ℕ) (xs : BeliefTrees) → depths (trees_from n (all_pruned xs)) ≤ query.depths xs
  trees_depth n query.none = omega arith
  trees_depth n (query.more x xs) = omega (arith, tree_depth n x, trees_depth (n + leaf_count (pruned x)) xs)

  pub weighted_trees_depth : (d n : ℕ) (xs : WeightedTrees) → weighted_depths (weighted_trees_from d n (weighted_pruned xs)) ≤ query.weighted_depths xs
  weighted_trees_depth d n query.none_weighted = omega arith
  weighted_trees_depth d n (query.more_weighted zero x xs) = omega (arith, weighted_trees_depth d n xs)
  weighted_trees_depth d n (query.more_weighted (suc w) x xs) = rw (weighted_kept (suc w) x xs (omega arith)) (omega (arith, tree_depth n x, weighted_trees_depth d (n + leaf_count (pruned x)) xs))

some_nodes : (x : expr.ExprTree) → 1 ≤ expr.nodes x
unfolding expr.nodes expr.all_nodes
some_nodes (expr.word t) = omega arith
some_nodes (expr.ordered m xs) = omega arith
some_nodes (expr.unordered m xs) = omega arith
some_nodes (expr.syn xs) = omega arith
some_nodes (expr.any f) = omega arith
some_nodes (expr.band xs) = omega arith
some_nodes (expr.in_field x f) = some_nodes x

mutual
  unfolding leaf_count all_leaf_count weighted_leaf_count pruned all_pruned query.nodes query.all_nodes query.weighted_nodes

  -- no more leaves than nodes
  pub few_leaves : (x : BeliefTree) → leaf_count (pruned x) ≤ query.nodes x
  few_leaves (query.combine xs) = omega (arith, few_all_leaves xs)
  few_leaves (query.weight xs) = omega (arith, few_weighted_leaves xs)
  few_leaves (query.greatest xs) = omega (arith, few_all_leaves xs)
  few_leaves (query.prior f) = omega arith
  few_leaves (query.leaf x context) = some_nodes x

  few_all_leaves : (xs : BeliefTrees) → all_leaf_count (all_pruned xs) ≤ query.all_nodes xs
  few_all_leaves query.none = omega arith
  few_all_leaves (query.more x xs) = omega (arith, few_leaves x, few_all_leaves xs)

  few_weighted_leaves : (xs : WeightedTrees) → weighted_leaf_count (weighted_pruned xs) ≤ query.weighted_nodes xs
  few_weighted_leaves query.none_weighted = omega arith
  few_weighted_leaves (query.more_weighted zero x xs) = omega (arith, few_weighted_leaves xs)
  few_weighted_leaves (query.more_weighted (suc w) x xs) = rw (weighted_kept (suc w) x xs (omega arith)) (omega (arith, few_leaves x, few_weighted_leaves xs))

-- arguments are sound
pub arguments_sound : (xs : BeliefTrees) → query.are_arguments xs ≡ true → query.are_sound xs ≡ true
unfolding query.is_sound query.are_arguments query.are_sound query.are_weighted_arguments query.are_weighted_sound
arguments_sound query.none h = refl
arguments_sound (query.more x xs) h = h

pub weighted_sound : (xs : WeightedTrees) → query.are_weighted_arguments xs ≡ true → query.are_weighted_sound xs ≡ true
unfolding query.is_sound query.are_arguments query.are_sound query.are_weighted_arguments query.are_weighted_sound
weighted_sound query.none_weighted h = refl
weighted_sound (query.more_weighted w x xs) h = h

mutual
  unfolding tree_from trees_from weighted_trees_from combined weighed greatest_of pruned all_pruned has_arguments are_arguments have_arguments are_weighted_arguments have_weighted_arguments has_weights have_weights have_weights_weighted weights query.is_sound query.are_arguments query.are_sound query.are_weighted_arguments query.are_weighted_sound

  -- each operator has an argument
  pub tree_arguments : (n : ℕ) (x : BeliefTree) → query.is_sound x ≡ true → has_weights x ≡ true → has_arguments (tree_from n (pruned x)) ≡ true
  tree_arguments n (query.combine xs) s h = trees_arguments n xs s h
  tree_arguments n (query.weight xs) s h = weighted_trees_arguments _ n xs (weighted_sound xs s) (both_left (list_any is_some_weight (weights xs)) _ h) (both_right (list_any is_some_weight (weights xs)) _ h)
  tree_arguments n (query.greatest xs) s h = trees_arguments n xs s h
  tree_arguments n (query.prior f) s h = refl
  tree_arguments n (query.leaf x context) s h = refl

  trees_arguments : (n : ℕ) (xs : BeliefTrees) → query.are_arguments xs ≡ true → have_weights xs ≡ true → are_arguments (trees_from n (all_pruned xs)) ≡ true
  trees_arguments n query.none s h = absurd (cc)
  trees_arguments n (query.more x xs) s h = both _ _ (tree_arguments n x (both_left (query.is_sound x) _ s) (both_left (has_weights x) _ h)) (trees_have_arguments _ xs (both_right (query.is_sound x) _ s) (both_right (has_weights x) _ h))

  trees_have_arguments : (n : ℕ) (xs : BeliefTrees) → query.are_sound xs ≡ true → have_weights xs ≡ true → have_arguments (trees_from n (all_pruned xs)) ≡ true
  trees_have_arguments n query.none s h = refl
  trees_have_arguments n (query.more x xs) s h = both _ _ (tree_arguments n x (both_left (query.is_sound x) _ s) (both_left (has_weights x) _ h)) (trees_have_arguments _ xs (both_right (query.is_sound x) _ s) (both_right (has_weights x) _ h))

  weighted_trees_arguments : (d n : ℕ) (xs : WeightedTrees) → query.are_weighted_sound xs ≡ true → list_any is_some_weight (weights xs) ≡ true → have_weights_weighted xs ≡ true → are_weighted_arguments (weighted_trees_from d n (weighted_pruned xs)) ≡ true
  weighted_trees_arguments d n query.none_weighted s w h = absurd (cc)
  weighted_trees_arguments d n (query.more_weighted zero x xs) s w h = weighted_trees_arguments d n xs (both_right (query.is_weight zero && query.is_sound x) _ s) w (both_right (has_weights x) _ h)
  weighted_trees_arguments d n (query.more_weighted (suc w) x xs) s t h =
      rw (weighted_kept (suc w) x xs (omega arith)) (both _ _ (tree_arguments n x (both_right (query.is_weight (suc w)) _ (both_left (query.is_weight (suc w) && query.is_sound x) _ s)) (both_left (has_weights x) _ h)) (weighted_trees_have_arguments d _ xs (both_right (query.is_weight (suc w) && query.is_sound x) _ s) (both_right (has_weights x) _ h)))

  weighted_trees_have_arguments : (d n : ℕ) (xs : WeightedTrees) → query.are_weighted_sound xs ≡ true → have_weights_weighted xs ≡ true → have_weighted_arguments (weighted_trees_from d n (weighted_pruned xs)) ≡ true
  weighted_trees_have_arguments d n query.none_weighted s h = refl
  weighted_trees_have_arguments d n (query.more_weighted zero x xs) s h = weighted_trees_have_arguments d n xs (both_right (query.is_weight zero && query.is_sound x) _ s) (both_right (has_weights x) _ h)
  weighted_trees_have_arguments d n (query.more_weighted (suc w) x xs) s h =
      rw (weighted_kept (suc w) x xs (omega arith)) (both _ _ (tree_arguments n x (both_right (query.is_weight (suc w)) _ (both_left (query.is_weight (suc w) && query.is_sound x) _ s)) (both_left (has_weights x) _ h)) (weighted_trees_have_arguments d _ xs (both_right (query.is_weight (suc w) && query.is_sound x) _ s) (both_right (has_weights x) _ h)))

mutual
  unfolding tree_from trees_from weighted_trees_from combined weighed greatest_of leaf_count all_leaf_count weighted_leaf_count is_below are_below are_weighted_below

  -- each leaf has a number below the first and the count of all
  pub tree_below : (n m : ℕ) (x : BeliefTree) → n + leaf_count x ≤ m → is_below m (tree_from n x) ≡ true
  tree_below n m (query.combine xs) h = trees_below n m xs h
  tree_below n m (query.weight xs) h = weighted_trees_below _ n m xs h
  tree_below n m (query.greatest xs) h = trees_below n m xs h
  tree_below n m (query.prior f) h = test_below n m (omega arith)
  tree_below n m (query.leaf x context) h = test_below n m (omega arith)

  trees_below : (n m : ℕ) (xs : BeliefTrees) → n + all_leaf_count xs ≤ m → are_below m (trees_from n xs) ≡ true
  trees_below n m query.none h = refl
  trees_below n m (query.more x xs) h = both _ _ (tree_below n m x (omega arith)) (trees_below (n + leaf_count x) m xs (omega arith))

  weighted_trees_below : (d n m : ℕ) (xs : WeightedTrees) → n + weighted_leaf_count xs ≤ m → are_weighted_below m (weighted_trees_from d n xs) ≡ true
  weighted_trees_below d n m query.none_weighted h = refl
  weighted_trees_below d n m (query.more_weighted w x xs) h = both _ _ (tree_below n m x (omega arith)) (weighted_trees_below d (n + leaf_count x) m xs (omega arith))
