-- The scaled trees of a list, from one place on, behind those that are made.
use Rattle.std.proofs.Common.{◌≡◌, ℕ, List, [], ◌∷◌, ◌++◌, map, Option, length, drop, get_or, ◌<◌, ◌≤◌, ◌+◌, ◌*◌, ◌/◌, zero, suc, refl, ap, arith, true, ◌⊎◌, inl, inr, ◌∙◌}
use Rattle.std.specs.Prelude.{◌==◌}
use Rattle.std.proofs.lemmas.Bool.Decides.{nat_tests}
use Rattle.std.proofs.Math.Nat.{div-zero}
use Rattle.std.proofs.lemmas.List.{map-append}
use Rattle.ri_base.specs.declared.belief.Belief.{Belief, Prior, Leaf}
use Rattle.ri_base.specs.declared.expression.ExtentExpr.{ExtentExpr}
use Rattle.ri_base.proofs.QueryLemmas.{belief_tree-Prior, belief_tree-Leaf}
use Rattle.ri_base.specs.Expression.{ExprTree, expr_tree}
use Rattle.ri_base.specs.Query as query
use Rattle.ri_base.specs.Query.{BeliefTree, BeliefTrees, WeightedTrees, belief_tree, belief_trees, weighted_tree, weighted_trees}
use Rattle.query_check.specs.Check.{weights, pruned, all_pruned, weighted_pruned, leaf_count, all_leaf_count, weighted_leaf_count, combined, weighed, greatest_of, tree_from, trees_from, weighted_trees_from}
use Rattle.query_check.specs.Multiples.{common_divisor}
use Rattle.query_check.specs.Scale.{count, total, scale, common, weighted_common, is_scaled, are_scaled, are_weighted_scaled}
use Rattle.query_check.specs.Trees.{ScaledTree, ScaledTrees, WeightedScaledTrees, leaf, none, more, none_weighted, more_weighted, scaled_tree, scaled_trees, weighted_scaled_tree, weighted_scaled_trees}
use Rattle.query_check.specs.Scaling.{IsTooLarge}
use Rattle.query_check.specs.declared.tree.Tree.{Tree}
use Rattle.query_check.specs.declared.fault.CheckFault.{CheckFault}
use Rattle.query_check.specs.declared.fault.CheckFault.TheVariants.{NoWeight, NoLeaf, ScaleTooLarge, UnknownPrior, Memory}
use Rattle.query_check.proofs.Keeps.{test_same}
use Rattle.query_check.proofs.MultipleLemmas.{lcm_parts, le_lcm_left, le_lcm_right}
use Rattle.query_check.proofs.Walks.{drop_at, drop_end, weighted_kept, weighted_dropped}

-- trees before those of an operator
abbrev pub joined : List ScaledTree → ScaledTrees → ScaledTrees
joined [] ts = ts
joined (t ∷ before) ts = more t (joined before ts)

abbrev pub weighted_joined : List (ℕ × ScaledTree) → WeightedScaledTrees → WeightedScaledTrees
weighted_joined [] ts = ts
weighted_joined (t ∷ before) ts = more_weighted t.0 t.1 (weighted_joined before ts)

pub joined_more : (before : List ScaledTree) (t : ScaledTree) (ts : ScaledTrees) → joined (before ++ t ∷ []) ts ≡ joined before (more t ts)
joined_more [] t ts = refl
joined_more (b ∷ before) t ts = ap (more b) (joined_more before t ts)

pub weighted_joined_more : (before : List (ℕ × ScaledTree)) (t : ℕ × ScaledTree) (ts : WeightedScaledTrees) → weighted_joined (before ++ t ∷ []) ts ≡ weighted_joined before (more_weighted t.0 t.1 ts)
weighted_joined_more [] t ts = refl
weighted_joined_more (b ∷ before) t ts = ap (more_weighted b.0 b.1) (weighted_joined_more before t ts)

pub joined_none : (before : List ScaledTree) → joined before none ≡ scaled_trees before
joined_none [] = refl
joined_none (b ∷ before) = ap (more b) (joined_none before)

pub weighted_joined_none : (before : List (ℕ × ScaledTree)) → weighted_joined before none_weighted ≡ weighted_scaled_trees before
weighted_joined_none [] = refl
weighted_joined_none (b ∷ before) = ap (more_weighted b.0 b.1) (weighted_joined_none before)

-- the common multiple of some is at most that of all
pub joined_common : (before : List ScaledTree) (ts : ScaledTrees) → 0 < common (joined before ts) → (0 < common ts) × (common ts ≤ common (joined before ts))
unfolding scale common weighted_common
joined_common [] ts h = (h, omega arith)
joined_common (b ∷ before) ts h =
    let parts = lcm_parts (scale b) (common (joined before ts)) h in
    let inner = joined_common before ts parts.1 in
    (inner.0, omega (arith, inner.1, le_lcm_right (scale b) (common (joined before ts)) parts.0 parts.1))

pub weighted_joined_common : (before : List (ℕ × ScaledTree)) (ts : WeightedScaledTrees) → 0 < weighted_common (weighted_joined before ts) → (0 < weighted_common ts) × (weighted_common ts ≤ weighted_common (weighted_joined before ts))
unfolding scale common weighted_common
weighted_joined_common [] ts h = (h, omega arith)
weighted_joined_common (b ∷ before) ts h =
    let parts = lcm_parts (scale b.1) (weighted_common (weighted_joined before ts)) h in
    let inner = weighted_joined_common before ts parts.1 in
    (inner.0, omega (arith, inner.1, le_lcm_right (scale b.1) (weighted_common (weighted_joined before ts)) parts.0 parts.1))

-- one tree and those behind it
pub more_common : (before : List ScaledTree) (t : ScaledTree) (ts whole : ScaledTrees) → joined before (more t ts) ≡ whole → 0 < common whole → (0 < scale t) × (scale t ≤ common whole)
unfolding scale common weighted_common
more_common before t ts whole e h =
    let pos : 0 < common (joined before (more t ts)) = rw e h in
    let inner = joined_common before (more t ts) pos in
    let parts = lcm_parts (scale t) (common ts) inner.0 in
    let le : common (joined before (more t ts)) ≡ common whole = ap common e in
    (parts.0, omega (arith, inner.1, le, le_lcm_left (scale t) (common ts) parts.0 parts.1))

pub more_weighted_common : (before : List (ℕ × ScaledTree)) (w : ℕ) (t : ScaledTree) (ts whole : WeightedScaledTrees) → weighted_joined before (more_weighted w t ts) ≡ whole → 0 < weighted_common whole → (0 < scale t) × (scale t ≤ weighted_common whole)
unfolding scale common weighted_common
more_weighted_common before w t ts whole e h =
    let pos : 0 < weighted_common (weighted_joined before (more_weighted w t ts)) = rw e h in
    let inner = weighted_joined_common before (more_weighted w t ts) pos in
    let parts = lcm_parts (scale t) (weighted_common ts) inner.0 in
    let le : weighted_common (weighted_joined before (more_weighted w t ts)) ≡ weighted_common whole = ap weighted_common e in
    (parts.0, omega (arith, inner.1, le, le_lcm_left (scale t) (weighted_common ts) parts.0 parts.1))

module _ (xs : List Belief) (i : ℕ) (x : Belief) (inside : i < length xs) (here : x ≡ get_or xs i x) where
  pub trees_at : (n : ℕ) → trees_from n (all_pruned (belief_trees (map belief_tree (drop i xs)))) ≡ more (tree_from n (pruned (belief_tree x))) (trees_from (n + leaf_count (pruned (belief_tree x))) (all_pruned (belief_trees (map belief_tree (drop (i + 1) xs)))))
  unfolding tree_from trees_from weighted_trees_from all_pruned
  trees_at n = rw (drop_at xs i x inside here) refl

  pub count_at : all_leaf_count (all_pruned (belief_trees (map belief_tree (drop i xs)))) ≡ leaf_count (pruned (belief_tree x)) + all_leaf_count (all_pruned (belief_trees (map belief_tree (drop (i + 1) xs))))
  unfolding leaf_count all_leaf_count weighted_leaf_count all_pruned
  count_at = rw (drop_at xs i x inside here) refl

pub trees_end : (xs : List Belief) (i n : ℕ) → length xs ≤ i → trees_from n (all_pruned (belief_trees (map belief_tree (drop i xs)))) ≡ none
unfolding tree_from trees_from weighted_trees_from all_pruned
trees_end xs i n out = rw (drop_end xs i out) refl

pub count_end : (xs : List Belief) (i : ℕ) → length xs ≤ i → all_leaf_count (all_pruned (belief_trees (map belief_tree (drop i xs)))) ≡ 0
unfolding leaf_count all_leaf_count weighted_leaf_count all_pruned
count_end xs i out = rw (drop_end xs i out) refl

module _ (xs : List (ℕ × Belief)) (i : ℕ) (x : ℕ × Belief) (inside : i < length xs) (here : x ≡ get_or xs i x) where
  pub weighted_trees_at : (d n : ℕ) → 0 < x.0 → weighted_trees_from d n (weighted_pruned (weighted_trees (map weighted_tree (drop i xs)))) ≡ more_weighted (x.0 / d) (tree_from n (pruned (belief_tree x.1))) (weighted_trees_from d (n + leaf_count (pruned (belief_tree x.1))) (weighted_pruned (weighted_trees (map weighted_tree (drop (i + 1) xs)))))
  unfolding tree_from trees_from weighted_trees_from
  weighted_trees_at d n pos = rw (drop_at xs i x inside here) (rw (weighted_kept x.0 (belief_tree x.1) (weighted_trees (map weighted_tree (drop (i + 1) xs))) pos) refl)

  pub weighted_count_at : 0 < x.0 → weighted_leaf_count (weighted_pruned (weighted_trees (map weighted_tree (drop i xs)))) ≡ leaf_count (pruned (belief_tree x.1)) + weighted_leaf_count (weighted_pruned (weighted_trees (map weighted_tree (drop (i + 1) xs))))
  unfolding leaf_count all_leaf_count weighted_leaf_count
  weighted_count_at pos = rw (drop_at xs i x inside here) (rw (weighted_kept x.0 (belief_tree x.1) (weighted_trees (map weighted_tree (drop (i + 1) xs))) pos) refl)

  pub weighted_dropped_at : x.0 ≤ 0 → weighted_pruned (weighted_trees (map weighted_tree (drop i xs))) ≡ weighted_pruned (weighted_trees (map weighted_tree (drop (i + 1) xs)))
  weighted_dropped_at none_is = rw (drop_at xs i x inside here) (weighted_dropped x.0 (belief_tree x.1) (weighted_trees (map weighted_tree (drop (i + 1) xs))) none_is)

pub weighted_trees_end : (xs : List (ℕ × Belief)) (i d n : ℕ) → length xs ≤ i → weighted_trees_from d n (weighted_pruned (weighted_trees (map weighted_tree (drop i xs)))) ≡ none_weighted
unfolding tree_from trees_from weighted_trees_from weighted_pruned
weighted_trees_end xs i d n out = rw (drop_end xs i out) refl

pub weighted_count_end : (xs : List (ℕ × Belief)) (i : ℕ) → length xs ≤ i → weighted_leaf_count (weighted_pruned (weighted_trees (map weighted_tree (drop i xs)))) ≡ 0
unfolding leaf_count all_leaf_count weighted_leaf_count weighted_pruned
weighted_count_end xs i out = rw (drop_end xs i out) refl

-- the tree and the number of leaves of an operator, by those of its arguments
module _ (n : ℕ) (t : BeliefTree) (xs : BeliefTrees) where
  pub combine_tree : t ≡ query.combine xs → tree_from n (pruned t) ≡ combined (trees_from n (all_pruned xs))
  unfolding tree_from trees_from weighted_trees_from pruned
  combine_tree e = rw e refl

  pub greatest_tree : t ≡ query.greatest xs → tree_from n (pruned t) ≡ greatest_of (trees_from n (all_pruned xs))
  unfolding tree_from trees_from weighted_trees_from pruned
  greatest_tree e = rw e refl

  pub combine_count : t ≡ query.combine xs → leaf_count (pruned t) ≡ all_leaf_count (all_pruned xs)
  unfolding leaf_count all_leaf_count weighted_leaf_count pruned
  combine_count e = rw e refl

  pub greatest_count : t ≡ query.greatest xs → leaf_count (pruned t) ≡ all_leaf_count (all_pruned xs)
  unfolding leaf_count all_leaf_count weighted_leaf_count pruned
  greatest_count e = rw e refl

module _ (n : ℕ) (t : BeliefTree) (xs : WeightedTrees) where
  pub weight_tree : t ≡ query.weight xs → tree_from n (pruned t) ≡ weighed (weighted_trees_from (common_divisor (weights (weighted_pruned xs))) n (weighted_pruned xs))
  unfolding tree_from trees_from weighted_trees_from pruned
  weight_tree e = rw e refl

  pub weight_count : t ≡ query.weight xs → leaf_count (pruned t) ≡ weighted_leaf_count (weighted_pruned xs)
  unfolding leaf_count all_leaf_count weighted_leaf_count pruned
  weight_count e = rw e refl

pub prior_tree : (n : ℕ) (t : BeliefTree) (f : List ℕ) → t ≡ query.prior f → (leaf n ≡ tree_from n (pruned t)) × (scale (tree_from n (pruned t)) ≡ 1)
unfolding tree_from trees_from weighted_trees_from pruned scale common weighted_common
prior_tree n t f e = rw e (refl, refl)

pub leaf_tree : (n : ℕ) (t : BeliefTree) (x : ExprTree) (context : Option (List ℕ)) → t ≡ query.leaf x context → (leaf n ≡ tree_from n (pruned t)) × (scale (tree_from n (pruned t)) ≡ 1)
unfolding tree_from trees_from weighted_trees_from pruned scale common weighted_common
leaf_tree n t x context e = rw e (refl, refl)

-- with the divisor 0 nothing would be left of the weights
total_none : (n : ℕ) (xs : WeightedTrees) → total (weighted_trees_from 0 n xs) ≡ 0
unfolding total tree_from trees_from weighted_trees_from
total_none n query.none_weighted = refl
total_none n (query.more_weighted w x xs) = rw (total_none (n + leaf_count x) xs, div-zero w) refl

pub divisor_positive : (d n : ℕ) (xs : WeightedTrees) → 0 < total (weighted_trees_from d n xs) → 0 < d
divisor_positive zero n xs h = absurd (omega (arith, total_none n xs, h))
divisor_positive (suc d) n xs h = omega arith

mutual
  unfolding tree_from trees_from weighted_trees_from is_scaled are_scaled are_weighted_scaled combined weighed greatest_of

  -- the number before the arguments of each operator is its scale
  pub tree_scaled : (n : ℕ) (x : BeliefTree) → is_scaled (tree_from n x) ≡ true
  tree_scaled n (query.combine xs) = rw (test_same (count (trees_from n xs) * common (trees_from n xs)) _ refl) (trees_scaled n xs)
  tree_scaled n (query.weight xs) = rw (test_same (total (weighted_trees_from (common_divisor (weights xs)) n xs) * weighted_common (weighted_trees_from (common_divisor (weights xs)) n xs)) _ refl) (weighted_trees_scaled (common_divisor (weights xs)) n xs)
  tree_scaled n (query.greatest xs) = rw (test_same (common (trees_from n xs)) _ refl) (trees_scaled n xs)
  tree_scaled n (query.prior f) = refl
  tree_scaled n (query.leaf x context) = refl

  pub trees_scaled : (n : ℕ) (xs : BeliefTrees) → are_scaled (trees_from n xs) ≡ true
  trees_scaled n query.none = refl
  trees_scaled n (query.more x xs) = rw (tree_scaled n x) (trees_scaled (n + leaf_count x) xs)

  pub weighted_trees_scaled : (d n : ℕ) (xs : WeightedTrees) → are_weighted_scaled (weighted_trees_from d n xs) ≡ true
  weighted_trees_scaled d n query.none_weighted = refl
  weighted_trees_scaled d n (query.more_weighted w x xs) = rw (tree_scaled n x) (weighted_trees_scaled d (n + leaf_count x) xs)

-- one tree more at the end of those that are made
pub trees_more : (xs : List Tree) (x : Tree) (t : ScaledTree) (new : List Tree) → new ≡ xs ++ x ∷ [] → scaled_tree x ≡ t → map scaled_tree new ≡ map scaled_tree xs ++ t ∷ []
trees_more xs x t new e is = rw (e, ← is) (map-append scaled_tree xs (x ∷ []))

pub weighted_trees_more : (xs : List (ℕ × Tree)) (w : ℕ) (x : Tree) (t : ScaledTree) (new : List (ℕ × Tree)) → new ≡ xs ++ (w, x) ∷ [] → scaled_tree x ≡ t → map weighted_scaled_tree new ≡ map weighted_scaled_tree xs ++ (w, t) ∷ []
weighted_trees_more xs w x t new e is = rw (e, ← is) (map-append weighted_scaled_tree xs ((w, x) ∷ []))

-- a fault of a part is one of the whole
pub too_large_of : (fault : CheckFault) (a b : ℕ) → a ≤ b → IsTooLarge fault a → IsTooLarge fault b
too_large_of NoWeight a b le h = h
too_large_of NoLeaf a b le h = h
too_large_of ScaleTooLarge a b le h = omega (arith, h)
too_large_of (UnknownPrior f) a b le h = h
too_large_of Memory a b le h = h

-- a belief that is no operator
pub no_operator_tree : (n : ℕ) (x : Belief) → ((f : List ℕ) × x ≡ Prior f) ⊎ ((y : ExtentExpr) × (context : Option (List ℕ)) × x ≡ Leaf y context) → (leaf n ≡ tree_from n (pruned (belief_tree x))) × (scale (tree_from n (pruned (belief_tree x))) ≡ 1)
no_operator_tree n x (inl (f, is)) = prior_tree n (belief_tree x) f (ap belief_tree is ∙ belief_tree-Prior f)
no_operator_tree n x (inr (y, context, is)) = leaf_tree n (belief_tree x) (expr_tree y) context (ap belief_tree is ∙ belief_tree-Leaf y context)
