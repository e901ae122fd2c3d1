-- The check of a query: the checked query that it stands for, or its first fault.
use Rattle.std.specs.Prelude.{ℕ, ◌+◌, ◌*◌, ◌/◌, ◌^◌, Bool, true, false, not, ◌==◌, ◌&&◌, ◌||◌, nat_le, if◌then◌else◌, List, [], ◌∷◌, ◌++◌, Option, None, Some, Result, Ok, Err, position, find}
use Rattle.std.specs.Str.{bytes_eq}
use Rattle.std.specs.List.{list_any}
use Rattle.std.specs.Option.{option_map}
use Rattle.std.specs.Prelude.{codes}
use Rattle.ri_base.specs.declared.query.Range.{Range}
use Rattle.ri_base.specs.Query.{FilterTree, QueryTree, BeliefTree, BeliefTrees, WeightedTrees, combine, weight, greatest, prior, leaf, none, more, none_weighted, more_weighted, belief_trees}
use Rattle.query_check.specs.declared.fault.CheckFault.{CheckFault}
use Rattle.query_check.specs.declared.fault.CheckFault.TheVariants.{NoWeight, NoLeaf, ScaleTooLarge, UnknownPrior}
use Rattle.query_check.specs.Leaves as leaves
use Rattle.query_check.specs.Leaves.{LeafTree}
use Rattle.query_check.specs.Multiples.{common_divisor}
use Rattle.query_check.specs.Scale.{count, total, common, weighted_common, scale}
use Rattle.query_check.specs.Trees as tree
use Rattle.query_check.specs.Trees.{ScaledTree, ScaledTrees, WeightedScaledTrees}

pub record CheckedTree : Type 0 where
  pub filters : List FilterTree
  pub range : Range
  pub leaves : List LeafTree
  pub tree : ScaledTree
  pub scale : ℕ

unfoldable pub weights : WeightedTrees → List ℕ
weights none_weighted = []
weights (more_weighted w x xs) = w ∷ weights xs

abbrev pub is_some_weight : ℕ → Bool
is_some_weight w = not (w == 0)

unfoldable mutual
  -- each `#weight` has a weight above 0
  pub has_weights : BeliefTree → Bool
  has_weights (combine xs) = have_weights xs
  has_weights (weight xs) = list_any is_some_weight (weights xs) && have_weights_weighted xs
  has_weights (greatest xs) = have_weights xs
  has_weights (prior f) = true
  has_weights (leaf x context) = true

  pub have_weights : BeliefTrees → Bool
  have_weights none = true
  have_weights (more x xs) = has_weights x && have_weights xs

  pub have_weights_weighted : WeightedTrees → Bool
  have_weights_weighted none_weighted = true
  have_weights_weighted (more_weighted w x xs) = has_weights x && have_weights_weighted xs

unfoldable mutual
  -- the priors in reading order
  pub priors : BeliefTree → List (List ℕ)
  priors (combine xs) = all_priors xs
  priors (weight xs) = weighted_priors xs
  priors (greatest xs) = all_priors xs
  priors (prior f) = f ∷ []
  priors (leaf x context) = []

  pub all_priors : BeliefTrees → List (List ℕ)
  all_priors none = []
  all_priors (more x xs) = priors x ++ all_priors xs

  pub weighted_priors : WeightedTrees → List (List ℕ)
  weighted_priors none_weighted = []
  weighted_priors (more_weighted w x xs) = priors x ++ weighted_priors xs

unfoldable mutual
  -- what is left once the children of weight 0 are dropped
  pub pruned : BeliefTree → BeliefTree
  pruned (combine xs) = combine (all_pruned xs)
  pruned (weight xs) = weight (weighted_pruned xs)
  pruned (greatest xs) = greatest (all_pruned xs)
  pruned (prior f) = prior f
  pruned (leaf x context) = leaf x context

  pub all_pruned : BeliefTrees → BeliefTrees
  all_pruned none = none
  all_pruned (more x xs) = more (pruned x) (all_pruned xs)

  pub weighted_pruned : WeightedTrees → WeightedTrees
  weighted_pruned none_weighted = none_weighted
  weighted_pruned (more_weighted w x xs) = if w == 0 then weighted_pruned xs else more_weighted w (pruned x) (weighted_pruned xs)

-- the number of a prior: its place among the names, and 8 for `length`
abbrev pub is_length : List ℕ → Bool
is_length f = bytes_eq f (codes "length")

abbrev pub place_or : ℕ → Option ℕ → ℕ
place_or n None = n
place_or n (Some i) = i

unfoldable pub prior_number : List (List ℕ) → List ℕ → ℕ
prior_number names f = if is_length f then 8 else place_or 8 (position (λ name. bytes_eq name f) names)

-- neither `length` nor among the names
unfoldable pub is_unknown : List (List ℕ) → List ℕ → Bool
is_unknown names f = not (is_length f) && not (list_any (λ name. bytes_eq name f) names)

unfoldable mutual
  -- the leaves in reading order
  pub leaves_of : List (List ℕ) → BeliefTree → List LeafTree
  leaves_of names (combine xs) = all_leaves names xs
  leaves_of names (weight xs) = weighted_leaves names xs
  leaves_of names (greatest xs) = all_leaves names xs
  leaves_of names (prior f) = leaves.prior (prior_number names f) ∷ []
  leaves_of names (leaf x context) = leaves.extents x context ∷ []

  pub all_leaves : List (List ℕ) → BeliefTrees → List LeafTree
  all_leaves names none = []
  all_leaves names (more x xs) = leaves_of names x ++ all_leaves names xs

  pub weighted_leaves : List (List ℕ) → WeightedTrees → List LeafTree
  weighted_leaves names none_weighted = []
  weighted_leaves names (more_weighted w x xs) = leaves_of names x ++ weighted_leaves names xs

unfoldable mutual
  -- some leaf is no prior
  pub has_leaf : BeliefTree → Bool
  has_leaf (combine xs) = have_leaf xs
  has_leaf (weight xs) = have_leaf_weighted xs
  has_leaf (greatest xs) = have_leaf xs
  has_leaf (prior f) = false
  has_leaf (leaf x context) = true

  pub have_leaf : BeliefTrees → Bool
  have_leaf none = false
  have_leaf (more x xs) = has_leaf x || have_leaf xs

  pub have_leaf_weighted : WeightedTrees → Bool
  have_leaf_weighted none_weighted = false
  have_leaf_weighted (more_weighted w x xs) = has_leaf x || have_leaf_weighted xs

unfoldable mutual
  -- how many leaves there are
  pub leaf_count : BeliefTree → ℕ
  leaf_count (combine xs) = all_leaf_count xs
  leaf_count (weight xs) = weighted_leaf_count xs
  leaf_count (greatest xs) = all_leaf_count xs
  leaf_count (prior f) = 1
  leaf_count (leaf x context) = 1

  pub all_leaf_count : BeliefTrees → ℕ
  all_leaf_count none = 0
  all_leaf_count (more x xs) = leaf_count x + all_leaf_count xs

  pub weighted_leaf_count : WeightedTrees → ℕ
  weighted_leaf_count none_weighted = 0
  weighted_leaf_count (more_weighted w x xs) = leaf_count x + weighted_leaf_count xs

-- an operator with its scale before its arguments
unfoldable pub combined : ScaledTrees → ScaledTree
combined xs = tree.combine (count xs * common xs) xs

unfoldable pub weighed : WeightedScaledTrees → ScaledTree
weighed xs = tree.weight (total xs * weighted_common xs) xs

unfoldable pub greatest_of : ScaledTrees → ScaledTree
greatest_of xs = tree.greatest (common xs) xs

unfoldable mutual
  -- the tree whose leaves have the numbers from n on, with the weights of each operator divided by their greatest common divisor
  pub tree_from : ℕ → BeliefTree → ScaledTree
  tree_from n (combine xs) = combined (trees_from n xs)
  tree_from n (weight xs) = weighed (weighted_trees_from (common_divisor (weights xs)) n xs)
  tree_from n (greatest xs) = greatest_of (trees_from n xs)
  tree_from n (prior f) = tree.leaf n
  tree_from n (leaf x context) = tree.leaf n

  pub trees_from : ℕ → BeliefTrees → ScaledTrees
  trees_from n none = tree.none
  trees_from n (more x xs) = tree.more (tree_from n x) (trees_from (n + leaf_count x) xs)

  pub weighted_trees_from : ℕ → ℕ → WeightedTrees → WeightedScaledTrees
  weighted_trees_from d n none_weighted = tree.none_weighted
  weighted_trees_from d n (more_weighted w x xs) = tree.more_weighted (w / d) (tree_from n x) (weighted_trees_from d (n + leaf_count x) xs)

-- the beliefs of a query stand as the arguments of one `#combine`
abbrev pub whole : QueryTree → BeliefTree
whole q = combine (belief_trees q.beliefs)

abbrev pub checked_tree : QueryTree → List (List ℕ) → CheckedTree
checked_tree q names = record {
  filters = q.filters;
  range = q.range;
  leaves = leaves_of names (pruned (whole q));
  tree = tree_from 0 (pruned (whole q));
  scale = scale (tree_from 0 (pruned (whole q)));
}

-- Weights and priors are looked at in all beliefs as they are read, leaves and the scale in what is left of them.
unfoldable pub first_fault : List (List ℕ) → BeliefTree → Option CheckFault
first_fault names x =
    if not (has_weights x) then Some NoWeight else
    if not (has_leaf (pruned x)) then Some NoLeaf else
    if nat_le (2 ^ 60) (scale (tree_from 0 (pruned x))) then Some ScaleTooLarge else
    option_map UnknownPrior (find (is_unknown names) (priors x))

abbrev pub checked_or : Option CheckFault → CheckedTree → Result CheckedTree CheckFault
checked_or None checked = Ok checked
checked_or (Some fault) checked = Err fault

-- the checked query, or its first fault
abbrev pub checks : QueryTree → List (List ℕ) → Result CheckedTree CheckFault
checks q names = checked_or (first_fault names (whole q)) (checked_tree q names)
