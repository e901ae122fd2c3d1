-- What every checked query keeps.
use Rattle.std.specs.Prelude.{◌≡◌, ◌≤◌, ◌<◌, ◌+◌, ◌^◌, ℕ, max, Bool, true, false, ◌&&◌, nat_lt, nat_le, ◌==◌, List, length}
use Rattle.ri_base.specs.declared.limits.TheConstants.{MAX_QUERY_DEPTH, MAX_QUERY_NODES}
use Rattle.ri_base.specs.declared.query.Range.{Range}
use Rattle.ri_base.specs.Query.{FilterTree, depth_in_filters, nodes_in_filters, are_filters, window_count, is_range}
use Rattle.query_check.specs.Leaves.{LeafTree, leaf_depths, all_leaf_nodes, are_sound_leaves}
use Rattle.query_check.specs.Multiples.{common_divisor}
use Rattle.query_check.specs.Scale.{scale, weights, is_scaled}
use Rattle.query_check.specs.Trees.{ScaledTree, ScaledTrees, WeightedScaledTrees, leaf, combine, weight, greatest, none, more, none_weighted, more_weighted}

unfoldable mutual
  -- how many operators stand one inside the other
  pub depth : ScaledTree → ℕ
  depth (leaf i) = 0
  depth (combine e xs) = 1 + depths xs
  depth (weight e xs) = 1 + weighted_depths xs
  depth (greatest e xs) = 1 + depths xs

  pub depths : ScaledTrees → ℕ
  depths none = 0
  depths (more x xs) = max (depth x) (depths xs)

  pub weighted_depths : WeightedScaledTrees → ℕ
  weighted_depths none_weighted = 0
  weighted_depths (more_weighted w x xs) = max (depth x) (weighted_depths xs)

unfoldable mutual
  -- each operator has an argument
  pub has_arguments : ScaledTree → Bool
  has_arguments (leaf i) = true
  has_arguments (combine e xs) = are_arguments xs
  has_arguments (weight e xs) = are_weighted_arguments xs
  has_arguments (greatest e xs) = are_arguments xs

  pub are_arguments : ScaledTrees → Bool
  are_arguments none = false
  are_arguments (more x xs) = has_arguments x && have_arguments xs

  pub have_arguments : ScaledTrees → Bool
  have_arguments none = true
  have_arguments (more x xs) = has_arguments x && have_arguments xs

  pub are_weighted_arguments : WeightedScaledTrees → Bool
  are_weighted_arguments none_weighted = false
  are_weighted_arguments (more_weighted w x xs) = has_arguments x && have_weighted_arguments xs

  pub have_weighted_arguments : WeightedScaledTrees → Bool
  have_weighted_arguments none_weighted = true
  have_weighted_arguments (more_weighted w x xs) = has_arguments x && have_weighted_arguments xs

unfoldable mutual
  -- each leaf has a number below n
  pub is_below : ℕ → ScaledTree → Bool
  is_below n (leaf i) = nat_lt i n
  is_below n (combine e xs) = are_below n xs
  is_below n (weight e xs) = are_weighted_below n xs
  is_below n (greatest e xs) = are_below n xs

  pub are_below : ℕ → ScaledTrees → Bool
  are_below n none = true
  are_below n (more x xs) = is_below n x && are_below n xs

  pub are_weighted_below : ℕ → WeightedScaledTrees → Bool
  are_weighted_below n none_weighted = true
  are_weighted_below n (more_weighted w x xs) = is_below n x && are_weighted_below n xs

unfoldable mutual
  -- each weight is at least 1, and the weights of one operator have no common divisor above 1
  pub is_reduced : ScaledTree → Bool
  is_reduced (leaf i) = true
  is_reduced (combine e xs) = are_reduced xs
  is_reduced (weight e xs) = (common_divisor (weights xs) == 1) && are_weighted_reduced xs
  is_reduced (greatest e xs) = are_reduced xs

  pub are_reduced : ScaledTrees → Bool
  are_reduced none = true
  are_reduced (more x xs) = is_reduced x && are_reduced xs

  pub are_weighted_reduced : WeightedScaledTrees → Bool
  are_weighted_reduced none_weighted = true
  are_weighted_reduced (more_weighted w x xs) = nat_le 1 w && is_reduced x && are_weighted_reduced xs

-- the bounds of a query, of its filters, its range and the leaves that are left
pub record IsWithinBounds (filters : List FilterTree) (range : Range) (leaves : List LeafTree) : Type 0 where
  pub shallow : depth_in_filters filters (window_count range + leaf_depths leaves) ≤ MAX_QUERY_DEPTH
  pub few : nodes_in_filters filters + (window_count range + all_leaf_nodes leaves) ≤ MAX_QUERY_NODES
  pub sound_filters : are_filters filters ≡ true
  pub sound_range : is_range range ≡ true
  pub sound_leaves : are_sound_leaves leaves ≡ true

pub record IsChecked (filters : List FilterTree) (range : Range) (leaves : List LeafTree) (tree : ScaledTree) (e : ℕ) : Type 0 where
  pub within : IsWithinBounds filters range leaves
  -- one more operator stands round all beliefs
  pub shallow : depth tree ≤ MAX_QUERY_DEPTH + 1
  pub arguments : has_arguments tree ≡ true
  pub numbered : is_below (length leaves) tree ≡ true
  pub reduced : is_reduced tree ≡ true
  pub scaled : is_scaled tree ≡ true
  pub whole : e ≡ scale tree
  pub positive : 1 ≤ e
  pub small : e < 2 ^ 60
