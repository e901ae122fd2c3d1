-- The scale of a tree: the whole number whose root of the product of its leaves is the tree's belief.
use Rattle.std.specs.Prelude.{ℕ, ◌+◌, ◌*◌, Bool, true, ◌==◌, ◌&&◌, List, [], ◌∷◌}
use Rattle.query_check.specs.Multiples.{lcm}
use Rattle.query_check.specs.Trees.{ScaledTree, ScaledTrees, WeightedScaledTrees, leaf, combine, weight, greatest, none, more, none_weighted, more_weighted}

-- how many arguments there are
unfoldable pub count : ScaledTrees → ℕ
count none = 0
count (more x xs) = 1 + count xs

unfoldable pub weights : WeightedScaledTrees → List ℕ
weights none_weighted = []
weights (more_weighted w x xs) = w ∷ weights xs

-- the sum of the weights
unfoldable pub total : WeightedScaledTrees → ℕ
total none_weighted = 0
total (more_weighted w x xs) = w + total xs

unfoldable mutual
  pub scale : ScaledTree → ℕ
  scale (leaf i) = 1
  scale (combine e xs) = count xs * common xs
  scale (weight e xs) = total xs * weighted_common xs
  scale (greatest e xs) = common xs

  -- the least common multiple of the scales
  pub common : ScaledTrees → ℕ
  common none = 1
  common (more x xs) = lcm (scale x) (common xs)

  pub weighted_common : WeightedScaledTrees → ℕ
  weighted_common none_weighted = 1
  weighted_common (more_weighted w x xs) = lcm (scale x) (weighted_common xs)

unfoldable mutual
  -- the number before the arguments of each operator is its scale
  pub is_scaled : ScaledTree → Bool
  is_scaled (leaf i) = true
  is_scaled (combine e xs) = (e == count xs * common xs) && are_scaled xs
  is_scaled (weight e xs) = (e == total xs * weighted_common xs) && are_weighted_scaled xs
  is_scaled (greatest e xs) = (e == common xs) && are_scaled xs

  pub are_scaled : ScaledTrees → Bool
  are_scaled none = true
  are_scaled (more x xs) = is_scaled x && are_scaled xs

  pub are_weighted_scaled : WeightedScaledTrees → Bool
  are_weighted_scaled none_weighted = true
  are_weighted_scaled (more_weighted w x xs) = is_scaled x && are_weighted_scaled xs
