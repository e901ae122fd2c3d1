-- What the calculation of a key asks of a tree, so that its numbers are in range.
use Rattle.std.specs.Prelude.{◌≡◌, ◌<◌, ℕ, ◌^◌, true}
use Rattle.std.specs.Int.{◌∣◌}
use Rattle.query_check.specs.Kept.{is_below, are_below, are_weighted_below}
use Rattle.query_check.specs.Scale.{scale, common, weighted_common, is_scaled, are_scaled, are_weighted_scaled}
use Rattle.query_check.specs.Trees.{ScaledTree, ScaledTrees, WeightedScaledTrees}

-- a tree over n leaves
pub record IsFit (n : ℕ) (t : ScaledTree) : Type 0 where
  pub numbered : is_below n t ≡ true
  pub scaled : is_scaled t ≡ true
  pub positive : 0 < scale t
  pub small : scale t < 2 ^ 60

-- arguments over n leaves, whose scales divide m
pub record AreFit (n m : ℕ) (xs : ScaledTrees) : Type 0 where
  pub numbered : are_below n xs ≡ true
  pub scaled : are_scaled xs ≡ true
  pub divides : common xs ∣ m
  pub positive : 0 < m
  pub small : m < 2 ^ 60

-- the same of arguments with weights
pub record AreWeightedFit (n m : ℕ) (xs : WeightedScaledTrees) : Type 0 where
  pub numbered : are_weighted_below n xs ≡ true
  pub scaled : are_weighted_scaled xs ≡ true
  pub divides : weighted_common xs ∣ m
  pub positive : 0 < m
  pub small : m < 2 ^ 60
