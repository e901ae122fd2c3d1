-- The key of a query in one window: the digits of the logarithms of its leaves' beliefs, added up as the operators
-- say. With P / Q the product of the tree and E its scale, a key at level k tells of the logarithm of
-- (Q / P) ^ (2 ^ k) to base 2 that it is at least the key, and below the key and 2 * E. So where two keys are apart by
-- more than 2 * E, the smaller one is that of the greater belief. Keys that are nearer don't tell which belief is
-- greater. This is the project's own.
use Rattle.std.specs.Prelude.{ℕ, ◌*◌, ◌/◌, min, List, [], ◌∷◌, map, fold, sum, slice_index}
use Rattle.ri_base.specs.Ratio.{Ratio}
use Rattle.log_chain.specs.Chain.{chain}
use Rattle.query_check.specs.Scale.{scale, common, weighted_common}
use Rattle.query_check.specs.Trees.{ScaledTree, ScaledTrees, WeightedScaledTrees, leaf, combine, weight, greatest, none, more, none_weighted, more_weighted}

-- the least of a list, 0 of an empty one
unfoldable pub least_of : List ℕ → ℕ
least_of [] = 0
least_of (c ∷ rest) = fold (λ a b. min a b) c rest

unfoldable mutual
  -- the key of a tree whose leaf i has the i-th digits of the list
  pub key : List ℕ → ScaledTree → ℕ
  key digits (leaf i) = slice_index digits i
  key digits (combine e xs) = sum (shares digits (common xs) xs)
  key digits (weight e xs) = sum (weighted_shares digits (weighted_common xs) xs)
  key digits (greatest e xs) = least_of (shares digits (common xs) xs)

  -- the keys of some arguments, each brought to the scale m, the least common multiple of their scales
  pub shares : List ℕ → ℕ → ScaledTrees → List ℕ
  shares digits m none = []
  shares digits m (more x xs) = m / scale x * key digits x ∷ shares digits m xs

  -- each taken as often as its weight says
  pub weighted_shares : List ℕ → ℕ → WeightedScaledTrees → List ℕ
  weighted_shares digits m none_weighted = []
  weighted_shares digits m (more_weighted w x xs) = w * (m / scale x) * key digits x ∷ weighted_shares digits m xs

-- the digits of the leaves' beliefs at level k
abbrev pub digits_at : ℕ → List Ratio → List ℕ
digits_at k beliefs = map (λ r. (chain r.p r.q k).digits) beliefs

-- the key at level k of a tree whose leaves have these beliefs
abbrev pub key_at : ℕ → List Ratio → ScaledTree → ℕ
key_at k beliefs tree = key (digits_at k beliefs) tree
