-- The belief of a query in one window, a document, a field or a passage, without rounding. In the inference network
-- of Indri (Metzler and Croft, Combining the Language Model and Inference Network Approaches to Retrieval, 2004) the
-- belief of `#combine` is the geometric mean of the beliefs of its arguments, that of `#weight` their geometric mean
-- with weights, and that of `#max` the greatest of them. With E the scale of a tree, the E-th power of its belief is
-- a product P / Q of powers of the beliefs of leaves, with whole numbers as exponents: so the belief is the E-th root
-- of P / Q. That a belief is kept as this product is the project's own.
use Rattle.std.specs.Prelude.{ℕ, ◌*◌, ◌/◌, ◌^◌, Bool, nat_lt, List, [], ◌∷◌, fold, slice_index_or}
use Rattle.std.specs.List.{best_of}
use Rattle.ri_base.specs.Ratio.{Ratio}
use Rattle.query_check.specs.Scale.{scale, common, weighted_common}
use Rattle.query_check.specs.Trees.{ScaledTree, ScaledTrees, WeightedScaledTrees, leaf, combine, weight, greatest, none, more, none_weighted, more_weighted}

-- the number 1
abbrev pub one : Ratio
one = record { p = 1; q = 1 }

abbrev pub times : Ratio → Ratio → Ratio
times r s = record { p = r.p * s.p; q = r.q * s.q }

-- the n-th power
abbrev pub power : Ratio → ℕ → Ratio
power r n = record { p = r.p ^ n; q = r.q ^ n }

-- r is greater than s
abbrev pub is_greater : Ratio → Ratio → Bool
is_greater r s = nat_lt (s.p * r.q) (r.p * s.q)

-- the greatest of a list, and of equal ones the first
unfoldable pub greatest_of : List Ratio → Ratio
greatest_of [] = one
greatest_of (r ∷ rest) = best_of is_greater r rest

unfoldable mutual
  -- the product P / Q of a tree whose leaf i has the i-th belief of the list
  pub product : List Ratio → ScaledTree → Ratio
  product beliefs (leaf i) = slice_index_or beliefs i one
  product beliefs (combine e xs) = fold times one (powers beliefs (common xs) xs)
  product beliefs (weight e xs) = fold times one (weighted_powers beliefs (weighted_common xs) xs)
  product beliefs (greatest e xs) = greatest_of (powers beliefs (common xs) xs)

  -- the products of some arguments, each raised to the scale m, the least common multiple of their scales
  pub powers : List Ratio → ℕ → ScaledTrees → List Ratio
  powers beliefs m none = []
  powers beliefs m (more x xs) = power (product beliefs x) (m / scale x) ∷ powers beliefs m xs

  -- each raised to its weight too
  pub weighted_powers : List Ratio → ℕ → WeightedScaledTrees → List Ratio
  weighted_powers beliefs m none_weighted = []
  weighted_powers beliefs m (more_weighted w x xs) =
      power (product beliefs x) (w * (m / scale x)) ∷ weighted_powers beliefs m xs
