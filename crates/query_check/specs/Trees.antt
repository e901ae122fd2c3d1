-- The beliefs of a checked query as contracts see them: the plain tree that a `Tree` stands for.
use Rattle.std.specs.Prelude.{ℕ, List, [], ◌∷◌}
use Rattle.query_check.specs.declared.tree.Tree.{Tree, Leaf, Combine', Weight', Max', Row_of-Tree, end_of-Tree, more_of-Tree, Row_of-Tree-Weight-1-2, end_of-Tree-Weight-1-2, more_of-Tree-Weight-1-2}

mutual
  -- the number of a leaf, or an operator with the number before its arguments
  pub data ScaledTree : Type 0 where
    leaf : ℕ → ScaledTree
    combine : ℕ → ScaledTrees → ScaledTree
    weight : ℕ → WeightedScaledTrees → ScaledTree
    greatest : ℕ → ScaledTrees → ScaledTree

  pub data ScaledTrees : Type 0 where
    none : ScaledTrees
    more : ScaledTree → ScaledTrees → ScaledTrees

  -- each with its weight
  pub data WeightedScaledTrees : Type 0 where
    none_weighted : WeightedScaledTrees
    more_weighted : ℕ → ScaledTree → WeightedScaledTrees → WeightedScaledTrees

unfoldable mutual
  pub scaled_tree : Tree → ScaledTree
  scaled_tree (Leaf i) = leaf i
  scaled_tree (Combine' e shape all) = combine e (row all)
  scaled_tree (Weight' e shape all) = weight e (weighted_row all)
  scaled_tree (Max' e shape all) = greatest e (row all)

  pub row : {m : _} → Row_of-Tree m → ScaledTrees
  row end_of-Tree = none
  row (more_of-Tree x rest) = more (scaled_tree x) (row rest)

  pub weighted_row : {m : _} → Row_of-Tree-Weight-1-2 m → WeightedScaledTrees
  weighted_row end_of-Tree-Weight-1-2 = none_weighted
  weighted_row (more_of-Tree-Weight-1-2 w x rest) = more_weighted w (scaled_tree x) (weighted_row rest)

-- a weight and a tree
abbrev pub weighted_scaled_tree : ℕ × Tree → ℕ × ScaledTree
weighted_scaled_tree x = (x.0, scaled_tree x.1)

-- the trees of a list, as the arguments of an operator
abbrev pub scaled_trees : List ScaledTree → ScaledTrees
scaled_trees [] = none
scaled_trees (x ∷ xs) = more x (scaled_trees xs)

abbrev pub weighted_scaled_trees : List (ℕ × ScaledTree) → WeightedScaledTrees
weighted_scaled_trees [] = none_weighted
weighted_scaled_trees (x ∷ xs) = more_weighted x.0 x.1 (weighted_scaled_trees xs)
