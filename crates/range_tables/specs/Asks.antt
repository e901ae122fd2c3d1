-- What the leaves of a query ask a part of the collection for.
use Rattle.std.specs.Prelude.{ℕ, List, [], Contains, flat_map}
use Rattle.std.specs.List.{All}
use Rattle.query_check.specs.Leaves.{LeafTree, extents, prior}
use Rattle.expression_words.specs.Words.{names, words}

-- the terms and the names that a leaf asks for
abbrev pub leaf_words : LeafTree → List (List ℕ)
leaf_words (extents x c) = words x
leaf_words (prior n) = []

abbrev pub leaf_names : LeafTree → List (List ℕ)
leaf_names (extents x c) = names x
leaf_names (prior n) = []

-- those of all leaves
abbrev pub all_leaf_words : List LeafTree → List (List ℕ)
all_leaf_words leaves = flat_map leaf_words leaves

abbrev pub all_leaf_names : List LeafTree → List (List ℕ)
all_leaf_names leaves = flat_map leaf_names leaves

-- these leaves ask for no other terms and fields than these
pub record AskFor (terms fields : List (List ℕ)) (leaves : List LeafTree) : Type 0 where
  pub words : All (Contains terms) (all_leaf_words leaves)
  pub names : All (Contains fields) (all_leaf_names leaves)
