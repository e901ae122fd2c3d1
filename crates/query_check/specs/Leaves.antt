-- The leaves of a checked query as contracts see them, and their bounds.
use Rattle.std.specs.Prelude.{ℕ, ◌+◌, max, Bool, true, ◌&&◌, nat_le, List, [], ◌∷◌, Option}
use Rattle.ri_base.specs.Expression as expr
use Rattle.ri_base.specs.Expression.{ExprTree, expr_tree}
use Rattle.ri_base.specs.Query.{is_context}
use Rattle.query_check.specs.declared.leaf_kind.LeafKind.{LeafKind}
use Rattle.query_check.specs.declared.leaf_kind.LeafKind.TheVariants.{Extents, Prior}

pub data LeafTree : Type 0 where
  extents : ExprTree → Option (List ℕ) → LeafTree
  prior : ℕ → LeafTree

abbrev pub leaf_tree : LeafKind → LeafTree
leaf_tree (Extents x context) = extents (expr_tree x) context
leaf_tree (Prior n) = prior n

-- how many operators stand one inside the other
abbrev pub leaf_depth : LeafTree → ℕ
leaf_depth (extents x context) = expr.depth x
leaf_depth (prior n) = 1

abbrev pub leaf_depths : List LeafTree → ℕ
leaf_depths [] = 0
leaf_depths (x ∷ xs) = max (leaf_depth x) (leaf_depths xs)

-- how many nodes there are: operators and terms
abbrev pub leaf_nodes : LeafTree → ℕ
leaf_nodes (extents x context) = expr.nodes x
leaf_nodes (prior n) = 1

abbrev pub all_leaf_nodes : List LeafTree → ℕ
all_leaf_nodes [] = 0
all_leaf_nodes (x ∷ xs) = leaf_nodes x + all_leaf_nodes xs

-- an expression within its bounds and a name of a field, or one of the nine priors
abbrev pub is_sound_leaf : LeafTree → Bool
is_sound_leaf (extents x context) = expr.is_sound x && is_context context
is_sound_leaf (prior n) = nat_le n 8

abbrev pub are_sound_leaves : List LeafTree → Bool
are_sound_leaves [] = true
are_sound_leaves (x ∷ xs) = is_sound_leaf x && are_sound_leaves xs
