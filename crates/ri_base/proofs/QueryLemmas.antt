-- The plain tree of a belief, variant by variant.
use Rattle.std.proofs.Common.{◌≡◌, ℕ, List, map, Vec, Option, Global, refl, ap, ◌∙◌}
use mathlib.Core.Former.{Count}
use Rattle.ri_base.specs.declared.belief.Belief.{Belief, Combine, Combine', Weight, Weight', Max, Prior, Leaf, Row_of-Belief, end_of-Belief, more_of-Belief, Row_of-Belief-Weight-0-2, end_of-Belief-Weight-0-2, more_of-Belief-Weight-0-2, items-the_row-Belief, items_hidden-the_row-Belief-0, items-the_row-Belief-Weight-0-2, items_hidden-the_row-Belief-Weight-0-2-1}
use Rattle.ri_base.specs.declared.expression.ExtentExpr.{ExtentExpr}
use Rattle.ri_base.specs.Expression.{expr_tree}
use Rattle.ri_base.specs.Query.{combine, weight, greatest, prior, leaf, more, more_weighted, belief_tree, row, weighted_row, weighted_tree, belief_trees, weighted_trees}

abbrev row_of : Belief → (n : Count) × Row_of-Belief n
row_of (Combine' _ all) = (_, all)
row_of _ = (_, end_of-Belief)

abbrev weighted_row_of : Belief → (n : Count) × Row_of-Belief-Weight-0-2 n
weighted_row_of (Weight' _ all) = (_, all)
weighted_row_of _ = (_, end_of-Belief-Weight-0-2)

-- the plain trees of a row are those of its items
of_row : (n : _) (all : Row_of-Belief n) → row all ≡ belief_trees (map belief_tree (items-the_row-Belief n all))
unfolding belief_tree row weighted_row
of_row n end_of-Belief = refl
of_row n (more_of-Belief x rest) = ap (more (belief_tree x)) (of_row _ rest)

of_weighted_row : (n : _) (all : Row_of-Belief-Weight-0-2 n) → weighted_row all ≡ weighted_trees (map weighted_tree (items-the_row-Belief-Weight-0-2 n all))
unfolding belief_tree row weighted_row
of_weighted_row n end_of-Belief-Weight-0-2 = refl
of_weighted_row n (more_of-Belief-Weight-0-2 w x rest) = ap (more_weighted w (belief_tree x)) (of_weighted_row _ rest)

-- the row that stands behind a `Vec`
behind : (v : Vec Belief Global) → row (row_of (Combine v)).1 ≡ belief_trees (map belief_tree v.items)
behind v = of_row _ (row_of (Combine v)).1 ∙ ap (λ xs. belief_trees (map belief_tree xs)) (items_hidden-the_row-Belief-0 v)

weighted_behind : (v : Vec (ℕ × Belief) Global) → weighted_row (weighted_row_of (Weight v)).1 ≡ weighted_trees (map weighted_tree v.items)
weighted_behind v = of_weighted_row _ (weighted_row_of (Weight v)).1 ∙ ap (λ xs. weighted_trees (map weighted_tree xs)) (items_hidden-the_row-Belief-Weight-0-2-1 v)

pub belief_tree-Combine : (v : Vec Belief Global) → belief_tree (Combine v) ≡ combine (belief_trees (map belief_tree v.items))
unfolding belief_tree row weighted_row
belief_tree-Combine v = ap combine (behind v)

pub belief_tree-Max : (v : Vec Belief Global) → belief_tree (Max v) ≡ greatest (belief_trees (map belief_tree v.items))
unfolding belief_tree row weighted_row
belief_tree-Max v = ap greatest (behind v)

pub belief_tree-Weight : (v : Vec (ℕ × Belief) Global) → belief_tree (Weight v) ≡ weight (weighted_trees (map weighted_tree v.items))
unfolding belief_tree row weighted_row
belief_tree-Weight v = ap weight (weighted_behind v)

pub belief_tree-Prior : (f : List ℕ) → belief_tree (Prior f) ≡ prior f
unfolding belief_tree row weighted_row
belief_tree-Prior f = refl

pub belief_tree-Leaf : (x : ExtentExpr) (context : Option (List ℕ)) → belief_tree (Leaf x context) ≡ leaf (expr_tree x) context
unfolding belief_tree row weighted_row
belief_tree-Leaf x context = refl

pub ruleset belief_tree_laws = (belief_tree-Combine, belief_tree-Max, belief_tree-Weight, belief_tree-Prior, belief_tree-Leaf)
