-- The plain tree of a tree, variant by variant.
use Rattle.std.proofs.Common.{◌≡◌, ℕ, map, Vec, Global, refl, ap, ◌∙◌}
use mathlib.Core.Former.{Count}
use Rattle.query_check.specs.declared.tree.Tree.{Tree, Leaf, Combine, Combine', Weight, Weight', Max, Row_of-Tree, end_of-Tree, more_of-Tree, Row_of-Tree-Weight-1-2, end_of-Tree-Weight-1-2, more_of-Tree-Weight-1-2, items-the_row-Tree, items_hidden-the_row-Tree-0, items-the_row-Tree-Weight-1-2, items_hidden-the_row-Tree-Weight-1-2-1}
use Rattle.query_check.specs.Trees.{leaf, combine, weight, greatest, more, more_weighted, scaled_tree, row, weighted_row, weighted_scaled_tree, scaled_trees, weighted_scaled_trees}

abbrev row_of : Tree → (n : Count) × Row_of-Tree n
row_of (Combine' _ _ all) = (_, all)
row_of _ = (_, end_of-Tree)

abbrev weighted_row_of : Tree → (n : Count) × Row_of-Tree-Weight-1-2 n
weighted_row_of (Weight' _ _ all) = (_, all)
weighted_row_of _ = (_, end_of-Tree-Weight-1-2)

-- the plain trees of a row are those of its items
of_row : (n : _) (all : Row_of-Tree n) → row all ≡ scaled_trees (map scaled_tree (items-the_row-Tree n all))
unfolding scaled_tree row weighted_row
of_row n end_of-Tree = refl
of_row n (more_of-Tree x rest) = ap (more (scaled_tree x)) (of_row _ rest)

of_weighted_row : (n : _) (all : Row_of-Tree-Weight-1-2 n) → weighted_row all ≡ weighted_scaled_trees (map weighted_scaled_tree (items-the_row-Tree-Weight-1-2 n all))
unfolding scaled_tree row weighted_row
of_weighted_row n end_of-Tree-Weight-1-2 = refl
of_weighted_row n (more_of-Tree-Weight-1-2 w x rest) = ap (more_weighted w (scaled_tree x)) (of_weighted_row _ rest)

-- the row that stands behind a `Vec`
behind : (v : Vec Tree Global) → row (row_of (Combine 0 v)).1 ≡ scaled_trees (map scaled_tree v.items)
behind v = of_row _ (row_of (Combine 0 v)).1 ∙ ap (λ xs. scaled_trees (map scaled_tree xs)) (items_hidden-the_row-Tree-0 v)

weighted_behind : (v : Vec (ℕ × Tree) Global) → weighted_row (weighted_row_of (Weight 0 v)).1 ≡ weighted_scaled_trees (map weighted_scaled_tree v.items)
weighted_behind v = of_weighted_row _ (weighted_row_of (Weight 0 v)).1 ∙ ap (λ xs. weighted_scaled_trees (map weighted_scaled_tree xs)) (items_hidden-the_row-Tree-Weight-1-2-1 v)

pub scaled_tree-Leaf : (i : ℕ) → scaled_tree (Leaf i) ≡ leaf i
unfolding scaled_tree row weighted_row
scaled_tree-Leaf i = refl

pub scaled_tree-Combine : (e : ℕ) (v : Vec Tree Global) → scaled_tree (Combine e v) ≡ combine e (scaled_trees (map scaled_tree v.items))
unfolding scaled_tree row weighted_row
scaled_tree-Combine e v = ap (combine e) (behind v)

pub scaled_tree-Max : (e : ℕ) (v : Vec Tree Global) → scaled_tree (Max e v) ≡ greatest e (scaled_trees (map scaled_tree v.items))
unfolding scaled_tree row weighted_row
scaled_tree-Max e v = ap (greatest e) (behind v)

pub scaled_tree-Weight : (e : ℕ) (v : Vec (ℕ × Tree) Global) → scaled_tree (Weight e v) ≡ weight e (weighted_scaled_trees (map weighted_scaled_tree v.items))
unfolding scaled_tree row weighted_row
scaled_tree-Weight e v = ap (weight e) (weighted_behind v)

pub ruleset scaled_tree_laws = (scaled_tree-Leaf, scaled_tree-Combine, scaled_tree-Max, scaled_tree-Weight)
