-- The plain tree of an expression, variant by variant.
use Rattle.std.proofs.Common.{◌≡◌, ℕ, List, map, Vec, Box, Global, refl, ap, ◌∙◌}
use mathlib.Core.Former.{Count}
use Rattle.ri_base.specs.declared.expression.ExtentExpr.{ExtentExpr, Word, Any, Ordered, Unordered, Syn, Syn', Band, InField, Row_of-ExtentExpr, end_of-ExtentExpr, more_of-ExtentExpr, items-the_row-ExtentExpr, items_hidden-the_row-ExtentExpr-0}
use Rattle.ri_base.specs.Expression.{word, ordered, unordered, syn, any, band, in_field, more, expr_tree, row, expr_trees}

abbrev row_of : ExtentExpr → (n : Count) × Row_of-ExtentExpr n
row_of (Syn' _ all) = (_, all)
row_of _ = (_, end_of-ExtentExpr)

-- the plain trees of a row are those of its items
of_row : (n : _) (all : Row_of-ExtentExpr n) → row all ≡ expr_trees (map expr_tree (items-the_row-ExtentExpr n all))
unfolding expr_tree row
of_row n end_of-ExtentExpr = refl
of_row n (more_of-ExtentExpr x rest) = ap (more (expr_tree x)) (of_row _ rest)

-- the row that stands behind a `Vec`
behind : (v : Vec ExtentExpr Global) → row (row_of (Syn v)).1 ≡ expr_trees (map expr_tree v.items)
behind v = of_row _ (row_of (Syn v)).1 ∙ ap (λ xs. expr_trees (map expr_tree xs)) (items_hidden-the_row-ExtentExpr-0 v)

pub expr_tree-Word : (t : List ℕ) → expr_tree (Word t) ≡ word t
unfolding expr_tree row
expr_tree-Word t = refl

pub expr_tree-Any : (f : List ℕ) → expr_tree (Any f) ≡ any f
unfolding expr_tree row
expr_tree-Any f = refl

pub expr_tree-Syn : (v : Vec ExtentExpr Global) → expr_tree (Syn v) ≡ syn (expr_trees (map expr_tree v.items))
unfolding expr_tree row
expr_tree-Syn v = ap syn (behind v)

pub expr_tree-Band : (v : Vec ExtentExpr Global) → expr_tree (Band v) ≡ band (expr_trees (map expr_tree v.items))
unfolding expr_tree row
expr_tree-Band v = ap band (behind v)

pub expr_tree-Ordered : (n : ℕ) (v : Vec ExtentExpr Global) → expr_tree (Ordered n v) ≡ ordered n (expr_trees (map expr_tree v.items))
unfolding expr_tree row
expr_tree-Ordered n v = ap (ordered n) (behind v)

pub expr_tree-Unordered : (n : ℕ) (v : Vec ExtentExpr Global) → expr_tree (Unordered n v) ≡ unordered n (expr_trees (map expr_tree v.items))
unfolding expr_tree row
expr_tree-Unordered n v = ap (unordered n) (behind v)

pub expr_tree-InField : (b : Box ExtentExpr Global) (f : List ℕ) → expr_tree (InField b f) ≡ in_field (expr_tree b.value) f
unfolding expr_tree row
expr_tree-InField b f = refl

pub ruleset expr_tree_laws = (expr_tree-Word, expr_tree-Any, expr_tree-Syn, expr_tree-Band, expr_tree-Ordered, expr_tree-Unordered, expr_tree-InField)
