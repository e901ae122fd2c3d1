-- Leaves that are the same.
use Rattle.std.proofs.Common.{◌≡◌, ℕ, List, Option, sym, ap, ◌∙◌}
use Rattle.ri_base.specs.Expression.{expr_tree}
use Rattle.ri_base.specs.declared.expression.ExtentExpr.{ExtentExpr}
use Rattle.query_check.specs.Leaves.{extents, leaf_tree}
use Rattle.query_check.specs.declared.leaf_kind.LeafKind.{LeafKind}
use Rattle.query_check.specs.declared.leaf_kind.LeafKind.TheVariants.{Extents}

-- two leaves of the same expression in the same context
pub same-extents : (a b : LeafKind) (x y : ExtentExpr) (c e : Option (List ℕ)) → a ≡ Extents x c → b ≡ Extents y e → expr_tree x ≡ expr_tree y → c ≡ e → leaf_tree a ≡ leaf_tree b
same-extents a b x y c e p q h k = ap leaf_tree p ∙ ap (λ t. extents t c) h ∙ ap (extents (expr_tree y)) k ∙ sym (ap leaf_tree q)
