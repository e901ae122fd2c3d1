-- The same expressions, by their variants and their arguments.
use Rattle.std.proofs.Common.{◌≡◌, ◌<◌, ◌≤◌, ◌+◌, ℕ, List, ◌∷◌, length, map, drop, get_or, Vec, Box, Global, sym, ap, ◌∙◌}
use Rattle.std.proofs.lemmas.List.{at_drop_all, at_drop_more}
use Rattle.ri_base.specs.Expression.{expr_tree, expr_trees, band, in_field, ordered, syn, unordered}
use Rattle.ri_base.specs.declared.expression.ExtentExpr.{ExtentExpr, Word, Any, Ordered, Unordered, Syn, Band, InField}
use Rattle.ri_base.proofs.ExpressionLemmas.{expr_tree-Ordered, expr_tree-Unordered, expr_tree-Syn, expr_tree-Band, expr_tree-InField}

module _ (a b : ExtentExpr) where
  pub same-word : (s t : List ℕ) → a ≡ Word s → b ≡ Word t → s ≡ t → expr_tree a ≡ expr_tree b
  same-word s t p q e = ap expr_tree (p ∙ ap Word e ∙ sym q)

  pub same-any : (f g : List ℕ) → a ≡ Any f → b ≡ Any g → f ≡ g → expr_tree a ≡ expr_tree b
  same-any f g p q e = ap expr_tree (p ∙ ap Any e ∙ sym q)

  pub same-ordered : (m n : ℕ) (v w : Vec ExtentExpr Global) → a ≡ Ordered m v → b ≡ Ordered n w → m ≡ n → map expr_tree v.items ≡ map expr_tree w.items → expr_tree a ≡ expr_tree b
  same-ordered m n v w p q e h =
      ap expr_tree p ∙ expr_tree-Ordered m v ∙ ap (λ k. ordered k (expr_trees (map expr_tree v.items))) e ∙ ap (λ ts. ordered n (expr_trees ts)) h ∙ sym (expr_tree-Ordered n w) ∙ sym (ap expr_tree q)

  pub same-unordered : (m n : ℕ) (v w : Vec ExtentExpr Global) → a ≡ Unordered m v → b ≡ Unordered n w → m ≡ n → map expr_tree v.items ≡ map expr_tree w.items → expr_tree a ≡ expr_tree b
  same-unordered m n v w p q e h =
      ap expr_tree p ∙ expr_tree-Unordered m v ∙ ap (λ k. unordered k (expr_trees (map expr_tree v.items))) e ∙ ap (λ ts. unordered n (expr_trees ts)) h ∙ sym (expr_tree-Unordered n w) ∙ sym (ap expr_tree q)

  pub same-syn : (v w : Vec ExtentExpr Global) → a ≡ Syn v → b ≡ Syn w → map expr_tree v.items ≡ map expr_tree w.items → expr_tree a ≡ expr_tree b
  same-syn v w p q h = ap expr_tree p ∙ expr_tree-Syn v ∙ ap (λ ts. syn (expr_trees ts)) h ∙ sym (expr_tree-Syn w) ∙ sym (ap expr_tree q)

  pub same-band : (v w : Vec ExtentExpr Global) → a ≡ Band v → b ≡ Band w → map expr_tree v.items ≡ map expr_tree w.items → expr_tree a ≡ expr_tree b
  same-band v w p q h = ap expr_tree p ∙ expr_tree-Band v ∙ ap (λ ts. band (expr_trees ts)) h ∙ sym (expr_tree-Band w) ∙ sym (ap expr_tree q)

  pub same-in_field : (x y : Box ExtentExpr Global) (f g : List ℕ) → a ≡ InField x f → b ≡ InField y g → f ≡ g → expr_tree x.value ≡ expr_tree y.value → expr_tree a ≡ expr_tree b
  same-in_field x y f g p q e h =
      ap expr_tree p ∙ expr_tree-InField x f ∙ ap (in_field (expr_tree x.value)) e ∙ ap (λ t. in_field t g) h ∙ sym (expr_tree-InField y g) ∙ sym (ap expr_tree q)

module _ (all others : List ExtentExpr) (i : ℕ) where
  -- the same arguments at a place, and the same behind it
  pub same-next : (x y : ExtentExpr) → i < length all → i < length others → x ≡ get_or all i x → y ≡ get_or others i y → expr_tree x ≡ expr_tree y
      → map expr_tree (drop (i + 1) all) ≡ map expr_tree (drop (i + 1) others) → map expr_tree (drop i all) ≡ map expr_tree (drop i others)
  same-next x y l m at_x at_y same rest =
      at_drop_more (map expr_tree) all i x l ∙ ap (λ t. t ∷ map expr_tree (drop (i + 1) all)) (ap expr_tree (sym at_x) ∙ same ∙ ap expr_tree at_y)
      ∙ ap (λ ts. expr_tree (get_or others i y) ∷ ts) rest ∙ sym (at_drop_more (map expr_tree) others i y m)

  pub same-end : length all ≤ i → length others ≤ i → map expr_tree (drop i all) ≡ map expr_tree (drop i others)
  same-end l m = at_drop_all (map expr_tree) all i l ∙ sym (at_drop_all (map expr_tree) others i m)
