-- An extent needs its terms; and whether an expression may have one, by its variant.
use Rattle.std.proofs.Common.{◌≡◌, ℕ, Bool, true, ◌⊎◌, List, [], ◌∷◌, map, slice_get, Some, Vec, Box, Global, inl, inr, refl, ap, ◌∙◌}
use Rattle.std.proofs.lemmas.Bool.{and_from, or_left, or_right}
use Rattle.ri_base.specs.Documents.{Document}
use Rattle.ri_base.specs.Expression.{ExprTree, ExprTrees, expr_tree, expr_trees, word, ordered, unordered, syn, any, band, in_field, none, more}
use Rattle.ri_base.specs.declared.expression.ExtentExpr.{ExtentExpr, Word, Any, Ordered, Unordered, Syn, Band, InField}
use Rattle.ri_base.proofs.ExpressionLemmas.{expr_tree-Word, expr_tree-Any, expr_tree-Ordered, expr_tree-Unordered, expr_tree-Syn, expr_tree-Band, expr_tree-InField}
use Rattle.extent_lists.specs.Extents.{Ext, Exts}
use Rattle.extent_lists.specs.Operators.{HasEach, HasEachInside, IsChain, IsInSome}
use Rattle.extent_lists.specs.Presence.{may_with, may_each_with, may_some_with}

-- each of the sets has an extent, where they have a chain
pub chain-each : (n : ℕ) (Rs : List (ℕ → ℕ → Type 0)) (b e : ℕ) → IsChain n Rs b e → HasEach Rs
chain-each n [] b e h = absurd h
chain-each n (R ∷ []) b e h = ((b, e, h), tt)
chain-each n (R ∷ S ∷ rest) b e h = ((b, h.0, h.2), chain-each n (S ∷ rest) h.1 e h.4)

-- and where they have extents inside a window
pub inside-each : (Rs : List (ℕ → ℕ → Type 0)) (b e : ℕ) → HasEachInside Rs b e → HasEach Rs
inside-each [] b e h = tt
inside-each (R ∷ rest) b e h = ((h.0.0, h.0.1, h.0.2), inside-each rest b e h.1)

-- each term of the document passes the test
abbrev pub CoversTerms : (List ℕ → Bool) → Document → Type 0
CoversTerms has d = (t : List ℕ) (b : ℕ) → slice_get d.tokens b ≡ Some t → has t ≡ true

module _ (has : List ℕ → Bool) (d : Document) (covers : CoversTerms has d) where
  mutual
    unfolding Ext Exts may_with may_each_with may_some_with

    -- an expression that has an extent in the document may have one
    pub may_with-Ext : (x : ExprTree) (b e : ℕ) → Ext x d b e → may_with has x ≡ true
    may_with-Ext (word t) b e h = covers t b h.0
    may_with-Ext (ordered n xs) b e h = each-of xs (chain-each n (Exts xs d) b e h.ends)
    may_with-Ext (unordered n xs) b e h = each-of xs (inside-each (Exts xs d) b e h.ends.each)
    may_with-Ext (syn xs) b e h = some-of xs b e h
    may_with-Ext (any f) b e h = refl
    may_with-Ext (band xs) b e h = each-of xs h.3
    may_with-Ext (in_field x f) b e h = may_with-Ext x b e h.0

    each-of : (xs : ExprTrees) → HasEach (Exts xs d) → may_each_with has xs ≡ true
    each-of none h = refl
    each-of (more x xs) h = and_from _ _ (may_with-Ext x h.0.0 h.0.1 h.0.2) (each-of xs h.1)

    some-of : (xs : ExprTrees) (b e : ℕ) → IsInSome (Exts xs d) b e → may_some_with has xs ≡ true
    some-of none b e h = absurd h
    some-of (more x xs) b e (inl h) = or_left _ _ (may_with-Ext x b e h)
    some-of (more x xs) b e (inr h) = or_right (may_with has x) _ (some-of xs b e h)

-- ---- by the variant of the expression

module _ (has : List ℕ → Bool) (x : ExtentExpr) where
  pub may_with-word : (t : List ℕ) → x ≡ Word t → may_with has (expr_tree x) ≡ has t
  unfolding may_with
  may_with-word t is = ap (λ (y : ExtentExpr). may_with has (expr_tree y)) is ∙ ap (may_with has) (expr_tree-Word t)

  pub may_with-any : (f : List ℕ) → x ≡ Any f → may_with has (expr_tree x) ≡ true
  unfolding may_with
  may_with-any f is = ap (λ (y : ExtentExpr). may_with has (expr_tree y)) is ∙ ap (may_with has) (expr_tree-Any f)

  pub may_with-ordered : (n : ℕ) (v : Vec ExtentExpr Global) → x ≡ Ordered n v → may_with has (expr_tree x) ≡ may_each_with has (expr_trees (map expr_tree v.items))
  unfolding may_with
  may_with-ordered n v is = ap (λ (y : ExtentExpr). may_with has (expr_tree y)) is ∙ ap (may_with has) (expr_tree-Ordered n v)

  pub may_with-unordered : (n : ℕ) (v : Vec ExtentExpr Global) → x ≡ Unordered n v → may_with has (expr_tree x) ≡ may_each_with has (expr_trees (map expr_tree v.items))
  unfolding may_with
  may_with-unordered n v is = ap (λ (y : ExtentExpr). may_with has (expr_tree y)) is ∙ ap (may_with has) (expr_tree-Unordered n v)

  pub may_with-band : (v : Vec ExtentExpr Global) → x ≡ Band v → may_with has (expr_tree x) ≡ may_each_with has (expr_trees (map expr_tree v.items))
  unfolding may_with
  may_with-band v is = ap (λ (y : ExtentExpr). may_with has (expr_tree y)) is ∙ ap (may_with has) (expr_tree-Band v)

  -- what wants all of its arguments
  pub may_with-all : (v : Vec ExtentExpr Global) → ((n : ℕ) × (x ≡ Ordered n v)) ⊎ (((n : ℕ) × (x ≡ Unordered n v)) ⊎ (x ≡ Band v))
      → may_with has (expr_tree x) ≡ may_each_with has (expr_trees (map expr_tree v.items))
  may_with-all v is = elim is [
    | inl h ↦ may_with-ordered h.0 v h.1
    | inr other ↦ elim other [ inl h ↦ may_with-unordered h.0 v h.1 | inr h ↦ may_with-band v h ]
  ]

  pub may_with-syn : (v : Vec ExtentExpr Global) → x ≡ Syn v → may_with has (expr_tree x) ≡ may_some_with has (expr_trees (map expr_tree v.items))
  unfolding may_with
  may_with-syn v is = ap (λ (y : ExtentExpr). may_with has (expr_tree y)) is ∙ ap (may_with has) (expr_tree-Syn v)

  pub may_with-in_field : (b : Box ExtentExpr Global) (f : List ℕ) → x ≡ InField b f → may_with has (expr_tree x) ≡ may_with has (expr_tree b.value)
  unfolding may_with
  may_with-in_field b f is = ap (λ (y : ExtentExpr). may_with has (expr_tree y)) is ∙ ap (may_with has) (expr_tree-InField b f)
