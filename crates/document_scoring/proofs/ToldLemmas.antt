-- Of which leaves and filters places were told.
use Rattle.std.proofs.Common.{◌≡◌, ◌<◌, ℕ, false, List, Option, Contains, length, map, take, get_or, sym, ap, subst, ◌∙◌, arith}
use Rattle.std.specs.List.{All}
use Rattle.std.proofs.lemmas.List.{get_or-map, get_or-take, length-map, length-take}
use Rattle.std.proofs.lemmas.List.Elements.{All-contains_itself, All-get_or}
use Rattle.ri_base.specs.Expression.{EachWord, expr_tree}
use Rattle.ri_base.specs.Query.{filter_tree}
use Rattle.ri_base.specs.declared.expression.ExtentExpr.{ExtentExpr}
use Rattle.ri_base.specs.declared.query.Filter.{Filter}
use Rattle.query_check.specs.Leaves.{LeafTree, extents, leaf_tree, prior}
use Rattle.query_check.specs.declared.leaf_kind.LeafKind.{LeafKind}
use Rattle.query_check.specs.declared.leaf_kind.LeafKind.TheVariants.{Extents, Prior}
use Rattle.extent_lists.proofs.WordLemmas.{EachWord-weaker}
use Rattle.document_scoring.specs.Told.{AreFiltersTold, IsFilterTold, IsLeafTold}

pub IsLeafTold-weaker : (P Q : List ℕ → Type 0) → ((t : List ℕ) → P t → Q t) → (l : LeafTree) → IsLeafTold P l → IsLeafTold Q l
IsLeafTold-weaker P Q weaker (extents x context) h = EachWord-weaker P Q weaker x h
IsLeafTold-weaker P Q weaker (prior n) h = tt

pub prior_told : (leaf : LeafKind) (n : ℕ) (P : List ℕ → Type 0) → leaf ≡ Prior n → IsLeafTold P (leaf_tree leaf)
prior_told leaf n P is = subst (λ (l : LeafKind). IsLeafTold P (leaf_tree l)) (sym is) tt

pub leaf_told : (leaf : LeafKind) (expr : ExtentExpr) (context : Option (List ℕ)) (P : List ℕ → Type 0) → leaf ≡ Extents expr context → EachWord P (expr_tree expr) → IsLeafTold P (leaf_tree leaf)
leaf_told leaf expr context P is h = subst (λ (l : LeafKind). IsLeafTold P (leaf_tree l)) (sym is) h

module _ (P : LeafTree → Type 0) (leaves : List LeafKind) (number : ℕ) (inside : number < length leaves) where
  -- said of a leaf, by its number
  pub leaf_at : (leaf : LeafKind) → leaf ≡ get_or leaves number leaf → P (leaf_tree leaf) → P (get_or (map leaf_tree leaves) number (prior 0))
  leaf_at leaf is h =
      subst P (ap leaf_tree is ∙ sym (get_or-map leaf_tree leaves number leaf (prior 0) inside)) h

  -- said of those before it, and so of an equal one
  pub leaf_copied : (first : ℕ) (early late : LeafKind) → first < number → early ≡ get_or leaves first early → late ≡ get_or leaves number late → leaf_tree early ≡ leaf_tree late
      → All P (take number (map leaf_tree leaves)) → P (get_or (map leaf_tree leaves) number (prior 0))
  leaf_copied first early late less at_early at_late same all =
      let trees : List LeafTree = map leaf_tree leaves in
      let long = length-map leaves leaf_tree in
      let front_long = length-take number trees in
      let front : get_or (take number trees) first (prior 0) ≡ get_or trees first (prior 0) = get_or-take number trees first (prior 0) less in
      let early_is : get_or trees first (prior 0) ≡ leaf_tree early = get_or-map leaf_tree leaves first early (prior 0) (omega (arith, less, inside)) ∙ ap leaf_tree (sym at_early) in
      leaf_at late at_late (subst P (front ∙ early_is ∙ same) (All-get_or P (take number trees) first (prior 0) (omega (arith, less, inside, long, front_long)) all))

module _ (P : List ℕ → Type 0) (filters : List Filter) where
  -- a document doesn't pass a filter
  pub one_told : (i : ℕ) (f : Filter) → i < length filters → f ≡ get_or filters i f → IsFilterTold P (filter_tree f) → AreFiltersTold P (map filter_tree filters) false
  one_told i f inside is h =
      let trees = map filter_tree filters in
      let long = length-map filters filter_tree in
      let there : get_or trees i (filter_tree f) ≡ filter_tree f = get_or-map filter_tree filters i f (filter_tree f) inside ∙ ap filter_tree (sym is) in
      let here : Contains trees (get_or trees i (filter_tree f)) = All-get_or (Contains trees) trees i (filter_tree f) (omega (arith, inside, long)) (All-contains_itself trees) in
      (filter_tree f, subst (Contains trees) there here, h)
