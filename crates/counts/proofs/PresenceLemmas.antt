-- Where an expression may not occur it doesn't, and whether the arguments of one may.
use Rattle.std.proofs.Common.{◌≡◌, ◌<◌, ◌≤◌, ℕ, zero, suc, ◌+◌, Bool, true, false, cond, ◌&&◌, ◌||◌, List, [], ◌∷◌, length, filter, map, drop, get_or, slice_get, Option, Some, None, refl, sym, ap, ◌∙◌}
use Rattle.std.specs.List.{All}
use Rattle.std.specs.Str.{bytes_eq}
use Rattle.std.proofs.lemmas.List.{at_drop_all, at_drop_more}
use Rattle.std.proofs.lemmas.List.Elements.{All-head}
use Rattle.std.proofs.lemmas.Slice.Eq.{bytes_eq-Decides}
use Rattle.ri_base.specs.Documents.{Document}
use Rattle.ri_base.specs.Expression.{ExprTree, ExprTrees, expr_tree, expr_trees, more}
use Rattle.ri_base.specs.Pair.{Pair}
use Rattle.ri_base.specs.Places.{places, places_from}
use Rattle.ri_base.specs.declared.expression.ExtentExpr.{ExtentExpr}
use Rattle.field_extents.specs.Extents.{begin_count}
use Rattle.field_extents.specs.Fields.{lies_in_some}
use Rattle.extent_lists.specs.Extents.{Ext}
use Rattle.extent_lists.specs.Listing.{IsListing}
use Rattle.extent_lists.specs.Presence.{may_with, may_each_with, may_some_with}
use Rattle.extent_lists.proofs.PresenceLemmas.{CoversTerms, may_with-Ext}
use Rattle.extent_evaluation.specs.Counts.{counted, whole}
use Rattle.extent_evaluation.specs.Listed.{extent_list}
use Rattle.counts.specs.Sums.{occurrences}

-- ---- a term at a token is not nowhere

found-from : (i b : ℕ) (t : List ℕ) (xs : List (List ℕ)) → slice_get xs b ≡ Some t → places_from i t xs ≡ [] → ⊥
found-from i b t [] there empty = absurd cc
found-from i zero t (x ∷ xs) there empty = by (bytes_eq x t) yes empty
  where
    yes : bytes_eq x t ≡ true
    yes = let same : x ≡ t = cc in (bytes_eq-Decides x t).1 same

    by : (c : Bool) → c ≡ true → cond c (i ∷ places_from (i + 1) t xs) (places_from (i + 1) t xs) ≡ [] → ⊥
    by true e h = absurd cc
    by false e h = absurd cc
found-from i (suc b) t (x ∷ xs) there empty = by (bytes_eq x t) (found-from (i + 1) b t xs there) empty
  where
    by : (c : Bool) → (places_from (i + 1) t xs ≡ [] → ⊥) → cond c (i ∷ places_from (i + 1) t xs) (places_from (i + 1) t xs) ≡ [] → ⊥
    by true rest h = absurd cc
    by false rest h = rest h

covers-places : (has : List ℕ → Bool) (d : Document) → ((t : List ℕ) → has t ≡ false → places t d ≡ []) → CoversTerms has d
unfolding places
covers-places has d nowhere t b there = by (has t) refl
  where
    by : (h : Bool) → has t ≡ h → h ≡ true
    by true e = refl
    by false e = absurd (found-from 0 b t d.tokens there (nowhere t e))

-- ---- nothing is counted of an expression without extents

empty-list : (R : ℕ → ℕ → Type 0) (xs : List Pair) → ((b e : ℕ) → R b e → ⊥) → All (λ x. R x.begin x.end) xs → xs ≡ []
empty-list R [] nothing all = refl
empty-list R (x ∷ xs) nothing all = absurd (nothing x.begin x.end (All-head (λ (y : Pair). R y.begin y.end) x xs all))

counted-none : (x : ExprTree) (d : Document) (context : Option (List ℕ)) → extent_list x d ≡ [] → counted x d context ≡ []
counted-none x d None h = h
counted-none x d (Some c) h = ap (filter (lies_in_some d.fields c)) h

-- an expression that may not occur by the terms of the document doesn't
pub occurs-nowhere : (has : List ℕ → Bool) (x : ExprTree) (context : Option (List ℕ)) (d : Document) → IsListing (Ext x d) (extent_list x d)
    → ((t : List ℕ) → has t ≡ false → places t d ≡ []) → may_with has x ≡ false → occurrences x context d ≡ 0
occurs-nowhere has x context d listing nowhere not =
    let empty : extent_list x d ≡ [] =
    empty-list (Ext x d) (extent_list x d) (λ b e h. let yes = may_with-Ext has d (covers-places has d nowhere) x b e h in cc) listing.only in
    ap (λ xs. begin_count xs (whole d)) (counted-none x d context empty)

-- ---- the arguments one after the other

abbrev trees : List ExtentExpr → ExprTrees
trees xs = expr_trees (map expr_tree xs)

first-of : (all : List ExtentExpr) (i : ℕ) (x : ExtentExpr) → i < length all → x ≡ get_or all i x → trees (drop i all) ≡ more (expr_tree x) (trees (drop (i + 1) all))
first-of all i x lt is = at_drop_more trees all i x lt ∙ ap (λ (y : ExtentExpr). trees (y ∷ drop (i + 1) all)) (sym is)

module _ (has : List ℕ → Bool) (all : List ExtentExpr) (i : ℕ) (outcome : Bool) where
  -- one that may, and then all of those that are left
  pub each-next : (x : ExtentExpr) → i < length all → x ≡ get_or all i x → may_with has (expr_tree x) ≡ true → may_each_with has (expr_trees (map expr_tree (drop i all))) ≡ outcome
      → may_each_with has (expr_trees (map expr_tree (drop (i + 1) all))) ≡ outcome
  unfolding may_each_with
  each-next x lt is here so_far = sym (ap (may_each_with has) (first-of all i x lt is) ∙ ap (λ b. b && may_each_with has (trees (drop (i + 1) all))) here) ∙ so_far

  pub each-fails : (x : ExtentExpr) → i < length all → x ≡ get_or all i x → may_with has (expr_tree x) ≡ false → may_each_with has (expr_trees (map expr_tree (drop i all))) ≡ outcome → false ≡ outcome
  unfolding may_each_with
  each-fails x lt is here so_far = sym (ap (may_each_with has) (first-of all i x lt is) ∙ ap (λ b. b && may_each_with has (trees (drop (i + 1) all))) here) ∙ so_far

  pub each-end : length all ≤ i → may_each_with has (expr_trees (map expr_tree (drop i all))) ≡ outcome → true ≡ outcome
  unfolding may_each_with
  each-end end so_far = sym (ap (may_each_with has) (at_drop_all trees all i end)) ∙ so_far

  -- one that may not, and then some of those that are left
  pub some-next : (x : ExtentExpr) → i < length all → x ≡ get_or all i x → may_with has (expr_tree x) ≡ false → may_some_with has (expr_trees (map expr_tree (drop i all))) ≡ outcome
      → may_some_with has (expr_trees (map expr_tree (drop (i + 1) all))) ≡ outcome
  unfolding may_some_with
  some-next x lt is here so_far = sym (ap (may_some_with has) (first-of all i x lt is) ∙ ap (λ b. b || may_some_with has (trees (drop (i + 1) all))) here) ∙ so_far

  pub some-holds : (x : ExtentExpr) → i < length all → x ≡ get_or all i x → may_with has (expr_tree x) ≡ true → may_some_with has (expr_trees (map expr_tree (drop i all))) ≡ outcome → true ≡ outcome
  unfolding may_some_with
  some-holds x lt is here so_far = sym (ap (may_some_with has) (first-of all i x lt is) ∙ ap (λ b. b || may_some_with has (trees (drop (i + 1) all))) here) ∙ so_far

  pub some-end : length all ≤ i → may_some_with has (expr_trees (map expr_tree (drop i all))) ≡ outcome → false ≡ outcome
  unfolding may_some_with
  some-end end so_far = sym (ap (may_some_with has) (at_drop_all trees all i end)) ∙ so_far
