-- What doesn't stand in a range of documents by their terms has no extent there.
use Rattle.std.proofs.Common.{◌≡◌, ◌<◌, ◌≤◌, ◌+◌, ◌*◌, ◌⊎◌, inl, inr, ℕ, zero, suc, min, max, Bool, true, false, ◌&&◌, cond, nat_lt, List, [], ◌∷◌, ◌++◌, length, length-drop, map, take, drop, get_or, Vec, Global, Option, Some, None, IfSome, unwrap_or, refl, sym, ap, subst, ◌∙◌, arith, ⊎_elim}
use Rattle.std.specs.Prelude.{All, fold}
use Rattle.std.proofs.lemmas.Bool.{and_cases, both_ways, or_parts}
use Rattle.std.proofs.lemmas.List.{get_or-drop, get_or-take, length-take, take_all, take_more}
use Rattle.std.proofs.lemmas.List.Elements.{All-cons, All-head, All-map, All-nil, All-tail}
use Rattle.ri_base.specs.Collection.{document_at}
use Rattle.ri_base.specs.Documents.{Document}
use Rattle.ri_base.specs.Expression.{ExprTrees, expr_tree, expr_trees}
use Rattle.ri_base.specs.Places.{places}
use Rattle.ri_base.specs.declared.expression.ExtentExpr.{ExtentExpr, Ordered, Unordered, Band, Syn}
use Rattle.query_check.specs.Leaves.{LeafTree, extents, prior}
use Rattle.range_masks.specs.May.{has_term, leaf_may, may, query_may, some_may}
use Rattle.range_masks.specs.Next.{IsPassed}
use Rattle.range_masks.proofs.MayLemmas.{may-Ext}
use Rattle.range_masks.proofs.PostingLemmas.{some, some_place}
use Rattle.range_bounds.specs.Most.{capped, each_occurs, most_by, most_of_first, total_most}
use Rattle.range_bounds.specs.Ranges.{most_places, range_documents}
use Rattle.range_bounds.specs.Tables.{IsAbsent}
use Rattle.range_bounds.proofs.Togethers.{in_band, in_ordered, in_syn, in_unordered}
use Rattle.range_tables.specs.Gaps.{AreAbsentTo}
use Rattle.range_tables.proofs.SectionLemmas.{document_is}

-- ---- a term

none_long : (ps : List ℕ) → some ps ≡ false → length ps ≡ 0
none_long [] h = refl
none_long (p ∷ ps) h = absurd (both_ways true h refl)

greatest_none : (a : ℕ) (ns : List ℕ) → All (λ n. n ≡ 0) ns → fold (λ m n. max m n) a ns ≡ a
greatest_none a [] h = refl
greatest_none a (n ∷ ns) h =
    let here : max a n ≡ a = omega (arith, All-head (λ m. m ≡ 0) n ns h) in
    ap (λ m. fold (λ i j. max i j) m ns) here ∙ greatest_none a ns (All-tail (λ m. m ≡ 0) n ns h)

in_range : (docs : List Document) (range k : ℕ) (d : Document) → k < length (range_documents docs range) → get_or (range_documents docs range) k d ≡ document_at docs (64 * range + k)
in_range docs range k d inside =
    let rest = drop (64 * range) docs in
    let few : k < min 64 (length rest) = subst (λ n. k < n) (length-take 64 rest) inside in
    get_or-take 64 rest k d (omega (arith, few)) ∙ get_or-drop (64 * range) docs k d ∙ document_is docs (64 * range + k) d (omega (arith, few, length-drop (64 * range) docs))

-- an id of a range before another lies before it
before_next : (range k : ℕ) → k < 64 → (found : Option ℕ) → IfSome found (λ next. range < next) → IfSome found (λ next. 64 * range + k < 64 * next)
before_next range k few None h = tt
before_next range k few (Some next) h = omega (arith, few, h)

pub none_there : (docs : List Document) (range : ℕ) (t : List ℕ) (found : Option ℕ) → IsPassed (has_term t) docs range found → IfSome found (λ next. range < next) → most_places (range_documents docs range) t ≡ 0
none_there docs range t found passed later =
    greatest_none 0 (map (λ (d : Document). length (places t d)) (range_documents docs range))
    (All-map (λ n. n ≡ 0) (λ (d : Document). length (places t d)) (range_documents docs range) (λ k d inside.
    let few : k < min 64 (length (drop (64 * range) docs)) = subst (λ n. k < n) (length-take 64 (drop (64 * range) docs)) inside in
    let lacks : has_term t (document_at docs (64 * range + k)) ≡ false = passed.each (64 * range + k) (omega arith) (before_next range k (omega (arith, few)) found later) in
    ap (λ e. length (places t e)) (in_range docs range k d inside) ∙ none_long (places t (document_at docs (64 * range + k))) (some_place t (document_at docs (64 * range + k)) ∙ lacks)))

-- ---- leaves

absent_leaf : (d : Document) (l : LeafTree) → leaf_may l d ≡ false → IsAbsent d l
absent_leaf d (extents x c) none = λ b e h. both_ways (may x d) none (may-Ext d x b e h)
absent_leaf d (prior n) none = tt

absent_in : (d : Document) (leaves : List LeafTree) → some_may leaves d ≡ false → All (IsAbsent d) leaves
absent_in d [] none = All-nil (IsAbsent d)
absent_in d (l ∷ ls) none =
    let parts = or_parts (leaf_may l d) (some_may ls d) none in
    All-cons (IsAbsent d) l ls (absent_leaf d l parts.0) (absent_in d ls parts.1)

-- with no filter
some_fails : (leaves : List LeafTree) (d : Document) → query_may [] leaves d ≡ false → some_may leaves d ≡ false
some_fails leaves d none = ⊎_elim (λ h. h) (λ h. absurd (both_ways true h refl)) (and_cases (some_may leaves d) true none)

later_one : (most range : ℕ) (found : Option ℕ) → range < unwrap_or found most → IfSome found (λ next. range < next)
later_one most range None h = tt
later_one most range (Some next) h = h

-- where documents are passed over no leaf has an extent
pub absent_to : (leaves : List LeafTree) (docs : List Document) (from most : ℕ) (found : Option ℕ) → IsPassed (query_may [] leaves) docs from found → AreAbsentTo leaves docs from (unwrap_or found most)
absent_to leaves docs from most found passed = λ range low under k d inside.
    let id = 64 * range + k in
    let few : k < min 64 (length (drop (64 * range) docs)) = subst (λ n. k < n) (length-take 64 (drop (64 * range) docs)) inside in
    let before = before_next range k (omega (arith, few)) found (later_one most range found under) in
    let none = some_fails leaves (document_at docs id) (passed.each id (omega (arith, low)) before) in
    subst (λ e. All (IsAbsent e) leaves) (sym (in_range docs range k d inside)) (absent_in (document_at docs id) leaves none)

pub absent_later : (leaves : List LeafTree) (docs : List Document) (from then to : ℕ) → from ≤ then → AreAbsentTo leaves docs from to → AreAbsentTo leaves docs then to
absent_later leaves docs from then to behind h = λ range low under. h range (omega (arith, behind, low)) under

-- ---- arguments of an operator

module _ (terms names : List ℕ → ℕ) where
  abbrev trees : List ExtentExpr → ExprTrees
  trees xs = expr_trees (map expr_tree xs)

  -- one that doesn't occur
  pub each_fails : (xs : List ExtentExpr) (i : ℕ) (x : ExtentExpr) → i < length xs → x ≡ get_or xs i x → most_by terms names (expr_tree x) ≡ 0 → each_occurs terms names (expr_trees (map expr_tree xs)) ≡ false
  unfolding each_occurs
  each_fails [] i x inside here none = absurd (omega (arith, inside))
  each_fails (y ∷ ys) zero x inside here none =
      let no : most_by terms names (expr_tree y) ≡ 0 = ap (λ z. most_by terms names (expr_tree z)) (sym here) ∙ none in
      ap (λ n. nat_lt 0 n && each_occurs terms names (trees ys)) no
  each_fails (y ∷ ys) (suc i) x inside here none =
      ap (λ b. nat_lt 0 (most_by terms names (expr_tree y)) && b) (each_fails ys i x (omega (arith, inside)) here none) ∙ last_false (nat_lt 0 (most_by terms names (expr_tree y)))
    where
      last_false : (b : Bool) → b && false ≡ false
      last_false true = refl
      last_false false = refl

  total_push : (xs : List ExtentExpr) (x : ExtentExpr) → total_most terms names (trees (xs ++ x ∷ [])) ≡ total_most terms names (trees xs) + most_by terms names (expr_tree x)
  unfolding total_most
  total_push [] x = omega arith
  total_push (y ∷ ys) x = let rest = total_push ys x in omega (arith, rest)

  pub total_none : total_most terms names (expr_trees (map expr_tree [])) ≡ 0
  unfolding total_most
  total_none = refl

  pub total_more : (xs : List ExtentExpr) (i : ℕ) (x : ExtentExpr) → i < length xs → x ≡ get_or xs i x → total_most terms names (expr_trees (map expr_tree (take i xs))) ≡ 0
      → most_by terms names (expr_tree x) ≡ 0 → total_most terms names (expr_trees (map expr_tree (take (i + 1) xs))) ≡ 0
  total_more xs i x inside here before none =
      let whole : take (i + 1) xs ≡ take i xs ++ x ∷ [] = take_more xs i x inside ∙ ap (λ y. take i xs ++ y ∷ []) (sym here) in
      let sum = ap (λ ys. total_most terms names (trees ys)) whole ∙ total_push (take i xs) x in
      omega (arith, sum, before, none)

  pub total_end : (xs : List ExtentExpr) (i : ℕ) → length xs ≤ i → total_most terms names (expr_trees (map expr_tree (take i xs))) ≡ 0 → total_most terms names (expr_trees (map expr_tree xs)) ≡ 0
  total_end xs i end h = sym (ap (λ ys. total_most terms names (trees ys)) (take_all i xs end)) ∙ h

  module _ (x : ExtentExpr) (a : Vec ExtentExpr Global) where
    -- a window whose arguments don't all occur
    pub window_none : ((n : ℕ) × (x ≡ Ordered n a)) ⊎ (((n : ℕ) × (x ≡ Unordered n a)) ⊎ (x ≡ Band a)) → each_occurs terms names (expr_trees (map expr_tree a.items)) ≡ false → most_by terms names (expr_tree x) ≡ 0
    window_none (inl h) none = in_ordered terms names x h.0 a h.1 ∙ ap (λ b. cond b (most_of_first terms names (trees a.items)) 0) none
    window_none (inr (inl h)) none = in_unordered terms names x h.0 a h.1 ∙ ap (λ b. cond b (capped (total_most terms names (trees a.items))) 0) none
    window_none (inr (inr h)) none = in_band terms names x a h ∙ ap (λ b. cond b 1 0) none

    pub union_none : x ≡ Syn a → total_most terms names (expr_trees (map expr_tree a.items)) ≡ 0 → most_by terms names (expr_tree x) ≡ 0
    union_none h none = in_syn terms names x a h ∙ ap capped none
