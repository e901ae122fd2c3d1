-- What is told of the arguments of an operator together, by the list of them.
use Rattle.std.proofs.Common.{◌≡◌, ◌<◌, ◌≤◌, ◌+◌, ℕ, Bool, true, false, ◌&&◌, cond, nat_lt, List, [], ◌∷◌, ◌++◌, length, map, take, get_or, Option, None, Some, unwrap_or, Vec, Box, Global, refl, sym, ap, subst, ◌∙◌, arith}
use Rattle.std.specs.List.{list_all, sum_by}
use Rattle.std.proofs.lemmas.List.{take_all, take_more}
use Rattle.std.proofs.lemmas.List.Sums.{sum_by-cons, sum_by_push}
use Rattle.ri_base.specs.Expression.{expr_tree, expr_trees, word, ordered, unordered, syn, any, band, in_field}
use Rattle.ri_base.specs.declared.expression.ExtentExpr.{ExtentExpr, Word, Any, Ordered, Unordered, Syn, Band, InField}
use Rattle.ri_base.specs.declared.limits.TheConstants.{MAX_DOC_TOKENS}
use Rattle.ri_base.proofs.ExpressionLemmas.{expr_tree-Word, expr_tree-Any, expr_tree-Ordered, expr_tree-Unordered, expr_tree-Syn, expr_tree-Band, expr_tree-InField}
use Rattle.range_bounds.specs.Most.{capped, each_occurs, most_by, most_of_first, total_most}
use Rattle.range_bounds.specs.declared.most.Together.{Together}

-- the first of the arguments is no more than a document has tokens
pub first_few : (old now : Option ℕ) (m : ℕ) → unwrap_or old 0 ≤ MAX_DOC_TOKENS → m ≤ MAX_DOC_TOKENS → now ≡ Some (unwrap_or old m) → unwrap_or now 0 ≤ MAX_DOC_TOKENS
first_few None now m h few is = subst (λ (o : Option ℕ). unwrap_or o 0 ≤ MAX_DOC_TOKENS) (sym is) few
first_few (Some n) now m h few is = subst (λ (o : Option ℕ). unwrap_or o 0 ≤ MAX_DOC_TOKENS) (sym is) h

module _ (terms names : List ℕ → ℕ) where
  abbrev pub most_in : ExtentExpr → ℕ
  most_in x = most_by terms names (expr_tree x)

  abbrev pub first_in : List ExtentExpr → Option ℕ
  first_in [] = None
  first_in (x ∷ xs) = Some (most_in x)

  -- what is told of these arguments
  pub record AreTold (xs : List ExtentExpr) (t : Together) : Type 0 where
    pub each : t.each ≡ list_all (λ x. nat_lt 0 (most_in x)) xs
    pub first : t.first ≡ first_in xs
    pub total : t.total ≡ capped (sum_by most_in xs)

  all_push : (p : ExtentExpr → Bool) (xs : List ExtentExpr) (x : ExtentExpr) → list_all p (xs ++ x ∷ []) ≡ list_all p xs && p x
  all_push p [] x = by (p x)
    where
      by : (b : Bool) → b && true ≡ true && b
      by true = refl
      by false = refl
  all_push p (y ∷ xs) x = ap (λ b. p y && b) (all_push p xs x) ∙ sym (joined (p y))
    where
      joined : (b : Bool) → (b && list_all p xs) && p x ≡ b && (list_all p xs && p x)
      joined true = refl
      joined false = refl

  first_push : (xs : List ExtentExpr) (x : ExtentExpr) → first_in (xs ++ x ∷ []) ≡ Some (unwrap_or (first_in xs) (most_in x))
  first_push [] x = refl
  first_push (y ∷ xs) x = refl

  -- one argument more
  pub AreTold-more : (xs : List ExtentExpr) (i : ℕ) (x : ExtentExpr) (t now : Together) (m : ℕ) → i < length xs → x ≡ get_or xs i x → AreTold (take i xs) t → m ≡ most_in x
      → now.each ≡ t.each && nat_lt 0 m → now.first ≡ Some (unwrap_or t.first m) → now.total ≡ capped (t.total + m) → AreTold (take (i + 1) xs) now
  AreTold-more xs i x t now m inside here h is each first total =
      let front = take i xs in
      let whole : take (i + 1) xs ≡ front ++ x ∷ [] = take_more xs i x inside ∙ ap (λ y. front ++ y ∷ []) (sym here) in
      record {
        each = each ∙ ap (λ b. b && nat_lt 0 m) h.each ∙ ap (λ n. list_all (λ y. nat_lt 0 (most_in y)) front && nat_lt 0 n) is
            ∙ sym (ap (list_all (λ y. nat_lt 0 (most_in y))) whole ∙ all_push (λ y. nat_lt 0 (most_in y)) front x);
        first = first ∙ ap (λ o. Some (unwrap_or o m)) h.first ∙ ap (λ n. Some (unwrap_or (first_in front) n)) is ∙ sym (ap first_in whole ∙ first_push front x);
        total =
            let sum : sum_by most_in (take (i + 1) xs) ≡ sum_by most_in front + most_in x = ap (sum_by most_in) whole ∙ sum_by_push most_in front x in
            omega (arith, total, h.total, is, sum);
      }

  pub AreTold-none : AreTold [] (record { each = true; first = None; total = 0 })
  AreTold-none = record { each = refl; first = refl; total = refl }

  -- the definition of an operator's arguments, by their list
  each_listed : (xs : List ExtentExpr) → each_occurs terms names (expr_trees (map expr_tree xs)) ≡ list_all (λ x. nat_lt 0 (most_in x)) xs
  unfolding each_occurs
  each_listed [] = refl
  each_listed (x ∷ xs) = ap (λ b. nat_lt 0 (most_in x) && b) (each_listed xs)

  first_listed : (xs : List ExtentExpr) → most_of_first terms names (expr_trees (map expr_tree xs)) ≡ unwrap_or (first_in xs) 0
  unfolding most_of_first
  first_listed [] = refl
  first_listed (x ∷ xs) = refl

  total_listed : (xs : List ExtentExpr) → total_most terms names (expr_trees (map expr_tree xs)) ≡ sum_by most_in xs
  unfolding total_most
  total_listed [] = refl
  total_listed (x ∷ xs) = ap (λ n. most_in x + n) (total_listed xs) ∙ sym (sum_by-cons most_in x xs)

  module _ (xs : List ExtentExpr) (i : ℕ) (t : Together) (end : length xs ≤ i) (h : AreTold (take i xs) t) where
    pub told_each : t.each ≡ each_occurs terms names (expr_trees (map expr_tree xs))
    told_each = h.each ∙ ap (list_all (λ x. nat_lt 0 (most_in x))) (take_all i xs end) ∙ sym (each_listed xs)

    pub told_first : unwrap_or t.first 0 ≡ most_of_first terms names (expr_trees (map expr_tree xs))
    told_first = ap (λ o. unwrap_or o 0) (h.first ∙ ap first_in (take_all i xs end)) ∙ sym (first_listed xs)

    pub told_total : t.total ≡ capped (total_most terms names (expr_trees (map expr_tree xs)))
    told_total = h.total ∙ ap (λ ys. capped (sum_by most_in ys)) (take_all i xs end) ∙ ap capped (sym (total_listed xs))

  -- ---- the variants of an expression

  of_word : (t : List ℕ) → most_by terms names (word t) ≡ capped (terms t)
  unfolding most_by
  of_word t = refl

  of_any : (f : List ℕ) → most_by terms names (any f) ≡ capped (names f)
  unfolding most_by
  of_any f = refl

  of_ordered : (n : ℕ) (xs : _) → most_by terms names (ordered n xs) ≡ cond (each_occurs terms names xs) (most_of_first terms names xs) 0
  unfolding most_by each_occurs most_of_first
  of_ordered n xs = refl

  of_unordered : (n : ℕ) (xs : _) → most_by terms names (unordered n xs) ≡ cond (each_occurs terms names xs) (capped (total_most terms names xs)) 0
  unfolding most_by each_occurs total_most
  of_unordered n xs = refl

  of_syn : (xs : _) → most_by terms names (syn xs) ≡ capped (total_most terms names xs)
  unfolding most_by total_most
  of_syn xs = refl

  of_band : (xs : _) → most_by terms names (band xs) ≡ cond (each_occurs terms names xs) 1 0
  unfolding most_by each_occurs
  of_band xs = refl

  of_in_field : (x : _) (f : List ℕ) → most_by terms names (in_field x f) ≡ most_by terms names x
  unfolding most_by
  of_in_field x f = refl

  module _ (x : ExtentExpr) where
    pub in_word : (t : List ℕ) → x ≡ Word t → most_in x ≡ capped (terms t)
    in_word t is = ap most_in is ∙ ap (most_by terms names) (expr_tree-Word t) ∙ of_word t

    pub in_any : (f : List ℕ) → x ≡ Any f → most_in x ≡ capped (names f)
    in_any f is = ap most_in is ∙ ap (most_by terms names) (expr_tree-Any f) ∙ of_any f

    pub in_ordered : (n : ℕ) (a : Vec ExtentExpr Global) → x ≡ Ordered n a → most_in x ≡ cond (each_occurs terms names (expr_trees (map expr_tree a.items))) (most_of_first terms names (expr_trees (map expr_tree a.items))) 0
    in_ordered n a is = ap most_in is ∙ ap (most_by terms names) (expr_tree-Ordered n a) ∙ of_ordered n _

    pub in_unordered : (n : ℕ) (a : Vec ExtentExpr Global) → x ≡ Unordered n a
        → most_in x ≡ cond (each_occurs terms names (expr_trees (map expr_tree a.items))) (capped (total_most terms names (expr_trees (map expr_tree a.items)))) 0
    in_unordered n a is = ap most_in is ∙ ap (most_by terms names) (expr_tree-Unordered n a) ∙ of_unordered n _

    pub in_syn : (a : Vec ExtentExpr Global) → x ≡ Syn a → most_in x ≡ capped (total_most terms names (expr_trees (map expr_tree a.items)))
    in_syn a is = ap most_in is ∙ ap (most_by terms names) (expr_tree-Syn a) ∙ of_syn _

    pub in_band : (a : Vec ExtentExpr Global) → x ≡ Band a → most_in x ≡ cond (each_occurs terms names (expr_trees (map expr_tree a.items))) 1 0
    in_band a is = ap most_in is ∙ ap (most_by terms names) (expr_tree-Band a) ∙ of_band _

    pub in_in_field : (b : Box ExtentExpr Global) (f : List ℕ) → x ≡ InField b f → most_in x ≡ most_in b.value
    in_in_field b f is = ap most_in is ∙ ap (most_by terms names) (expr_tree-InField b f) ∙ of_in_field _ f
