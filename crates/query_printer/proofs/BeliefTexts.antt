-- The texts of beliefs, variant by variant, behind what was written before.
use native.Mathlib.Numerals.{unary_clauses}
use Rattle.std.proofs.Common.{◌≡◌, ℕ, List, [], ◌∷◌, ◌++◌, map, Vec, Option, Global, refl, sym, ap, append_assoc, append-nil, length, drop, take, ◌-◌, get_or, ◌<◌, ◌≤◌, ◌+◌, zero, suc, arith, add-one, Bool}
use Rattle.std.specs.List.{prefix_len}
use Rattle.std.proofs.lemmas.List.Sums.{prefix_len-le-length}
use Rattle.std.specs.Prelude.{codes}
use Rattle.ri_base.specs.declared.expression.ExtentExpr.{ExtentExpr}
use Rattle.ri_base.specs.declared.belief.Belief.{Belief, Combine, Weight, Max, Prior, Leaf}
use Rattle.ri_base.specs.declared.query.Filter.{Filter}
use Rattle.ri_base.specs.Expression.{expr_tree}
use Rattle.ri_base.specs.Query.{belief_tree, weighted_tree, belief_trees, weighted_trees, filter_tree}
use Rattle.ri_base.proofs.QueryLemmas.{belief_tree-Combine, belief_tree-Max, belief_tree-Weight, belief_tree-Prior, belief_tree-Leaf}
use Rattle.query_printer.specs.Printed.{printed, weight_text, context_text, belief_text, beliefs_text, more_beliefs_text, weighted_text, more_weighted_text, top_text, more_top_text, filter_start, filters_text}

module _ (out : List ℕ) where
  pub text-Combine : (v : Vec Belief Global) → out ++ belief_text (belief_tree (Combine v)) ≡ (out ++ codes "#combine(") ++ beliefs_text (belief_trees (map belief_tree v.items))
  unfolding belief_text beliefs_text more_beliefs_text weighted_text more_weighted_text
  text-Combine v = rw (belief_tree-Combine v) (sym (append_assoc out (codes "#combine(") _))

  pub text-Max : (v : Vec Belief Global) → out ++ belief_text (belief_tree (Max v)) ≡ (out ++ codes "#max(") ++ beliefs_text (belief_trees (map belief_tree v.items))
  unfolding belief_text beliefs_text more_beliefs_text weighted_text more_weighted_text
  text-Max v = rw (belief_tree-Max v) (sym (append_assoc out (codes "#max(") _))

  pub text-Weight : (v : Vec (ℕ × Belief) Global) → out ++ belief_text (belief_tree (Weight v)) ≡ (out ++ codes "#weight(") ++ weighted_text (weighted_trees (map weighted_tree v.items))
  unfolding belief_text beliefs_text more_beliefs_text weighted_text more_weighted_text
  text-Weight v = rw (belief_tree-Weight v) (sym (append_assoc out (codes "#weight(") _))

  pub text-Prior : (f : List ℕ) → out ++ belief_text (belief_tree (Prior f)) ≡ ((out ++ codes "#prior(") ++ f) ++ codes ")"
  unfolding belief_text beliefs_text more_beliefs_text weighted_text more_weighted_text
  text-Prior f = rw (belief_tree-Prior f) (simp append_assoc refl)

  pub text-Leaf : (x : ExtentExpr) (context : Option (List ℕ)) → out ++ belief_text (belief_tree (Leaf x context)) ≡ (out ++ printed (expr_tree x)) ++ context_text context
  unfolding belief_text beliefs_text more_beliefs_text weighted_text more_weighted_text
  text-Leaf x context = rw (belief_tree-Leaf x context) (simp append_assoc refl)

pub ruleset belief_texts = (text-Combine, text-Max, text-Weight, text-Prior, text-Leaf)

take_all : {A : Type 0} (xs : List A) → take (length xs) xs ≡ xs
take_all [] = refl
take_all (x ∷ xs) = ap (λ ys. x ∷ ys) (take_all xs)

rest_whole : {A : Type 0} (y : A) (xs : List A) → take (length (y ∷ xs) - 1) xs ≡ xs
rest_whole y xs = simp unary_clauses (take_all xs)

pub beliefs_none : (out : List ℕ) (xs : List Belief) → length xs ≡ 0 → out ++ beliefs_text (belief_trees (map belief_tree xs)) ≡ out ++ 41 ∷ []
unfolding belief_text beliefs_text more_beliefs_text weighted_text more_weighted_text
beliefs_none out [] h = refl
beliefs_none out (x ∷ xs) h = absurd (omega arith)

pub beliefs_some : (out : List ℕ) (xs : List Belief) (x : Belief) → 0 < length xs → x ≡ get_or xs 0 x → out ++ beliefs_text (belief_trees (map belief_tree xs)) ≡ (out ++ belief_text (belief_tree x)) ++ more_beliefs_text (belief_trees (map belief_tree (take (length xs - 1) (drop 1 xs))))
unfolding belief_text beliefs_text more_beliefs_text weighted_text more_weighted_text
beliefs_some out [] x h e = absurd (omega arith)
beliefs_some out (y ∷ xs) x h e =
    let whole : take (length (y ∷ xs) - 1) xs ≡ xs = rest_whole y xs in
    rw (whole, e) (simp append_assoc refl)

pub beliefs_end : (out : List ℕ) (xs : List Belief) (i : ℕ) → length xs ≤ i → out ++ more_beliefs_text (belief_trees (map belief_tree (drop i xs))) ≡ out ++ 41 ∷ []
unfolding belief_text beliefs_text more_beliefs_text weighted_text more_weighted_text
beliefs_end out [] zero h = refl
beliefs_end out [] (suc i) h = refl
beliefs_end out (x ∷ xs) zero h = absurd (omega arith)
beliefs_end out (x ∷ xs) (suc i) h = beliefs_end out xs i (omega arith)

beliefs_suc : (out : List ℕ) (xs : List Belief) (i : ℕ) (x : Belief) → i < length xs → x ≡ get_or xs i x → out ++ more_beliefs_text (belief_trees (map belief_tree (drop i xs))) ≡ ((out ++ 32 ∷ []) ++ belief_text (belief_tree x)) ++ more_beliefs_text (belief_trees (map belief_tree (drop (suc i) xs)))
unfolding belief_text beliefs_text more_beliefs_text weighted_text more_weighted_text
beliefs_suc out [] i x h e = absurd (omega arith)
beliefs_suc out (y ∷ xs) zero x h e = rw e (simp append_assoc refl)
beliefs_suc out (y ∷ xs) (suc i) x h e = beliefs_suc out xs i x (omega arith) e

pub beliefs_at : (out : List ℕ) (xs : List Belief) (i : ℕ) (x : Belief) → i < length xs → x ≡ get_or xs i x → ((out ++ 32 ∷ []) ++ belief_text (belief_tree x)) ++ more_beliefs_text (belief_trees (map belief_tree (drop (i + 1) xs))) ≡ out ++ more_beliefs_text (belief_trees (map belief_tree (drop i xs)))
beliefs_at out xs i x h e = rw add-one (sym (beliefs_suc out xs i x h e))

pub weighted_none : (out : List ℕ) (xs : List (ℕ × Belief)) → length xs ≡ 0 → out ++ weighted_text (weighted_trees (map weighted_tree xs)) ≡ out ++ 41 ∷ []
unfolding belief_text beliefs_text more_beliefs_text weighted_text more_weighted_text
weighted_none out [] h = refl
weighted_none out (x ∷ xs) h = absurd (omega arith)

pub weighted_some : (out : List ℕ) (xs : List (ℕ × Belief)) (x : (ℕ × Belief)) → 0 < length xs → x ≡ get_or xs 0 x → out ++ weighted_text (weighted_trees (map weighted_tree xs)) ≡ (((out ++ weight_text x.0) ++ 32 ∷ []) ++ belief_text (belief_tree x.1)) ++ more_weighted_text (weighted_trees (map weighted_tree (take (length xs - 1) (drop 1 xs))))
unfolding belief_text beliefs_text more_beliefs_text weighted_text more_weighted_text
weighted_some out [] x h e = absurd (omega arith)
weighted_some out (y ∷ xs) x h e =
    let whole : take (length (y ∷ xs) - 1) xs ≡ xs = rest_whole y xs in
    rw (whole, e) (simp append_assoc refl)

pub weighted_end : (out : List ℕ) (xs : List (ℕ × Belief)) (i : ℕ) → length xs ≤ i → out ++ more_weighted_text (weighted_trees (map weighted_tree (drop i xs))) ≡ out ++ 41 ∷ []
unfolding belief_text beliefs_text more_beliefs_text weighted_text more_weighted_text
weighted_end out [] zero h = refl
weighted_end out [] (suc i) h = refl
weighted_end out (x ∷ xs) zero h = absurd (omega arith)
weighted_end out (x ∷ xs) (suc i) h = weighted_end out xs i (omega arith)

weighted_suc : (out : List ℕ) (xs : List (ℕ × Belief)) (i : ℕ) (x : (ℕ × Belief)) → i < length xs → x ≡ get_or xs i x → out ++ more_weighted_text (weighted_trees (map weighted_tree (drop i xs))) ≡ ((((out ++ 32 ∷ []) ++ weight_text x.0) ++ 32 ∷ []) ++ belief_text (belief_tree x.1)) ++ more_weighted_text (weighted_trees (map weighted_tree (drop (suc i) xs)))
unfolding belief_text beliefs_text more_beliefs_text weighted_text more_weighted_text
weighted_suc out [] i x h e = absurd (omega arith)
weighted_suc out (y ∷ xs) zero x h e = rw e (simp append_assoc refl)
weighted_suc out (y ∷ xs) (suc i) x h e = weighted_suc out xs i x (omega arith) e

pub weighted_at : (out : List ℕ) (xs : List (ℕ × Belief)) (i : ℕ) (x : (ℕ × Belief)) → i < length xs → x ≡ get_or xs i x → ((((out ++ 32 ∷ []) ++ weight_text x.0) ++ 32 ∷ []) ++ belief_text (belief_tree x.1)) ++ more_weighted_text (weighted_trees (map weighted_tree (drop (i + 1) xs))) ≡ out ++ more_weighted_text (weighted_trees (map weighted_tree (drop i xs)))
weighted_at out xs i x h e = rw add-one (sym (weighted_suc out xs i x h e))

pub top_none : (out : List ℕ) (xs : List Belief) → length xs ≡ 0 → out ++ top_text (map belief_tree xs) ≡ out
unfolding belief_text beliefs_text more_beliefs_text weighted_text more_weighted_text
top_none out [] h = append-nil out
top_none out (x ∷ xs) h = absurd (omega arith)

pub top_some : (out : List ℕ) (xs : List Belief) (x : Belief) → 0 < length xs → x ≡ get_or xs 0 x → out ++ top_text (map belief_tree xs) ≡ (out ++ belief_text (belief_tree x)) ++ more_top_text (map belief_tree (take (length xs - 1) (drop 1 xs)))
unfolding belief_text beliefs_text more_beliefs_text weighted_text more_weighted_text
top_some out [] x h e = absurd (omega arith)
top_some out (y ∷ xs) x h e =
    let whole : take (length (y ∷ xs) - 1) xs ≡ xs = rest_whole y xs in
    rw (whole, e) (simp append_assoc refl)

pub top_end : (out : List ℕ) (xs : List Belief) (i : ℕ) → length xs ≤ i → out ++ more_top_text (map belief_tree (drop i xs)) ≡ out
unfolding belief_text beliefs_text more_beliefs_text weighted_text more_weighted_text
top_end out [] zero h = append-nil out
top_end out [] (suc i) h = append-nil out
top_end out (x ∷ xs) zero h = absurd (omega arith)
top_end out (x ∷ xs) (suc i) h = top_end out xs i (omega arith)

top_suc : (out : List ℕ) (xs : List Belief) (i : ℕ) (x : Belief) → i < length xs → x ≡ get_or xs i x → out ++ more_top_text (map belief_tree (drop i xs)) ≡ ((out ++ 32 ∷ []) ++ belief_text (belief_tree x)) ++ more_top_text (map belief_tree (drop (suc i) xs))
unfolding belief_text beliefs_text more_beliefs_text weighted_text more_weighted_text
top_suc out [] i x h e = absurd (omega arith)
top_suc out (y ∷ xs) zero x h e = rw e (simp append_assoc refl)
top_suc out (y ∷ xs) (suc i) x h e = top_suc out xs i x (omega arith) e

pub top_at : (out : List ℕ) (xs : List Belief) (i : ℕ) (x : Belief) → i < length xs → x ≡ get_or xs i x → ((out ++ 32 ∷ []) ++ belief_text (belief_tree x)) ++ more_top_text (map belief_tree (drop (i + 1) xs)) ≡ out ++ more_top_text (map belief_tree (drop i xs))
top_at out xs i x h e = rw add-one (sym (top_suc out xs i x h e))

pub filters_none : (out inside : List ℕ) (xs : List Filter) → length xs ≡ 0 → out ++ filters_text (map filter_tree xs) inside ≡ out ++ inside
filters_none out inside [] h = refl
filters_none out inside (x ∷ xs) h = absurd (omega arith)

pub filters_some : (out inside : List ℕ) (xs : List Filter) (x : Filter) → 0 < length xs → x ≡ get_or xs 0 x → out ++ filters_text (map filter_tree xs) inside ≡ ((out ++ filter_start (filter_tree x)) ++ filters_text (map filter_tree (take (length xs - 1) (drop 1 xs))) inside) ++ 41 ∷ []
filters_some out inside [] x h e = absurd (omega arith)
filters_some out inside (y ∷ xs) x h e =
    let whole : take (length (y ∷ xs) - 1) xs ≡ xs = rest_whole y xs in
    rw (whole, e) (simp append_assoc refl)

pub prefix_len_within : (p : ℕ → Bool) (xs : List ℕ) → prefix_len p xs ≤ length xs
prefix_len_within p xs = prefix_len-le-length p xs
