-- The texts of expressions, variant by variant, behind what was written before.
use native.Mathlib.Numerals.{unary_clauses}
use Rattle.std.proofs.Common.{◌≡◌, ℕ, List, [], ◌∷◌, ◌++◌, map, Vec, Box, Global, refl, sym, ap, append_assoc, length, drop, take, ◌-◌, get_or, ◌<◌, ◌≤◌, ◌+◌, zero, suc, arith, add-one}
use Rattle.std.specs.Prelude.{codes}
use Rattle.std.specs.Fmt.{decimal}
use Rattle.ri_base.specs.declared.expression.ExtentExpr.{ExtentExpr, Word, Any, Ordered, Unordered, Syn, Band, InField}
use Rattle.ri_base.specs.Expression.{expr_tree, expr_trees}
use Rattle.query_printer.specs.Printed.{doubled, printed, printed_all, printed_more}
use Rattle.ri_base.proofs.ExpressionLemmas.{expr_tree-Word, expr_tree-Any, expr_tree-Syn, expr_tree-Band, expr_tree-Ordered, expr_tree-Unordered, expr_tree-InField}

module _ (out : List ℕ) where
  pub text-Word : (t : List ℕ) → out ++ printed (expr_tree (Word t)) ≡ out ++ 34 ∷ (doubled t ++ 34 ∷ [])
  unfolding printed printed_all printed_more
  text-Word t = rw (expr_tree-Word t) refl

  pub text-Any : (f : List ℕ) → out ++ printed (expr_tree (Any f)) ≡ (out ++ codes "#any:") ++ f
  unfolding printed printed_all printed_more
  text-Any f = rw (expr_tree-Any f) (sym (append_assoc out (codes "#any:") f))

  pub text-Syn : (v : Vec ExtentExpr Global) → out ++ printed (expr_tree (Syn v)) ≡ (out ++ codes "#syn(") ++ printed_all (expr_trees (map expr_tree v.items))
  unfolding printed printed_all printed_more
  text-Syn v = rw (expr_tree-Syn v) (sym (append_assoc out (codes "#syn(") _))

  pub text-Band : (v : Vec ExtentExpr Global) → out ++ printed (expr_tree (Band v)) ≡ (out ++ codes "#band(") ++ printed_all (expr_trees (map expr_tree v.items))
  unfolding printed printed_all printed_more
  text-Band v = rw (expr_tree-Band v) (sym (append_assoc out (codes "#band(") _))

  pub text-Ordered : (n : ℕ) (v : Vec ExtentExpr Global) → out ++ printed (expr_tree (Ordered n v)) ≡ (((out ++ codes "#") ++ decimal n) ++ codes "(") ++ printed_all (expr_trees (map expr_tree v.items))
  unfolding printed printed_all printed_more
  text-Ordered n v = rw (expr_tree-Ordered n v) (simp append_assoc refl)

  pub text-Unordered : (n : ℕ) (v : Vec ExtentExpr Global) → out ++ printed (expr_tree (Unordered n v)) ≡ (((out ++ codes "#uw") ++ decimal n) ++ codes "(") ++ printed_all (expr_trees (map expr_tree v.items))
  unfolding printed printed_all printed_more
  text-Unordered n v = rw (expr_tree-Unordered n v) (simp append_assoc refl)

  pub text-InField : (b : Box ExtentExpr Global) (f : List ℕ) → out ++ printed (expr_tree (InField b f)) ≡ ((out ++ printed (expr_tree b.value)) ++ codes ".") ++ f
  unfolding printed printed_all printed_more
  text-InField b f = rw (expr_tree-InField b f) (simp append_assoc refl)

pub ruleset texts = (text-Word, text-Any, text-Syn, text-Band, text-Ordered, text-Unordered, text-InField)

pub all_none : (out : List ℕ) (xs : List ExtentExpr) → length xs ≡ 0 → out ++ printed_all (expr_trees (map expr_tree xs)) ≡ out ++ 41 ∷ []
unfolding printed printed_all printed_more
all_none out [] h = refl
all_none out (x ∷ xs) h = absurd (omega arith)

take_all : (xs : List ExtentExpr) → take (length xs) xs ≡ xs
take_all [] = refl
take_all (x ∷ xs) = ap (λ ys. x ∷ ys) (take_all xs)

rest_whole : (y : ExtentExpr) (xs : List ExtentExpr) → take (length (y ∷ xs) - 1) xs ≡ xs
rest_whole y xs = simp unary_clauses (take_all xs)

pub all_some : (out : List ℕ) (xs : List ExtentExpr) (x : ExtentExpr) → 0 < length xs → x ≡ get_or xs 0 x → out ++ printed_all (expr_trees (map expr_tree xs)) ≡ (out ++ printed (expr_tree x)) ++ printed_more (expr_trees (map expr_tree (take (length xs - 1) (drop 1 xs))))
unfolding printed printed_all printed_more
all_some out [] x h e = absurd (omega arith)
all_some out (y ∷ xs) x h e =
    let whole : take (length (y ∷ xs) - 1) xs ≡ xs = rest_whole y xs in
    rw (whole, e) (simp append_assoc refl)

pub more_end : (out : List ℕ) (xs : List ExtentExpr) (i : ℕ) → length xs ≤ i → out ++ printed_more (expr_trees (map expr_tree (drop i xs))) ≡ out ++ 41 ∷ []
unfolding printed printed_all printed_more
more_end out [] zero h = refl
more_end out [] (suc i) h = refl
more_end out (x ∷ xs) zero h = absurd (omega arith)
more_end out (x ∷ xs) (suc i) h = more_end out xs i (omega arith)

at_suc : (out : List ℕ) (xs : List ExtentExpr) (i : ℕ) (x : ExtentExpr) → i < length xs → x ≡ get_or xs i x → out ++ printed_more (expr_trees (map expr_tree (drop i xs))) ≡ ((out ++ 32 ∷ []) ++ printed (expr_tree x)) ++ printed_more (expr_trees (map expr_tree (drop (suc i) xs)))
unfolding printed printed_all printed_more
at_suc out [] i x h e = absurd (omega arith)
at_suc out (y ∷ xs) zero x h e = rw e (simp append_assoc refl)
at_suc out (y ∷ xs) (suc i) x h e = at_suc out xs i x (omega arith) e

pub more_at : (out : List ℕ) (xs : List ExtentExpr) (i : ℕ) (x : ExtentExpr) → i < length xs → x ≡ get_or xs i x → ((out ++ 32 ∷ []) ++ printed (expr_tree x)) ++ printed_more (expr_trees (map expr_tree (drop (i + 1) xs))) ≡ out ++ printed_more (expr_trees (map expr_tree (drop i xs)))
more_at out xs i x h e = rw add-one (sym (at_suc out xs i x h e))
