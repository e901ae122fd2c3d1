-- What is said of each term of an expression.
use Rattle.std.proofs.Common.{◌≡◌, ℕ, zero, suc, ◌+◌, ◌<◌, List, [], ◌∷◌, Vec, Box, Global, add-one, arith, length, get_or, map, take}
use Rattle.ri_base.specs.Expression.{EachWord, EachWordOf, ExprTree, ExprTrees, expr_tree, expr_trees, any, band, in_field, more, none, ordered, syn, unordered, word}
use Rattle.ri_base.specs.declared.expression.ExtentExpr.{ExtentExpr, Any, Ordered, Unordered, Syn, Band, InField, Word}
use Rattle.ri_base.proofs.ExpressionLemmas.{expr_tree-Word, expr_tree-Any, expr_tree-Ordered, expr_tree-Unordered, expr_tree-Syn, expr_tree-Band, expr_tree-InField}

module _ (P Q : List ℕ → Type 0) (weaker : (t : List ℕ) → P t → Q t) where
  mutual
    unfolding EachWord EachWordOf

    pub EachWord-weaker : (x : ExprTree) → EachWord P x → EachWord Q x
    EachWord-weaker (word t) h = weaker t h
    EachWord-weaker (ordered n xs) h = EachWordOf-weaker xs h
    EachWord-weaker (unordered n xs) h = EachWordOf-weaker xs h
    EachWord-weaker (syn xs) h = EachWordOf-weaker xs h
    EachWord-weaker (any f) h = tt
    EachWord-weaker (band xs) h = EachWordOf-weaker xs h
    EachWord-weaker (in_field x f) h = EachWord-weaker x h

    pub EachWordOf-weaker : (xs : ExprTrees) → EachWordOf P xs → EachWordOf Q xs
    EachWordOf-weaker none h = tt
    EachWordOf-weaker (more x xs) h = (EachWord-weaker x h.0, EachWordOf-weaker xs h.1)

-- ---- the variants of an expression

each_word : (P : List ℕ → Type 0) (t : List ℕ) → P t → EachWord P (word t)
unfolding EachWord
each_word P t h = h

each_any : (P : List ℕ → Type 0) (f : List ℕ) → EachWord P (any f)
unfolding EachWord
each_any P f = tt

each_ordered : (P : List ℕ → Type 0) (n : ℕ) (xs : ExprTrees) → EachWordOf P xs → EachWord P (ordered n xs)
unfolding EachWord
each_ordered P n xs h = h

each_unordered : (P : List ℕ → Type 0) (n : ℕ) (xs : ExprTrees) → EachWordOf P xs → EachWord P (unordered n xs)
unfolding EachWord
each_unordered P n xs h = h

each_syn : (P : List ℕ → Type 0) (xs : ExprTrees) → EachWordOf P xs → EachWord P (syn xs)
unfolding EachWord
each_syn P xs h = h

each_band : (P : List ℕ → Type 0) (xs : ExprTrees) → EachWordOf P xs → EachWord P (band xs)
unfolding EachWord
each_band P xs h = h

each_in_field : (P : List ℕ → Type 0) (x : ExprTree) (f : List ℕ) → EachWord P x → EachWord P (in_field x f)
unfolding EachWord
each_in_field P x f h = h

module _ (P : List ℕ → Type 0) (x : ExtentExpr) where
  pub EachWord-of_word : (t : List ℕ) → x ≡ Word t → P t → EachWord P (expr_tree x)
  EachWord-of_word t e h = rw (e, expr_tree-Word) (each_word P t h)

  pub EachWord-of_any : (f : List ℕ) → x ≡ Any f → EachWord P (expr_tree x)
  EachWord-of_any f e = rw (e, expr_tree-Any) (each_any P f)

  pub EachWord-of_ordered : (n : ℕ) (a : Vec ExtentExpr Global) → x ≡ Ordered n a → EachWordOf P (expr_trees (map expr_tree a.items)) → EachWord P (expr_tree x)
  EachWord-of_ordered n a e h = rw (e, expr_tree-Ordered) (each_ordered P n (expr_trees (map expr_tree a.items)) h)

  pub EachWord-of_unordered : (n : ℕ) (a : Vec ExtentExpr Global) → x ≡ Unordered n a → EachWordOf P (expr_trees (map expr_tree a.items)) → EachWord P (expr_tree x)
  EachWord-of_unordered n a e h = rw (e, expr_tree-Unordered) (each_unordered P n (expr_trees (map expr_tree a.items)) h)

  pub EachWord-of_syn : (a : Vec ExtentExpr Global) → x ≡ Syn a → EachWordOf P (expr_trees (map expr_tree a.items)) → EachWord P (expr_tree x)
  EachWord-of_syn a e h = rw (e, expr_tree-Syn) (each_syn P (expr_trees (map expr_tree a.items)) h)

  pub EachWord-of_band : (a : Vec ExtentExpr Global) → x ≡ Band a → EachWordOf P (expr_trees (map expr_tree a.items)) → EachWord P (expr_tree x)
  EachWord-of_band a e h = rw (e, expr_tree-Band) (each_band P (expr_trees (map expr_tree a.items)) h)

  pub EachWord-of_in_field : (b : Box ExtentExpr Global) (f : List ℕ) → x ≡ InField b f → EachWord P (expr_tree b.value) → EachWord P (expr_tree x)
  EachWord-of_in_field b f e h = rw (e, expr_tree-InField) (each_in_field P (expr_tree b.value) f h)

-- ---- several expressions

pub EachWordOf-none : (P : List ℕ → Type 0) → EachWordOf P none
unfolding EachWordOf
EachWordOf-none P = tt

module _ (P : List ℕ → Type 0) where
  each_suc : (xs : List ExtentExpr) (i : ℕ) (x : ExtentExpr) → i < length xs → x ≡ get_or xs i x → EachWordOf P (expr_trees (map expr_tree (take i xs))) → EachWord P (expr_tree x)
      → EachWordOf P (expr_trees (map expr_tree (take (suc i) xs)))
  unfolding EachWordOf
  each_suc [] i x less e h k = absurd (omega (arith, less))
  each_suc (y ∷ ys) zero x less e h k = (rw e at k, tt)
  each_suc (y ∷ ys) (suc i) x less e h k = (h.0, each_suc ys i x (omega (arith, less)) e h.1 k)

  -- one expression more
  pub EachWordOf-more : (xs : List ExtentExpr) (i : ℕ) (x : ExtentExpr) → i < length xs → x ≡ get_or xs i x → EachWordOf P (expr_trees (map expr_tree (take i xs))) → EachWord P (expr_tree x)
      → EachWordOf P (expr_trees (map expr_tree (take (i + 1) xs)))
  EachWordOf-more xs i x less e h k = rw add-one (each_suc xs i x less e h k)
