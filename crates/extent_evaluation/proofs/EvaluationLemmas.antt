-- the extents of an operator, of the lists of its arguments
use Rattle.std.proofs.Common.{◌≡◌, ℕ, zero, suc, ◌+◌, ◌<◌, List, [], ◌∷◌, ◌++◌, filter, map, Vec, Box, Global, add-one, arith, length, get_or, take}
use Rattle.std.specs.List.{AllZip}
use Rattle.std.specs.Prelude.{Result, Ok, Err, IfOk, IsOkAnd}
use Rattle.field_extents.specs.Fields.{lies_in_some}
use Rattle.ri_base.specs.Documents.{Document, Field}
use Rattle.ri_base.specs.Expression.{ExprTree, expr_tree, expr_trees, any, band, in_field, ordered, syn, unordered}
use Rattle.ri_base.specs.Pair.{Pair}
use Rattle.ri_base.specs.declared.expression.ExtentExpr.{ExtentExpr, Any, Ordered, Unordered, Syn, Band, InField}
use Rattle.ri_base.proofs.ExpressionLemmas.{expr_tree-Any, expr_tree-Ordered, expr_tree-Unordered, expr_tree-Syn, expr_tree-Band, expr_tree-InField}
use Rattle.extent_lists.specs.Extents.{Ext, Exts, IsField}
use Rattle.extent_lists.specs.Operators.{HasEach, IsChain, IsInSome, IsLeastEnd, IsWindow}
use Rattle.extent_lists.specs.Rows.{Lists, sets}
use Rattle.extent_evaluation.proofs.BandLemmas.{IsWhole}
use Rattle.extent_evaluation.proofs.InsideLemmas.{Lists-inside}
use Rattle.extent_lists.proofs.SameLemmas.{AreWithin, HasEach-within, IsInSome-within, Lists-chain_same, Lists-same, Lists-window_same}

-- each tree with the list of its extents
abbrev pub AreTreesListed : Document → List ExprTree → List (List Pair) → Type 0
AreTreesListed d ts ls = AllZip (λ t xs. Lists (Ext t d) xs) ts ls

sets-only : (d : Document) (ts : List ExprTree) (ls : List (List Pair)) → AreTreesListed d ts ls → AreWithin (sets ls) (Exts (expr_trees ts) d)
unfolding Exts
sets-only d [] [] h = tt
sets-only d [] (l ∷ ls) h = absurd h
sets-only d (t ∷ ts) [] h = absurd h
sets-only d (t ∷ ts) (l ∷ ls) h = (h.0.only, sets-only d ts ls h.1)

sets-all : (d : Document) (ts : List ExprTree) (ls : List (List Pair)) → AreTreesListed d ts ls → AreWithin (Exts (expr_trees ts) d) (sets ls)
unfolding Exts
sets-all d [] [] h = tt
sets-all d [] (l ∷ ls) h = absurd h
sets-all d (t ∷ ts) [] h = absurd h
sets-all d (t ∷ ts) (l ∷ ls) h = (h.0.all, sets-all d ts ls h.1)

module _ (d : Document) (ts : List ExprTree) (ls : List (List Pair)) (v : List Pair) (h : AreTreesListed d ts ls) where
  lists_ordered : (n : ℕ) → Lists (IsLeastEnd (IsChain n (sets ls))) v → Lists (Ext (ordered n (expr_trees ts)) d) v
  unfolding Ext
  lists_ordered n l = Lists-chain_same (sets ls) (Exts (expr_trees ts) d) (sets-only d ts ls h) (sets-all d ts ls h) n v l

  lists_unordered : (n : ℕ) → Lists (IsLeastEnd (IsWindow n (sets ls))) v → Lists (Ext (unordered n (expr_trees ts)) d) v
  unfolding Ext
  lists_unordered n l = Lists-window_same (sets ls) (Exts (expr_trees ts) d) (sets-only d ts ls h) (sets-all d ts ls h) n v l

  lists_syn : Lists (IsInSome (sets ls)) v → Lists (Ext (syn (expr_trees ts)) d) v
  unfolding Ext
  lists_syn l = Lists-same (IsInSome (sets ls)) (IsInSome (Exts (expr_trees ts) d)) v
      (IsInSome-within (sets ls) (Exts (expr_trees ts) d) (sets-only d ts ls h))
      (IsInSome-within (Exts (expr_trees ts) d) (sets ls) (sets-all d ts ls h))
      l

  lists_band : Lists (IsWhole (length d.tokens) ls) v → Lists (Ext (band (expr_trees ts)) d) v
  unfolding Ext
  lists_band l = Lists-same (IsWhole (length d.tokens) ls) (λ b e. (b ≡ 0) × (e ≡ length d.tokens) × (b < e) × HasEach (Exts (expr_trees ts) d)) v
      (λ b e k. (k.0, k.1, k.2, HasEach-within (sets ls) (Exts (expr_trees ts) d) (sets-only d ts ls h) k.3))
      (λ b e k. (k.0, k.1, k.2, HasEach-within (Exts (expr_trees ts) d) (sets ls) (sets-all d ts ls h) k.3))
      l

lists_any : (d : Document) (f : List ℕ) (v : List Pair) → Lists (IsField d.fields f) v → Lists (Ext (any f) d) v
unfolding Ext
lists_any d f v l = l

lists_in_field : (d : Document) (t : ExprTree) (f : List ℕ) (xs v : List Pair) → Lists (Ext t d) xs → v ≡ filter (lies_in_some d.fields f) xs → Lists (Ext (in_field t f) d) v
unfolding Ext
lists_in_field d t f xs v l is = Lists-inside (Ext t d) d.fields f xs v l is

-- each expression with the list of its extents
abbrev pub AreListed : Document → List ExtentExpr → List (List Pair) → Type 0
AreListed d xs ls = AreTreesListed d (map expr_tree xs) ls

-- the variants of an expression
module _ (x : ExtentExpr) (d : Document) where
  pub Lists-of_ordered : (n : ℕ) (a : Vec ExtentExpr Global) (ls : List (List Pair)) (v : List Pair) → x ≡ Ordered n a → AreListed d a.items ls → Lists (IsLeastEnd (IsChain n (sets ls))) v → Lists (Ext (expr_tree x) d) v
  Lists-of_ordered n a ls v e h l = rw (e, expr_tree-Ordered) (lists_ordered d (map expr_tree a.items) ls v h n l)

  pub Lists-of_unordered : (n : ℕ) (a : Vec ExtentExpr Global) (ls : List (List Pair)) (v : List Pair) → x ≡ Unordered n a → AreListed d a.items ls → Lists (IsLeastEnd (IsWindow n (sets ls))) v → Lists (Ext (expr_tree x) d) v
  Lists-of_unordered n a ls v e h l = rw (e, expr_tree-Unordered) (lists_unordered d (map expr_tree a.items) ls v h n l)

  pub Lists-of_syn : (a : Vec ExtentExpr Global) (ls : List (List Pair)) (v : List Pair) → x ≡ Syn a → AreListed d a.items ls → Lists (IsInSome (sets ls)) v → Lists (Ext (expr_tree x) d) v
  Lists-of_syn a ls v e h l = rw (e, expr_tree-Syn) (lists_syn d (map expr_tree a.items) ls v h l)

  pub Lists-of_band : (a : Vec ExtentExpr Global) (ls : List (List Pair)) (n : ℕ) (v : List Pair) → x ≡ Band a → AreListed d a.items ls → n ≡ length d.tokens → Lists (IsWhole n ls) v → Lists (Ext (expr_tree x) d) v
  Lists-of_band a ls n v e h is l = rw (e, expr_tree-Band) (lists_band d (map expr_tree a.items) ls v h (rw is at l))

  pub Lists-of_any : (f : List ℕ) (fs : List Field) (v : List Pair) → x ≡ Any f → fs ≡ d.fields → Lists (IsField fs f) v → Lists (Ext (expr_tree x) d) v
  Lists-of_any f fs v e is l = rw (e, expr_tree-Any) (lists_any d f v (rw is at l))

  pub Lists-of_in_field : (b : Box ExtentExpr Global) (f : List ℕ) (fs : List Field) (xs v : List Pair) → x ≡ InField b f → fs ≡ d.fields → Lists (Ext (expr_tree b.value) d) xs → v ≡ filter (lies_in_some fs f) xs → Lists (Ext (expr_tree x) d) v
  Lists-of_in_field b f fs xs v e is l k = rw (e, expr_tree-InField) (lists_in_field d (expr_tree b.value) f xs v l (rw is at k))

-- what follows for the extents that were found follows for those that are given
pub found-gives : {E F : Type 0} (P Q : List Pair → Type 0) (found : Result (Vec Pair Global) E) (given : Result (List Pair) F) → ((xs : List Pair) → P xs → Q xs) → IfOk found (λ v. P v.items) → IfOk given (λ xs. IsOkAnd found (λ v. v.items ≡ xs)) → IfOk given Q
found-gives P Q (Ok v) (Ok xs) f p e = f xs (rw e at p)
found-gives P Q (Err fault) (Ok xs) f p e = absurd e
found-gives P Q found (Err fault) f p e = tt

listed_suc : (d : Document) (xs : List ExtentExpr) (i : ℕ) (x : ExtentExpr) (ls : List (List Pair)) (l : List Pair) → i < length xs → x ≡ get_or xs i x → AreListed d (take i xs) ls → Lists (Ext (expr_tree x) d) l → AreListed d (take (suc i) xs) (ls ++ l ∷ [])
listed_suc d [] i x ls l lt e h k = absurd (omega arith)
listed_suc d (y ∷ ys) zero x [] l lt e h k = (rw e at k, tt)
listed_suc d (y ∷ ys) zero x (m ∷ ls) l lt e h k = absurd h
listed_suc d (y ∷ ys) (suc i) x [] l lt e h k = absurd h
listed_suc d (y ∷ ys) (suc i) x (m ∷ ls) l lt e h k = (h.0, listed_suc d ys i x ls l (omega arith) e h.1 k)

-- one expression more
pub AreListed-more : (d : Document) (xs : List ExtentExpr) (i : ℕ) (x : ExtentExpr) (ls : List (List Pair)) (l : List Pair) → i < length xs → x ≡ get_or xs i x → AreListed d (take i xs) ls → Lists (Ext (expr_tree x) d) l → AreListed d (take (i + 1) xs) (ls ++ l ∷ [])
AreListed-more d xs i x ls l lt e h k = rw add-one (listed_suc d xs i x ls l lt e h k)
