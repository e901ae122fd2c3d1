-- Expressions as contracts see them: the plain tree that an expression stands for, and its bounds.
use Rattle.std.specs.Prelude.{ℕ, ◌+◌, ◌≤◌, ◌≡◌, ⊤, max, Bool, true, false, ◌&&◌, nat_le, not, List, [], ◌∷◌}
use Rattle.ri_base.specs.Text.{is_term, is_name}
use Rattle.ri_base.specs.declared.expression.ExtentExpr.{ExtentExpr, Word, Any, Ordered', Unordered', Syn', Band', InField', Row_of-ExtentExpr, end_of-ExtentExpr, more_of-ExtentExpr}
use Rattle.ri_base.specs.declared.limits.TheConstants.{MAX_QUERY_DEPTH, MAX_QUERY_NODES, MAX_WIDTH}

mutual
  pub data ExprTree : Type 0 where
    word : List ℕ → ExprTree
    ordered : ℕ → ExprTrees → ExprTree
    unordered : ℕ → ExprTrees → ExprTree
    syn : ExprTrees → ExprTree
    any : List ℕ → ExprTree
    band : ExprTrees → ExprTree
    in_field : ExprTree → List ℕ → ExprTree

  pub data ExprTrees : Type 0 where
    none : ExprTrees
    more : ExprTree → ExprTrees → ExprTrees

unfoldable mutual
  pub expr_tree : ExtentExpr → ExprTree
  expr_tree (Word t) = word t
  expr_tree (Ordered' n shape all) = ordered n (row all)
  expr_tree (Unordered' n shape all) = unordered n (row all)
  expr_tree (Syn' shape all) = syn (row all)
  expr_tree (Any f) = any f
  expr_tree (Band' shape all) = band (row all)
  expr_tree (InField' p x f) = in_field (expr_tree x) f

  pub row : {m : _} → Row_of-ExtentExpr m → ExprTrees
  row end_of-ExtentExpr = none
  row (more_of-ExtentExpr x rest) = more (expr_tree x) (row rest)

-- the trees of a list, as the arguments of an operator
abbrev pub expr_trees : List ExprTree → ExprTrees
expr_trees [] = none
expr_trees (x ∷ xs) = more x (expr_trees xs)

-- how many operators stand one inside the other; a field's name is an operator where it stands for itself
unfoldable mutual
  pub depth : ExprTree → ℕ
  depth (word t) = 0
  depth (ordered n xs) = 1 + depths xs
  depth (unordered n xs) = 1 + depths xs
  depth (syn xs) = 1 + depths xs
  depth (any f) = 1
  depth (band xs) = 1 + depths xs
  depth (in_field x f) = depth x

  pub depths : ExprTrees → ℕ
  depths none = 0
  depths (more x xs) = max (depth x) (depths xs)

-- how many nodes there are: operators and terms
unfoldable mutual
  pub nodes : ExprTree → ℕ
  nodes (word t) = 1
  nodes (ordered n xs) = 1 + all_nodes xs
  nodes (unordered n xs) = 1 + all_nodes xs
  nodes (syn xs) = 1 + all_nodes xs
  nodes (any f) = 1
  nodes (band xs) = 1 + all_nodes xs
  nodes (in_field x f) = nodes x

  pub all_nodes : ExprTrees → ℕ
  all_nodes none = 0
  all_nodes (more x xs) = nodes x + all_nodes xs

-- the numbers of windows and passages
abbrev pub is_width : ℕ → Bool
is_width n = nat_le 1 n && nat_le n MAX_WIDTH

abbrev pub is_in_field : ExprTree → Bool
is_in_field (in_field x f) = true
is_in_field (word t) = false
is_in_field (ordered n xs) = false
is_in_field (unordered n xs) = false
is_in_field (syn xs) = false
is_in_field (any f) = false
is_in_field (band xs) = false

-- numbers in their range, at least one argument an operator, and at most one field behind each part
unfoldable mutual
  pub is_sound : ExprTree → Bool
  is_sound (word t) = is_term t
  is_sound (ordered n xs) = is_width n && are_arguments xs
  is_sound (unordered n xs) = is_width n && are_arguments xs
  is_sound (syn xs) = are_arguments xs
  is_sound (any f) = is_name f
  is_sound (band xs) = are_arguments xs
  is_sound (in_field x f) = not (is_in_field x) && is_sound x && is_name f

  pub are_arguments : ExprTrees → Bool
  are_arguments none = false
  are_arguments (more x xs) = is_sound x && are_sound xs

  pub are_sound : ExprTrees → Bool
  are_sound none = true
  are_sound (more x xs) = is_sound x && are_sound xs

-- the bounds of every expression that was read
pub record IsBounded (x : ExprTree) : Type 0 where
  pub shallow : depth x ≤ MAX_QUERY_DEPTH
  pub few : nodes x ≤ MAX_QUERY_NODES
  pub sound : is_sound x ≡ true

-- it is so of each term that stands in the expression
unfoldable mutual
  pub EachWord : (List ℕ → Type 0) → ExprTree → Type 0
  EachWord P (word t) = P t
  EachWord P (ordered n xs) = EachWordOf P xs
  EachWord P (unordered n xs) = EachWordOf P xs
  EachWord P (syn xs) = EachWordOf P xs
  EachWord P (any f) = ⊤
  EachWord P (band xs) = EachWordOf P xs
  EachWord P (in_field x f) = EachWord P x

  pub EachWordOf : (List ℕ → Type 0) → ExprTrees → Type 0
  EachWordOf P none = ⊤
  EachWordOf P (more x xs) = EachWord P x × EachWordOf P xs
