-- Queries as contracts see them: the plain tree that a query stands for, and its bounds.
use Rattle.std.specs.Prelude.{ℕ, ◌+◌, ◌≤◌, ◌≡◌, max, Bool, true, false, ◌&&◌, nat_lt, List, [], ◌∷◌, Option, None, Some, map}
use Rattle.ri_base.specs.Text.{is_name}
use Rattle.ri_base.specs.Expression as expr
use Rattle.ri_base.specs.Expression.{ExprTree, expr_tree, is_width}
use Rattle.ri_base.specs.declared.belief.Belief.{Belief, Combine', Weight', Max', Prior, Leaf, Row_of-Belief, end_of-Belief, more_of-Belief, Row_of-Belief-Weight-0-2, end_of-Belief-Weight-0-2, more_of-Belief-Weight-0-2}
use Rattle.ri_base.specs.declared.query.Filter.{Filter}
use Rattle.ri_base.specs.declared.query.Range.{Range}
use Rattle.ri_base.specs.declared.query.Range.TheVariants as range
use Rattle.ri_base.specs.declared.limits.TheConstants.{MAX_QUERY_DEPTH, MAX_QUERY_NODES}

mutual
  pub data BeliefTree : Type 0 where
    combine : BeliefTrees → BeliefTree
    weight : WeightedTrees → BeliefTree
    greatest : BeliefTrees → BeliefTree
    prior : List ℕ → BeliefTree
    leaf : ExprTree → Option (List ℕ) → BeliefTree

  pub data BeliefTrees : Type 0 where
    none : BeliefTrees
    more : BeliefTree → BeliefTrees → BeliefTrees

  -- each with its weight, in billionths
  pub data WeightedTrees : Type 0 where
    none_weighted : WeightedTrees
    more_weighted : ℕ → BeliefTree → WeightedTrees → WeightedTrees

unfoldable mutual
  pub belief_tree : Belief → BeliefTree
  belief_tree (Combine' shape all) = combine (row all)
  belief_tree (Weight' shape all) = weight (weighted_row all)
  belief_tree (Max' shape all) = greatest (row all)
  belief_tree (Prior f) = prior f
  belief_tree (Leaf x context) = leaf (expr_tree x) context

  pub row : {m : _} → Row_of-Belief m → BeliefTrees
  row end_of-Belief = none
  row (more_of-Belief x rest) = more (belief_tree x) (row rest)

  pub weighted_row : {m : _} → Row_of-Belief-Weight-0-2 m → WeightedTrees
  weighted_row end_of-Belief-Weight-0-2 = none_weighted
  weighted_row (more_of-Belief-Weight-0-2 w x rest) = more_weighted w (belief_tree x) (weighted_row rest)

-- a weight and a belief
abbrev pub weighted_tree : ℕ × Belief → ℕ × BeliefTree
weighted_tree x = (x.0, belief_tree x.1)

-- the trees of a list, as the arguments of an operator
abbrev pub belief_trees : List BeliefTree → BeliefTrees
belief_trees [] = none
belief_trees (x ∷ xs) = more x (belief_trees xs)

abbrev pub weighted_trees : List (ℕ × BeliefTree) → WeightedTrees
weighted_trees [] = none_weighted
weighted_trees (x ∷ xs) = more_weighted x.0 x.1 (weighted_trees xs)

-- what the documents must have (keep), or must not have
pub record FilterTree : Type 0 where
  pub keep : Bool
  pub expr : ExprTree

pub record QueryTree : Type 0 where
  -- from the outermost inwards
  pub filters : List FilterTree
  pub range : Range
  pub beliefs : List BeliefTree

abbrev pub filter_tree : Filter → FilterTree
filter_tree f = record { keep = f.keep; expr = expr_tree f.expr }

abbrev pub query_tree : List Filter → Range → List Belief → QueryTree
query_tree filters range beliefs = record { filters = map filter_tree filters; range = range; beliefs = map belief_tree beliefs }

-- how many operators stand one inside the other
unfoldable mutual
  pub depth : BeliefTree → ℕ
  depth (combine xs) = 1 + depths xs
  depth (weight xs) = 1 + weighted_depths xs
  depth (greatest xs) = 1 + depths xs
  depth (prior f) = 1
  depth (leaf x context) = expr.depth x

  pub depths : BeliefTrees → ℕ
  depths none = 0
  depths (more x xs) = max (depth x) (depths xs)

  pub weighted_depths : WeightedTrees → ℕ
  weighted_depths none_weighted = 0
  weighted_depths (more_weighted w x xs) = max (depth x) (weighted_depths xs)

-- how many nodes there are: operators and terms
unfoldable mutual
  pub nodes : BeliefTree → ℕ
  nodes (combine xs) = 1 + all_nodes xs
  nodes (weight xs) = 1 + weighted_nodes xs
  nodes (greatest xs) = 1 + all_nodes xs
  nodes (prior f) = 1
  nodes (leaf x context) = expr.nodes x

  pub all_nodes : BeliefTrees → ℕ
  all_nodes none = 0
  all_nodes (more x xs) = nodes x + all_nodes xs

  pub weighted_nodes : WeightedTrees → ℕ
  weighted_nodes none_weighted = 0
  weighted_nodes (more_weighted w x xs) = nodes x + weighted_nodes xs

-- six digits before the point and nine behind it, in billionths
abbrev pub is_weight : ℕ → Bool
is_weight w = nat_lt w 1000000000000000

abbrev pub is_context : Option (List ℕ) → Bool
is_context None = true
is_context (Some f) = is_name f

-- numbers and weights in their range, and at least one argument an operator
unfoldable mutual
  pub is_sound : BeliefTree → Bool
  is_sound (combine xs) = are_arguments xs
  is_sound (weight xs) = are_weighted_arguments xs
  is_sound (greatest xs) = are_arguments xs
  is_sound (prior f) = is_name f
  is_sound (leaf x context) = expr.is_sound x && is_context context

  pub are_arguments : BeliefTrees → Bool
  are_arguments none = false
  are_arguments (more x xs) = is_sound x && are_sound xs

  pub are_sound : BeliefTrees → Bool
  are_sound none = true
  are_sound (more x xs) = is_sound x && are_sound xs

  pub are_weighted_arguments : WeightedTrees → Bool
  are_weighted_arguments none_weighted = false
  are_weighted_arguments (more_weighted w x xs) = is_weight w && is_sound x && are_weighted_sound xs

  pub are_weighted_sound : WeightedTrees → Bool
  are_weighted_sound none_weighted = true
  are_weighted_sound (more_weighted w x xs) = is_weight w && is_sound x && are_weighted_sound xs

-- a window is an operator round the beliefs
abbrev pub window_count : Range → ℕ
window_count range.Whole = 0
window_count (range.Field f) = 1
window_count (range.Passages width every) = 1

abbrev pub is_range : Range → Bool
is_range range.Whole = true
is_range (range.Field f) = is_name f
is_range (range.Passages width every) = is_width width && is_width every

-- each filter is an operator round its expression and all that follows
abbrev pub depth_in_filters : List FilterTree → ℕ → ℕ
depth_in_filters [] inside = inside
depth_in_filters (f ∷ filters) inside = 1 + max (expr.depth f.expr) (depth_in_filters filters inside)

abbrev pub nodes_in_filters : List FilterTree → ℕ
nodes_in_filters [] = 0
nodes_in_filters (f ∷ filters) = 1 + expr.nodes f.expr + nodes_in_filters filters

abbrev pub are_filters : List FilterTree → Bool
are_filters [] = true
are_filters (f ∷ filters) = expr.is_sound f.expr && are_filters filters

-- one belief alone stands inside a filter, unless a window holds several
abbrev pub is_body : List FilterTree → Range → List BeliefTree → Bool
is_body filters range [] = false
is_body filters range (x ∷ []) = true
is_body [] range (x ∷ y ∷ xs) = true
is_body (f ∷ filters) range.Whole (x ∷ y ∷ xs) = false
is_body (f ∷ filters) (range.Field g) (x ∷ y ∷ xs) = true
is_body (f ∷ filters) (range.Passages width every) (x ∷ y ∷ xs) = true

abbrev pub query_depth : QueryTree → ℕ
query_depth q = depth_in_filters q.filters (window_count q.range + depths (belief_trees q.beliefs))

abbrev pub query_nodes : QueryTree → ℕ
query_nodes q = nodes_in_filters q.filters + (window_count q.range + all_nodes (belief_trees q.beliefs))

abbrev pub is_sound_query : QueryTree → Bool
is_sound_query q =
    are_filters q.filters && is_range q.range && are_sound (belief_trees q.beliefs) && is_body q.filters q.range q.beliefs

-- the bounds of every query
pub record IsBoundedQuery (q : QueryTree) : Type 0 where
  pub shallow : query_depth q ≤ MAX_QUERY_DEPTH
  pub few : query_nodes q ≤ MAX_QUERY_NODES
  pub sound : is_sound_query q ≡ true
