-- Which fault is the first, and what a query without a fault keeps.
use Rattle.std.proofs.Common.{◌≡◌, ℕ, List, [], ◌∷◌, Option, None, Some, Ok, Err, length, ◌<◌, ◌≤◌, ◌+◌, ◌^◌, refl, arith, Bool, true, false}
use Rattle.std.specs.Prelude.{◌&&◌, not, nat_le, find, if◌then◌else◌}
use Rattle.std.specs.Option.{option_map}
use Rattle.std.proofs.lemmas.Bool.Decides.{nat_tests}
use Rattle.ri_base.specs.declared.query.Range.{Range}
use Rattle.ri_base.specs.Query as query
use Rattle.ri_base.specs.Query.{BeliefTree, BeliefTrees, FilterTree, QueryTree, IsBoundedQuery, belief_trees, depth_in_filters, nodes_in_filters, are_filters, is_range, is_body, window_count}
use Rattle.query_check.specs.declared.fault.CheckFault.{CheckFault}
use Rattle.query_check.specs.declared.fault.CheckFault.TheVariants.{NoWeight, NoLeaf, ScaleTooLarge, UnknownPrior, Memory}
use Rattle.query_check.specs.Check.{has_weights, have_weights, pruned, all_pruned, has_leaf, have_leaf, have_leaf_weighted, have_weights_weighted, weighted_priors, weighted_leaves, priors, all_priors, is_unknown, all_leaves, leaves_of, tree_from, first_fault, whole, checks}
use Rattle.query_check.specs.Kept.{IsChecked, IsWithinBounds}
use Rattle.query_check.specs.Leaves.{LeafTree, leaf_depths}
use Rattle.query_check.specs.Scale.{scale}
use Rattle.query_check.specs.Trees.{ScaledTree}
use Rattle.query_check.specs.Scaling.{IsTooLarge, Accepts}
use Rattle.query_check.proofs.Keeps.{tree_depth, tree_arguments, tree_below, test_at_most}
use Rattle.query_check.proofs.LeafBounds.{leaves_length, all_leaves_within}
use Rattle.query_check.proofs.Numbering.{tree_scaled}
use Rattle.query_check.proofs.Reduced.{tree_reduced, scale_positive}
use Rattle.query_check.proofs.Scales.{both_left, both_right}

test_above : (m n : ℕ) → n < m → nat_le m n ≡ false
test_above m n h = grind (arith, nat_tests)

module _ (names : List (List ℕ)) (xs : BeliefTrees) where
  pub no_weight : have_weights xs ≡ false → first_fault names (query.combine xs) ≡ Some NoWeight
  unfolding first_fault has_weights have_weights have_weights_weighted
  no_weight h = rw h refl

  pub no_leaf : have_weights xs ≡ true → have_leaf (all_pruned xs) ≡ false → first_fault names (query.combine xs) ≡ Some NoLeaf
  unfolding first_fault has_weights have_weights have_weights_weighted pruned has_leaf have_leaf have_leaf_weighted
  no_leaf h l = rw (h, l) refl

  pub too_large : have_weights xs ≡ true → have_leaf (all_pruned xs) ≡ true → 2 ^ 60 ≤ scale (tree_from 0 (pruned (query.combine xs))) → first_fault names (query.combine xs) ≡ Some ScaleTooLarge
  unfolding first_fault has_weights have_weights have_weights_weighted pruned has_leaf have_leaf have_leaf_weighted
  too_large h l e = rw (h, l, test_at_most (2 ^ 60) (scale (tree_from 0 (pruned (query.combine xs)))) e) refl

  pub unknown : have_weights xs ≡ true → have_leaf (all_pruned xs) ≡ true → scale (tree_from 0 (pruned (query.combine xs))) < 2 ^ 60 → first_fault names (query.combine xs) ≡ option_map UnknownPrior (find (is_unknown names) (all_priors xs))
  unfolding first_fault has_weights have_weights have_weights_weighted pruned has_leaf have_leaf have_leaf_weighted priors all_priors weighted_priors
  unknown h l e = rw (h, l, test_above (2 ^ 60) (scale (tree_from 0 (pruned (query.combine xs)))) e) refl

test_weights : (t s r : Bool) (o : Option CheckFault) → (if not t then Some NoWeight else if not s then Some NoLeaf else if r then Some ScaleTooLarge else o) ≡ None → (t ≡ true) × (r ≡ false)
test_weights false s r o h = absurd (cc)
test_weights true false r o h = absurd (cc)
test_weights true true true o h = absurd (cc)
test_weights true true false o h = (refl, refl)

below_of : (m n : ℕ) → nat_le m n ≡ false → n < m
below_of m n h = grind (arith, nat_tests)

pub no_fault : (names : List (List ℕ)) (x : BeliefTree) → first_fault names x ≡ None → (has_weights x ≡ true) × (scale (tree_from 0 (pruned x)) < 2 ^ 60)
unfolding first_fault
no_fault names x h =
    let tests = test_weights (has_weights x) (has_leaf (pruned x)) (nat_le (2 ^ 60) (scale (tree_from 0 (pruned x)))) _ h in
    (tests.0, below_of (2 ^ 60) (scale (tree_from 0 (pruned x))) tests.1)

pub positive : (x : BeliefTree) → query.is_sound x ≡ true → has_weights x ≡ true → 0 < scale (tree_from 0 (pruned x))
positive x s h = scale_positive (tree_from 0 (pruned x)) (tree_arguments 0 x s h) (tree_reduced 0 x h)

-- the beliefs of a bounded query as one `#combine`
body_sound : (filters : List FilterTree) (range : Range) (xs : List BeliefTree) → is_body filters range xs ≡ true → query.are_sound (belief_trees xs) ≡ true → query.is_sound (query.combine (belief_trees xs)) ≡ true
unfolding query.is_sound query.are_arguments query.are_sound query.are_weighted_arguments query.are_weighted_sound
body_sound filters range [] b s = absurd (cc)
body_sound filters range (x ∷ xs) b s = s

inside_filters : (filters : List FilterTree) (n : ℕ) → n ≤ depth_in_filters filters n
inside_filters [] n = omega arith
inside_filters (f ∷ filters) n = omega (arith, inside_filters filters n)

filters_rise : (filters : List FilterTree) (m n : ℕ) → m ≤ n → depth_in_filters filters m ≤ depth_in_filters filters n
filters_rise [] m n h = h
filters_rise (f ∷ filters) m n h = omega (arith, filters_rise filters m n h)

record BodyBounds (q : QueryTree) : Type 0 where
  filters : are_filters q.filters ≡ true
  range : is_range q.range ≡ true
  beliefs : query.are_sound (belief_trees q.beliefs) ≡ true
  body : is_body q.filters q.range q.beliefs ≡ true

body_bounds : (q : QueryTree) → query.is_sound_query q ≡ true → BodyBounds q
body_bounds q h =
    let abc = both_left (are_filters q.filters && is_range q.range && query.are_sound (belief_trees q.beliefs)) (is_body q.filters q.range q.beliefs) h in
    let ab = both_left (are_filters q.filters && is_range q.range) (query.are_sound (belief_trees q.beliefs)) abc in
    record {
      filters = both_left (are_filters q.filters) (is_range q.range) ab;
      range = both_right (are_filters q.filters) (is_range q.range) ab;
      beliefs = both_right (are_filters q.filters && is_range q.range) (query.are_sound (belief_trees q.beliefs)) abc;
      body = both_right (are_filters q.filters && is_range q.range && query.are_sound (belief_trees q.beliefs)) (is_body q.filters q.range q.beliefs) h;
    }

pub whole_sound : (q : QueryTree) → IsBoundedQuery q → query.is_sound (whole q) ≡ true
whole_sound q b =
    let s = body_bounds q b.sound in
    body_sound q.filters q.range q.beliefs s.body s.beliefs

pub whole_few : (q : QueryTree) → IsBoundedQuery q → query.nodes (whole q) ≤ 1001
unfolding query.nodes query.all_nodes query.weighted_nodes
whole_few q b = omega (arith, b.few)

whole_depth : (q : QueryTree) → IsBoundedQuery q → query.depth (whole q) ≤ 33
unfolding query.depth query.depths query.weighted_depths
whole_depth q b = omega (arith, b.shallow, inside_filters q.filters (window_count q.range + query.depths (belief_trees q.beliefs)))

pub whole_leaves : (names : List (List ℕ)) (q : QueryTree) → leaves_of names (pruned (whole q)) ≡ all_leaves names (all_pruned (belief_trees q.beliefs))
unfolding leaves_of all_leaves weighted_leaves pruned
whole_leaves names q = refl

leaves_bounds : (names : List (List ℕ)) (q : QueryTree) → length names ≤ 8 → IsBoundedQuery q → IsWithinBounds q.filters q.range (leaves_of names (pruned (whole q)))
leaves_bounds names q few b =
    let s = body_bounds q b.sound in
    let w = all_leaves_within names few (belief_trees q.beliefs) s.beliefs in
    let rise = filters_rise q.filters (window_count q.range + leaf_depths (all_leaves names (all_pruned (belief_trees q.beliefs)))) (window_count q.range + query.depths (belief_trees q.beliefs)) (omega (arith, w.shallow)) in
    rw (whole_leaves names q) (record {
      shallow = omega (arith, rise, b.shallow);
      few = omega (arith, w.few, b.few);
      sound_filters = s.filters;
      sound_range = s.range;
      sound_leaves = w.sound;
    })

-- a bounded query without a fault is checked
pub is_checked : (names : List (List ℕ)) (q : QueryTree) → length names ≤ 8 → IsBoundedQuery q → first_fault names (whole q) ≡ None
    → IsChecked q.filters q.range (leaves_of names (pruned (whole q))) (tree_from 0 (pruned (whole q))) (scale (tree_from 0 (pruned (whole q))))
is_checked names q few b h =
    let n = no_fault names (whole q) h in
    let s = whole_sound q b in
    record {
      within = leaves_bounds names q few b;
      shallow = omega (arith, tree_depth 0 (whole q), whole_depth q b);
      arguments = tree_arguments 0 (whole q) s n.0;
      numbered = tree_below 0 _ (pruned (whole q)) (omega (arith, leaves_length names (pruned (whole q))));
      reduced = tree_reduced 0 (whole q) n.0;
      scaled = tree_scaled 0 (pruned (whole q));
      whole = refl;
      positive = positive (whole q) s n.0;
      small = n.1;
    }

pub combined_weights : (xs : BeliefTrees) → has_weights (query.combine xs) ≡ have_weights xs
unfolding has_weights have_weights have_weights_weighted
combined_weights xs = refl

-- a scale that is too large is the first fault
pub large_accepts : (names : List (List ℕ)) (xs : BeliefTrees) (fault : CheckFault) → have_weights xs ≡ true → have_leaf (all_pruned xs) ≡ true → IsTooLarge fault (scale (tree_from 0 (pruned (query.combine xs))))
    → Accepts (Err fault) (first_fault names (query.combine xs)) (tree_from 0 (pruned (query.combine xs)))
large_accepts names xs NoWeight h l e = absurd e
large_accepts names xs NoLeaf h l e = absurd e
large_accepts names xs ScaleTooLarge h l e = too_large names xs h l e
large_accepts names xs (UnknownPrior f) h l e = absurd e
large_accepts names xs Memory h l e = tt

-- the checked query of these parts
pub checked_is : (q : QueryTree) (names : List (List ℕ)) (leaves : List LeafTree) (tree : ScaledTree) (e : ℕ) → first_fault names (whole q) ≡ None
    → leaves ≡ leaves_of names (pruned (whole q)) → tree ≡ tree_from 0 (pruned (whole q)) → e ≡ scale tree
    → checks q names ≡ Ok (record { filters = q.filters; range = q.range; leaves = leaves; tree = tree; scale = e })
checked_is q names leaves tree e h l t s = rw (h, s, l, t) refl

pub is_checked_of : (names : List (List ℕ)) (q : QueryTree) (leaves : List LeafTree) (tree : ScaledTree) (e : ℕ) → length names ≤ 8 → IsBoundedQuery q → first_fault names (whole q) ≡ None
    → leaves ≡ leaves_of names (pruned (whole q)) → tree ≡ tree_from 0 (pruned (whole q)) → e ≡ scale tree → IsChecked q.filters q.range leaves tree e
is_checked_of names q leaves tree e few b h l t s = rw (s, l, t) (is_checked names q few b h)
