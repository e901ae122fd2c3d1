-- Worked queries, computed by the definitions alone.
use Rattle.std.proofs.Common.{◌≡◌, ℕ, [], ◌∷◌, Ok, Err, None, refl}
use Rattle.std.specs.Prelude.{codes}
use Rattle.ri_base.specs.Expression as expr
use Rattle.ri_base.specs.Query.{BeliefTree, QueryTree, combine, weight, greatest, prior, leaf, none, more, none_weighted, more_weighted}
use Rattle.ri_base.specs.declared.query.Range.TheVariants.{Whole}
use Rattle.query_check.specs.declared.fault.CheckFault.TheVariants.{NoWeight, NoLeaf, ScaleTooLarge, UnknownPrior}
use Rattle.query_check.specs.Check.{has_weights, have_weights, have_weights_weighted, weights, priors, all_priors, weighted_priors, pruned, all_pruned, weighted_pruned, prior_number, is_unknown, leaves_of, all_leaves, weighted_leaves, has_leaf, have_leaf, have_leaf_weighted, leaf_count, all_leaf_count, weighted_leaf_count, combined, weighed, greatest_of, tree_from, trees_from, weighted_trees_from, first_fault, checks}
use Rattle.query_check.specs.Leaves as leaves
use Rattle.query_check.specs.Multiples.{gcd_within, gcd, lcm, common_divisor}
use Rattle.query_check.specs.Scale.{count, total, scale, common, weighted_common}
use Rattle.query_check.specs.Trees as tree

-- `unfolding checking` lets `refl` compute `checks`
unfoldable checking : Unit {0}
unfolding has_weights have_weights have_weights_weighted weights priors all_priors weighted_priors pruned all_pruned weighted_pruned prior_number is_unknown leaves_of all_leaves weighted_leaves has_leaf have_leaf have_leaf_weighted leaf_count all_leaf_count weighted_leaf_count combined weighed greatest_of tree_from trees_from weighted_trees_from first_fault gcd_within gcd lcm common_divisor count total scale common weighted_common
checking = tt

abbrev query : BeliefTree → QueryTree
query x = record { filters = []; range = Whole; beliefs = x ∷ [] }

-- a term of one byte
abbrev term : ℕ → BeliefTree
term byte = leaf (expr.word (byte ∷ [])) None

abbrev pair : BeliefTree → BeliefTree → BeliefTree
pair x y = combine (more x (more y none))

-- #weight(v x w y)
abbrev weighted_pair : ℕ → BeliefTree → ℕ → BeliefTree → BeliefTree
weighted_pair v x w y = weight (more_weighted v x (more_weighted w y none_weighted))

-- #weight(0.8 #combine(a b c) 0.1 #combine(d e) 0.1 #combine(f g))
abbrev dependence : BeliefTree
dependence = weight (more_weighted 800000000 (combine (more (term 97) (more (term 98) (more (term 99) none))))
    (more_weighted 100000000 (pair (term 100) (term 101)) (more_weighted 100000000 (pair (term 102) (term 103)) none_weighted)))

of_dependence : tree_from 0 (pruned dependence) ≡ tree.weight 60
    (tree.more_weighted 8 (tree.combine 3 (tree.more (tree.leaf 0) (tree.more (tree.leaf 1) (tree.more (tree.leaf 2) tree.none))))
    (tree.more_weighted 1 (tree.combine 2 (tree.more (tree.leaf 3) (tree.more (tree.leaf 4) tree.none)))
    (tree.more_weighted 1 (tree.combine 2 (tree.more (tree.leaf 5) (tree.more (tree.leaf 6) tree.none))) tree.none_weighted)))
unfolding checking
of_dependence = refl

-- #weight(v #weight(w a 0.000000001 b) 0.000000001 c)
abbrev nested : ℕ → ℕ → BeliefTree
nested v w = weighted_pair v (weighted_pair w (term 97) 1 (term 98)) 1 (term 99)

below_the_limit : scale (tree_from 0 (pruned (nested 1073741824 1073741822))) ≡ 1152921504606846975
unfolding checking
below_the_limit = refl

at_the_limit : checks (query (nested 1073741823 1073741823)) [] ≡ Err ScaleTooLarge
unfolding checking
at_the_limit = refl

-- #weight(2 #prior(x) 0 #prior(y) 4 a), where x is the second of the priors
whole : checks (query (weight (more_weighted 2000000000 (prior (codes "x")) (more_weighted 0 (prior (codes "y")) (more_weighted 4000000000 (term 97) none_weighted))))) (codes "y" ∷ codes "x" ∷ []) ≡
    Ok (record {
      filters = [];
      range = Whole;
      leaves = leaves.prior 1 ∷ leaves.extents (expr.word (97 ∷ [])) None ∷ [];
      tree = tree.combine 3 (tree.more (tree.weight 3 (tree.more_weighted 1 (tree.leaf 0) (tree.more_weighted 2 (tree.leaf 1) tree.none_weighted))) tree.none);
      scale = 3;
    })
unfolding checking
whole = refl

unknown_under_nothing : checks (query (weighted_pair 0 (prior (codes "z")) 1 (term 97))) (codes "x" ∷ []) ≡ Err (UnknownPrior (codes "z"))
unfolding checking
unknown_under_nothing = refl

weightless_under_nothing : checks (query (weighted_pair 1 (term 97) 0 (weighted_pair 0 (term 98) 0 (term 99)))) [] ≡ Err NoWeight
unfolding checking
weightless_under_nothing = refl

leaf_under_nothing : checks (query (weighted_pair 0 (term 97) 1 (prior (codes "length")))) [] ≡ Err NoLeaf
unfolding checking
leaf_under_nothing = refl

of_max : scale (tree_from 0 (pruned (greatest (more (combine (more (term 97) (more (term 98) (more (term 99) none)))) (more (pair (term 97) (term 98)) none))))) ≡ 6
unfolding checking
of_max = refl
