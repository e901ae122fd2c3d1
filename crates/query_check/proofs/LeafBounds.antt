-- The bounds of the leaves of a sound query.
use Rattle.std.proofs.Common.{◌≡◌, ℕ, List, [], ◌∷◌, ◌++◌, Option, None, Some, length, ◌<◌, ◌≤◌, ◌+◌, zero, suc, refl, arith, Bool, true, false, length-append}
use Rattle.std.specs.Prelude.{max, ◌&&◌, position, if◌then◌else◌}
use Rattle.std.specs.Str.{bytes_eq}
use Rattle.ri_base.specs.Query as query
use Rattle.ri_base.specs.Query.{BeliefTree, BeliefTrees, WeightedTrees, FilterTree, depth_in_filters}
use Rattle.query_check.specs.Check.{pruned, all_pruned, weighted_pruned, leaf_count, all_leaf_count, weighted_leaf_count, leaves_of, all_leaves, weighted_leaves, prior_number, is_length, place_or}
use Rattle.query_check.specs.Leaves.{LeafTree, leaf_depths, all_leaf_nodes, are_sound_leaves}
use Rattle.query_check.proofs.Keeps.{both, test_at_most, arguments_sound, weighted_sound}
use Rattle.query_check.proofs.Names.{place_below}
use Rattle.query_check.proofs.Scales.{both_left, both_right}
use Rattle.query_check.proofs.Walks.{weighted_kept}

mutual
  unfolding leaves_of all_leaves weighted_leaves leaf_count all_leaf_count weighted_leaf_count

  pub leaves_length : (names : List (List ℕ)) (x : BeliefTree) → length (leaves_of names x) ≡ leaf_count x
  leaves_length names (query.combine xs) = all_leaves_length names xs
  leaves_length names (query.weight xs) = weighted_leaves_length names xs
  leaves_length names (query.greatest xs) = all_leaves_length names xs
  leaves_length names (query.prior f) = refl
  leaves_length names (query.leaf x context) = refl

  all_leaves_length : (names : List (List ℕ)) (xs : BeliefTrees) → length (all_leaves names xs) ≡ all_leaf_count xs
  all_leaves_length names query.none = refl
  all_leaves_length names (query.more x xs) = omega (arith, length-append (leaves_of names x) (all_leaves names xs), leaves_length names x, all_leaves_length names xs)

  weighted_leaves_length : (names : List (List ℕ)) (xs : WeightedTrees) → length (weighted_leaves names xs) ≡ weighted_leaf_count xs
  weighted_leaves_length names query.none_weighted = refl
  weighted_leaves_length names (query.more_weighted w x xs) = omega (arith, length-append (leaves_of names x) (weighted_leaves names xs), leaves_length names x, weighted_leaves_length names xs)

-- leaves with these bounds together
pub record AreWithin (deep many : ℕ) (xs : List LeafTree) : Type 0 where
  pub shallow : leaf_depths xs ≤ deep
  pub few : all_leaf_nodes xs ≤ many
  pub sound : are_sound_leaves xs ≡ true

joined_depths : (xs ys : List LeafTree) → leaf_depths (xs ++ ys) ≡ max (leaf_depths xs) (leaf_depths ys)
joined_depths [] ys = omega arith
joined_depths (x ∷ xs) ys = omega (arith, joined_depths xs ys)

joined_nodes : (xs ys : List LeafTree) → all_leaf_nodes (xs ++ ys) ≡ all_leaf_nodes xs + all_leaf_nodes ys
joined_nodes [] ys = omega arith
joined_nodes (x ∷ xs) ys = omega (arith, joined_nodes xs ys)

joined_sound : (xs ys : List LeafTree) → are_sound_leaves xs ≡ true → are_sound_leaves ys ≡ true → are_sound_leaves (xs ++ ys) ≡ true
joined_sound [] ys h k = k
joined_sound (x ∷ xs) ys h k = both _ _ (both_left _ (are_sound_leaves xs) h) (joined_sound xs ys (both_right _ (are_sound_leaves xs) h) k)

joined_within : (d n d' n' : ℕ) (xs ys : List LeafTree) → AreWithin d n xs → AreWithin d' n' ys → AreWithin (max d d') (n + n') (xs ++ ys)
joined_within d n d' n' xs ys h k = record {
  shallow = omega (arith, joined_depths xs ys, h.shallow, k.shallow);
  few = omega (arith, joined_nodes xs ys, h.few, k.few);
  sound = joined_sound xs ys h.sound k.sound;
}

wider : (d n d' n' : ℕ) (xs : List LeafTree) → d ≤ d' → n ≤ n' → AreWithin d n xs → AreWithin d' n' xs
wider d n d' n' xs le le' h = record { shallow = omega (arith, h.shallow); few = omega (arith, h.few); sound = h.sound }

place_small : (o : Option ℕ) → ((i : ℕ) → o ≡ Some i → i < 8) → place_or 8 o ≤ 8
place_small None h = omega arith
place_small (Some i) h = omega (arith, h i refl)

number_small : (t : Bool) (o : Option ℕ) → place_or 8 o ≤ 8 → (if t then 8 else place_or 8 o) ≤ 8
number_small true o h = omega arith
number_small false o h = h

prior_small : (names : List (List ℕ)) (f : List ℕ) → length names ≤ 8 → prior_number names f ≤ 8
unfolding prior_number
prior_small names f few = number_small (is_length f) (position (λ name. bytes_eq name f) names) (place_small (position (λ name. bytes_eq name f) names) (λ i e. omega (arith, place_below (λ name. bytes_eq name f) names i e)))

module _ (names : List (List ℕ)) (known : length names ≤ 8) where
  mutual
    unfolding leaves_of all_leaves weighted_leaves pruned all_pruned query.is_sound query.are_arguments query.are_sound query.are_weighted_arguments query.are_weighted_sound query.depth query.depths query.weighted_depths query.nodes query.all_nodes query.weighted_nodes

    pub leaves_within : (x : BeliefTree) → query.is_sound x ≡ true → AreWithin (query.depth x) (query.nodes x) (leaves_of names (pruned x))
    leaves_within (query.combine xs) s = wider _ _ _ _ _ (omega arith) (omega arith) (all_leaves_within xs (arguments_sound xs s))
    leaves_within (query.weight xs) s = wider _ _ _ _ _ (omega arith) (omega arith) (weighted_within xs (weighted_sound xs s))
    leaves_within (query.greatest xs) s = wider _ _ _ _ _ (omega arith) (omega arith) (all_leaves_within xs (arguments_sound xs s))
    leaves_within (query.prior f) s = record { shallow = omega arith; few = omega arith; sound = both _ true (test_at_most _ 8 (prior_small names f known)) refl }
    leaves_within (query.leaf x context) s = record { shallow = omega arith; few = omega arith; sound = both _ true s refl }

    pub all_leaves_within : (xs : BeliefTrees) → query.are_sound xs ≡ true → AreWithin (query.depths xs) (query.all_nodes xs) (all_leaves names (all_pruned xs))
    all_leaves_within query.none s = record { shallow = omega arith; few = omega arith; sound = refl }
    all_leaves_within (query.more x xs) s = joined_within _ _ _ _ _ _ (leaves_within x (both_left (query.is_sound x) _ s)) (all_leaves_within xs (both_right (query.is_sound x) _ s))

    weighted_within : (xs : WeightedTrees) → query.are_weighted_sound xs ≡ true → AreWithin (query.weighted_depths xs) (query.weighted_nodes xs) (weighted_leaves names (weighted_pruned xs))
    weighted_within query.none_weighted s = record { shallow = omega arith; few = omega arith; sound = refl }
    weighted_within (query.more_weighted zero x xs) s = wider _ _ _ _ _ (omega arith) (omega arith) (weighted_within xs (both_right (query.is_weight zero && query.is_sound x) _ s))
    weighted_within (query.more_weighted (suc w) x xs) s =
        rw (weighted_kept (suc w) x xs (omega arith)) (joined_within _ _ _ _ _ _ (leaves_within x (both_right (query.is_weight (suc w)) _ (both_left (query.is_weight (suc w) && query.is_sound x) _ s))) (weighted_within xs (both_right (query.is_weight (suc w) && query.is_sound x) _ s)))
