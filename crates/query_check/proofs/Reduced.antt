-- The weights of an operator, divided by their greatest common divisor, and the scale that is then above 0.
use Rattle.std.proofs.Common.{◌≡◌, ℕ, List, [], ◌∷◌, map, ◌<◌, ◌≤◌, ◌+◌, ◌*◌, ◌/◌, zero, suc, refl, sym, ap, arith, true, ◌∙◌, mul-pos}
use Rattle.std.specs.Prelude.{◌&&◌, ◌==◌, nat_le}
use Rattle.std.specs.Int.{◌∣◌}
use Rattle.std.specs.List.{list_any}
use Rattle.std.proofs.Math.Nat.{div-mul_cancel}
use Rattle.std.proofs.lemmas.Nat.Gcd.{dvd_refl, dvd_trans}
use Rattle.ri_base.specs.Query as query
use Rattle.ri_base.specs.Query.{BeliefTree, BeliefTrees, WeightedTrees}
use Rattle.query_check.specs.Check.{weights, is_some_weight, has_weights, have_weights, have_weights_weighted, pruned, all_pruned, weighted_pruned, leaf_count, combined, weighed, greatest_of, tree_from, trees_from, weighted_trees_from}
use Rattle.query_check.specs.Kept.{has_arguments, are_arguments, have_arguments, are_weighted_arguments, have_weighted_arguments, is_reduced, are_reduced, are_weighted_reduced}
use Rattle.query_check.specs.Multiples.{gcd, common_divisor}
use Rattle.query_check.specs.Scale as scaled
use Rattle.query_check.specs.Scale.{count, total, scale, common, weighted_common}
use Rattle.query_check.specs.Trees.{ScaledTree, ScaledTrees, WeightedScaledTrees, leaf, combine, weight, greatest, none, more, none_weighted, more_weighted}
use Rattle.query_check.proofs.Keeps.{both, test_same, test_at_most, at_most_of}
use Rattle.query_check.proofs.MultipleLemmas.{gcd_is, gcd_positive_left, gcd_times, lcm_positive, quotient_positive}
use Rattle.query_check.proofs.Scales.{both_left, both_right}
use Rattle.query_check.proofs.Walks.{weighted_kept}

-- d divides each number of a list
unfoldable DividesAll : ℕ → List ℕ → Type 0
DividesAll d [] = Unit {0}
DividesAll d (w ∷ ws) = (d ∣ w) × DividesAll d ws

divides_each : (d : ℕ) (ws : List ℕ) → d ∣ common_divisor ws → DividesAll d ws
unfolding DividesAll common_divisor
divides_each d [] h = tt
divides_each d (w ∷ ws) h =
    let g = gcd_is w (common_divisor ws) in
    (dvd_trans d h g.0, divides_each d ws (dvd_trans d h g.1))

quotients_times : (d : ℕ) (ws : List ℕ) → 0 < d → DividesAll d ws → common_divisor (map (λ w. w / d) ws) * d ≡ common_divisor ws
unfolding DividesAll common_divisor
quotients_times d [] pos h = omega arith
quotients_times d (w ∷ ws) pos h =
    let first : w / d * d ≡ w = div-mul_cancel d h.0 in
    let rest : common_divisor (map (λ v. v / d) ws) * d ≡ common_divisor ws = quotients_times d ws pos h.1 in
    sym (gcd_times (w / d) (common_divisor (map (λ v. v / d) ws)) d pos) ∙ rw (first, rest) refl

one_of : (a d : ℕ) → 0 < d → a * d ≡ d → a ≡ 1
one_of zero d pos e = absurd (omega (arith, e))
one_of (suc zero) d pos e = refl
one_of (suc (suc a)) d pos e = absurd (omega (arith, e, pos))

-- nothing above 1 divides all the quotients
quotients_reduced : (ws : List ℕ) → 0 < common_divisor ws → common_divisor (map (λ w. w / common_divisor ws) ws) ≡ 1
quotients_reduced ws pos = one_of _ (common_divisor ws) pos (quotients_times (common_divisor ws) ws pos (divides_each (common_divisor ws) ws (dvd_refl (common_divisor ws))))

quotient_weights : (d n : ℕ) (xs : WeightedTrees) → scaled.weights (weighted_trees_from d n xs) ≡ map (λ w. w / d) (weights xs)
unfolding scaled.weights tree_from trees_from weighted_trees_from weights
quotient_weights d n query.none_weighted = refl
quotient_weights d n (query.more_weighted w x xs) = ap (λ ws. w / d ∷ ws) (quotient_weights d (n + leaf_count x) xs)

divisor_kept : (w : ℕ) (x : BeliefTree) (xs : WeightedTrees) → common_divisor (weights (query.more_weighted w x xs)) ≡ gcd w (common_divisor (weights xs))
unfolding weights common_divisor
divisor_kept w x xs = refl

-- where some weight is above 0, so is the greatest common divisor of those that are left
some_divisor : (xs : WeightedTrees) → list_any is_some_weight (weights xs) ≡ true → 0 < common_divisor (weights (weighted_pruned xs))
unfolding weights pruned all_pruned weighted_pruned
some_divisor query.none_weighted h = absurd (cc)
some_divisor (query.more_weighted zero x xs) h = some_divisor xs h
some_divisor (query.more_weighted (suc w) x xs) h = rw (weighted_kept (suc w) x xs (omega arith), divisor_kept (suc w) (pruned x) (weighted_pruned xs)) (gcd_positive_left (suc w) (common_divisor (weights (weighted_pruned xs))) (omega arith))

first_divides : (d w : ℕ) (x : BeliefTree) (xs : WeightedTrees) → DividesAll d (weights (query.more_weighted w x xs)) → (d ∣ w) × DividesAll d (weights xs)
unfolding DividesAll weights
first_divides d w x xs h = h

mutual
  unfolding tree_from trees_from weighted_trees_from combined weighed greatest_of pruned all_pruned is_reduced are_reduced are_weighted_reduced has_weights have_weights have_weights_weighted

  -- weights of at least 1, without a common divisor above 1
  pub tree_reduced : (n : ℕ) (x : BeliefTree) → has_weights x ≡ true → is_reduced (tree_from n (pruned x)) ≡ true
  tree_reduced n (query.combine xs) h = trees_reduced n xs h
  tree_reduced n (query.weight xs) h =
      let some = some_divisor xs (both_left (list_any is_some_weight (weights xs)) _ h) in
      let one = quotients_reduced (weights (weighted_pruned xs)) some in
      let is : common_divisor (scaled.weights (weighted_trees_from (common_divisor (weights (weighted_pruned xs))) n (weighted_pruned xs))) ≡ 1 = rw (quotient_weights (common_divisor (weights (weighted_pruned xs))) n (weighted_pruned xs)) one in
      both _ _ (test_same _ 1 is) (weighted_trees_reduced _ n xs (divides_each _ _ (dvd_refl (common_divisor (weights (weighted_pruned xs))))) (both_right (list_any is_some_weight (weights xs)) _ h))
  tree_reduced n (query.greatest xs) h = trees_reduced n xs h
  tree_reduced n (query.prior f) h = refl
  tree_reduced n (query.leaf x context) h = refl

  trees_reduced : (n : ℕ) (xs : BeliefTrees) → have_weights xs ≡ true → are_reduced (trees_from n (all_pruned xs)) ≡ true
  trees_reduced n query.none h = refl
  trees_reduced n (query.more x xs) h = both _ _ (tree_reduced n x (both_left (has_weights x) _ h)) (trees_reduced (n + leaf_count (pruned x)) xs (both_right (has_weights x) _ h))

  weighted_trees_reduced : (d n : ℕ) (xs : WeightedTrees) → DividesAll d (weights (weighted_pruned xs)) → have_weights_weighted xs ≡ true → are_weighted_reduced (weighted_trees_from d n (weighted_pruned xs)) ≡ true
  weighted_trees_reduced d n query.none_weighted v h = refl
  weighted_trees_reduced d n (query.more_weighted zero x xs) v h = weighted_trees_reduced d n xs v (both_right (has_weights x) _ h)
  weighted_trees_reduced d n (query.more_weighted (suc w) x xs) v h =
      let kept = weighted_kept (suc w) x xs (omega arith) in
      let parts = first_divides d (suc w) (pruned x) (weighted_pruned xs) (rw kept at v) in
      rw kept (both _ _ (both _ _ (test_at_most 1 (suc w / d) (quotient_positive d (suc w) parts.0 (omega arith))) (tree_reduced n x (both_left (has_weights x) _ h))) (weighted_trees_reduced d (n + leaf_count (pruned x)) xs parts.1 (both_right (has_weights x) _ h)))

mutual
  unfolding scale common weighted_common count total has_arguments are_arguments have_arguments are_weighted_arguments have_weighted_arguments is_reduced are_reduced are_weighted_reduced

  -- with arguments, and weights of at least 1, a scale is above 0
  pub scale_positive : (t : ScaledTree) → has_arguments t ≡ true → is_reduced t ≡ true → 0 < scale t
  scale_positive (leaf i) a r = omega arith
  scale_positive (combine e none) a r = absurd (cc)
  scale_positive (combine e (more x xs)) a r = mul-pos (omega arith) (common_positive (more x xs) a r)
  scale_positive (weight e none_weighted) a r = absurd (cc)
  scale_positive (weight e (more_weighted w x xs)) a r =
      let all = both_right (common_divisor (scaled.weights (more_weighted w x xs)) == 1) _ r in
      let some : 1 ≤ w = at_most_of 1 w (both_left (nat_le 1 w) _ (both_left (nat_le 1 w && is_reduced x) _ all)) in
      mul-pos (omega arith) (weighted_common_positive (more_weighted w x xs) a all)
  scale_positive (greatest e none) a r = absurd (cc)
  scale_positive (greatest e (more x xs)) a r = common_positive (more x xs) a r

  common_positive : (xs : ScaledTrees) → have_arguments xs ≡ true → are_reduced xs ≡ true → 0 < common xs
  common_positive none a r = omega arith
  common_positive (more x xs) a r = lcm_positive (scale x) (common xs) (scale_positive x (both_left (has_arguments x) _ a) (both_left (is_reduced x) _ r)) (common_positive xs (both_right (has_arguments x) _ a) (both_right (is_reduced x) _ r))

  weighted_common_positive : (xs : WeightedScaledTrees) → have_weighted_arguments xs ≡ true → are_weighted_reduced xs ≡ true → 0 < weighted_common xs
  weighted_common_positive none_weighted a r = omega arith
  weighted_common_positive (more_weighted w x xs) a r =
      lcm_positive (scale x) (weighted_common xs)
      (scale_positive x (both_left (has_arguments x) _ a) (both_right (nat_le 1 w) _ (both_left (nat_le 1 w && is_reduced x) _ r)))
      (weighted_common_positive xs (both_right (has_arguments x) _ a) (both_right (nat_le 1 w && is_reduced x) _ r))
