-- What the calculation of a key asks of an operator and of its arguments, from one place of a list on.
use Rattle.std.proofs.Common.{◌≡◌, ℕ, ◌+◌, ◌*◌, ◌/◌, ◌^◌, ◌<◌, ◌≤◌, List, [], ◌∷◌, map, drop, length, get_or, arith, refl, min, le_of_lt}
use Rattle.std.specs.Prelude.{All, sum, fold, ◌==◌, slice_index, true}
use Rattle.std.specs.Int.{◌∣◌}
use Rattle.std.proofs.Math.Nat.{pos_of_dvd_of_pos, le_of_dvd, div-eq_of_eq-mul_right}
use Rattle.std.proofs.lemmas.Bool.{ltb-true}
use Rattle.std.proofs.lemmas.Nat.Gcd.{dvd_refl, dvd_trans}
use Rattle.query_check.specs.declared.tree.Tree.{Tree}
use Rattle.query_check.specs.Kept.{is_below, are_below, are_weighted_below}
use Rattle.query_check.specs.Scale.{scale, common, weighted_common, count, total, is_scaled, are_scaled, are_weighted_scaled}
use Rattle.query_check.specs.Trees.{ScaledTree, ScaledTrees, WeightedScaledTrees, leaf, combine, weight, greatest, more, more_weighted, scaled_tree, scaled_trees, weighted_scaled_tree, weighted_scaled_trees}
use Rattle.query_check.proofs.Combined.{parts_positive, le_times_left, le_times_right}
use Rattle.query_check.proofs.MultipleLemmas.{lcm_left, lcm_right}
use Rattle.query_check.proofs.Scales.{both_left, both_right, same_number}
use Rattle.query_check.proofs.Walks.{drop_at, drop_end}
use Rattle.belief_nodes.specs.Fits.{IsFit, AreFit, AreWeightedFit}
use Rattle.belief_nodes.specs.Keys.{key, shares, weighted_shares, least_of}
use Rattle.belief_nodes.proofs.Sizes.{share_size, sum_size, weighted_sum_size}

pub leaf_fit : (n i : ℕ) → IsFit n (leaf i) → i < n
unfolding is_below are_below are_weighted_below
leaf_fit n i h = ltb-true i n h.numbered

-- an operator over arguments: the number before them, its quotient by the number of arguments or their weights, and
-- what holds of the arguments
module _ (n e : ℕ) (xs : ScaledTrees) where
  combine_is : IsFit n (combine e xs) → e ≡ count xs * common xs
  unfolding is_scaled are_scaled are_weighted_scaled
  combine_is h = same_number e _ (both_left (e == count xs * common xs) (are_scaled xs) h.scaled)

  combine_positive : IsFit n (combine e xs) → 0 < count xs * common xs
  unfolding scale common weighted_common
  combine_positive h = h.positive

  combine_small : IsFit n (combine e xs) → count xs * common xs < 2 ^ 60
  unfolding scale common weighted_common
  combine_small h = h.small

  pub combine_some : IsFit n (combine e xs) → 0 < count xs
  combine_some h = (parts_positive _ _ (combine_positive h)).0

  pub combine_quotient : IsFit n (combine e xs) → e / count xs ≡ common xs
  combine_quotient h = div-eq_of_eq-mul_right (combine_some h) (combine_is h)

  pub combine_whole : IsFit n (combine e xs) → count xs * (e / count xs) < 2 ^ 60
  combine_whole h = rw (combine_quotient h) (combine_small h)

  pub combine_fit : IsFit n (combine e xs) → AreFit n (e / count xs) xs
  unfolding is_below are_below are_weighted_below is_scaled are_scaled are_weighted_scaled
  combine_fit h = rw (combine_quotient h) (record {
    numbered = h.numbered;
    scaled = both_right (e == count xs * common xs) (are_scaled xs) h.scaled;
    divides = dvd_refl (common xs);
    positive = (parts_positive _ _ (combine_positive h)).1;
    small = (let le : common xs ≤ count xs * common xs = le_times_left _ _ (combine_some h) in omega (arith, combine_small h));
  })

  pub combine_key : (digits : List ℕ) → IsFit n (combine e xs) → sum (shares digits (e / count xs) xs) ≡ key digits (combine e xs)
  unfolding key shares weighted_shares
  combine_key digits h = rw (combine_quotient h) refl

  pub greatest_is : IsFit n (greatest e xs) → e ≡ common xs
  unfolding is_scaled are_scaled are_weighted_scaled
  greatest_is h = same_number e _ (both_left (e == common xs) (are_scaled xs) h.scaled)

  pub greatest_fit : IsFit n (greatest e xs) → AreFit n e xs
  unfolding is_below are_below are_weighted_below is_scaled are_scaled are_weighted_scaled scale common weighted_common
  greatest_fit h = rw (greatest_is h) (record {
    numbered = h.numbered;
    scaled = both_right (e == common xs) (are_scaled xs) h.scaled;
    divides = dvd_refl (common xs);
    positive = h.positive;
    small = h.small;
  })

  pub greatest_key : (digits : List ℕ) → IsFit n (greatest e xs) → least_of (shares digits e xs) ≡ key digits (greatest e xs)
  unfolding key shares weighted_shares
  greatest_key digits h = rw (greatest_is h) refl

module _ (n e : ℕ) (xs : WeightedScaledTrees) where
  weight_is : IsFit n (weight e xs) → e ≡ total xs * weighted_common xs
  unfolding is_scaled are_scaled are_weighted_scaled
  weight_is h = same_number e _ (both_left (e == total xs * weighted_common xs) (are_weighted_scaled xs) h.scaled)

  weight_positive : IsFit n (weight e xs) → 0 < total xs * weighted_common xs
  unfolding scale common weighted_common
  weight_positive h = h.positive

  weight_small : IsFit n (weight e xs) → total xs * weighted_common xs < 2 ^ 60
  unfolding scale common weighted_common
  weight_small h = h.small

  pub weight_some : IsFit n (weight e xs) → 0 < total xs
  weight_some h = (parts_positive _ _ (weight_positive h)).0

  pub weight_few : IsFit n (weight e xs) → total xs < 2 ^ 64
  weight_few h =
      let le : total xs ≤ total xs * weighted_common xs = le_times_right _ _ (parts_positive (total xs) (weighted_common xs) (weight_positive h)).1 in
      omega (arith, weight_small h)

  pub weight_quotient : IsFit n (weight e xs) → e / total xs ≡ weighted_common xs
  weight_quotient h = div-eq_of_eq-mul_right (weight_some h) (weight_is h)

  pub weight_fit : IsFit n (weight e xs) → AreWeightedFit n (e / total xs) xs
  unfolding is_below are_below are_weighted_below is_scaled are_scaled are_weighted_scaled
  weight_fit h = rw (weight_quotient h) (record {
    numbered = h.numbered;
    scaled = both_right (e == total xs * weighted_common xs) (are_weighted_scaled xs) h.scaled;
    divides = dvd_refl (weighted_common xs);
    positive = (parts_positive _ _ (weight_positive h)).1;
    small = (let le : weighted_common xs ≤ total xs * weighted_common xs = le_times_left _ _ (weight_some h) in omega (arith, weight_small h));
  })

  pub weight_whole : IsFit n (weight e xs) → total xs * (e / total xs) < 2 ^ 60
  weight_whole h = rw (weight_quotient h) (weight_small h)

  pub weight_key : (digits : List ℕ) → IsFit n (weight e xs) → sum (weighted_shares digits (e / total xs) xs) ≡ key digits (weight e xs)
  unfolding key shares weighted_shares
  weight_key digits h = rw (weight_quotient h) refl

-- a tree is fit whose scale divides a common one
fit_of : (n m : ℕ) (x : ScaledTree) → is_below n x ≡ true → is_scaled x ≡ true → scale x ∣ m → 0 < m → m < 2 ^ 60 → IsFit n x
fit_of n m x numbered scaled divides positive small = record {
  numbered = numbered;
  scaled = scaled;
  positive = pos_of_dvd_of_pos divides positive;
  small = (let le : scale x ≤ m = le_of_dvd positive divides in omega (arith, small, le));
}

-- the arguments one by one
module _ (n m : ℕ) (x : ScaledTree) (xs : ScaledTrees) (h : AreFit n m (more x xs)) where
  pub first_divides : scale x ∣ m
  unfolding scale common weighted_common
  first_divides = dvd_trans _ (lcm_left (scale x) (common xs)) h.divides

  pub first_fit : IsFit n x
  unfolding is_below are_below are_weighted_below is_scaled are_scaled are_weighted_scaled
  first_fit = fit_of n m x (both_left (is_below n x) (are_below n xs) h.numbered) (both_left (is_scaled x) (are_scaled xs) h.scaled) first_divides h.positive h.small

  pub rest_fit : AreFit n m xs
  unfolding is_below are_below are_weighted_below is_scaled are_scaled are_weighted_scaled scale common weighted_common
  rest_fit = record {
    numbered = both_right (is_below n x) (are_below n xs) h.numbered;
    scaled = both_right (is_scaled x) (are_scaled xs) h.scaled;
    divides = dvd_trans _ (lcm_right (scale x) (common xs)) h.divides;
    positive = h.positive;
    small = h.small;
  }

module _ (n m w : ℕ) (x : ScaledTree) (xs : WeightedScaledTrees) (h : AreWeightedFit n m (more_weighted w x xs)) where
  pub weighted_first_divides : scale x ∣ m
  unfolding scale common weighted_common
  weighted_first_divides = dvd_trans _ (lcm_left (scale x) (weighted_common xs)) h.divides

  pub weighted_first_fit : IsFit n x
  unfolding is_below are_below are_weighted_below is_scaled are_scaled are_weighted_scaled
  weighted_first_fit = fit_of n m x (both_left (is_below n x) (are_weighted_below n xs) h.numbered) (both_left (is_scaled x) (are_weighted_scaled xs) h.scaled) weighted_first_divides h.positive h.small

  pub weighted_rest_fit : AreWeightedFit n m xs
  unfolding is_below are_below are_weighted_below is_scaled are_scaled are_weighted_scaled scale common weighted_common
  weighted_rest_fit = record {
    numbered = both_right (is_below n x) (are_weighted_below n xs) h.numbered;
    scaled = both_right (is_scaled x) (are_weighted_scaled xs) h.scaled;
    divides = dvd_trans _ (lcm_right (scale x) (weighted_common xs)) h.divides;
    positive = h.positive;
    small = h.small;
  }

-- from place i of a list of trees on
abbrev pub trees_from : List Tree → ℕ → ScaledTrees
trees_from xs i = scaled_trees (map scaled_tree (drop i xs))

abbrev pub weighted_from : List (ℕ × Tree) → ℕ → WeightedScaledTrees
weighted_from xs i = weighted_scaled_trees (map weighted_scaled_tree (drop i xs))

pub trees_at : (xs : List Tree) (i : ℕ) (x : Tree) → i < length xs → x ≡ get_or xs i x → trees_from xs i ≡ more (scaled_tree x) (trees_from xs (i + 1))
trees_at xs i x inside here = rw (drop_at xs i x inside here) refl

pub weighted_at : (xs : List (ℕ × Tree)) (i : ℕ) (x : ℕ × Tree) → i < length xs → x ≡ get_or xs i x → weighted_from xs i ≡ more_weighted x.0 (scaled_tree x.1) (weighted_from xs (i + 1))
weighted_at xs i x inside here = rw (drop_at xs i x inside here) refl

-- a sum so far is at most the whole
le_fold : (a : ℕ) (xs : List ℕ) → a ≤ fold (λ b c. b + c) a xs
le_fold a [] = omega arith
le_fold a (x ∷ xs) = omega (arith, le_fold (a + x) xs)

-- digits of at most 66 bits
module _ (digits : List ℕ) (small : All (λ c. c < 2 ^ 66) digits) where
  at_most : All (λ c. c ≤ 2 ^ 66) digits
  at_most k d h = le_of_lt (small k d h)

  pub share_small : (m : ℕ) (t : ScaledTree) → scale t ∣ m → m < 2 ^ 60 → m / scale t * key digits t < 2 ^ 126
  share_small m t d few = omega (arith, share_size digits (2 ^ 66) at_most m t d)

  pub sum_small : (m : ℕ) (xs : ScaledTrees) → common xs ∣ m → count xs * m < 2 ^ 60 → sum (shares digits m xs) < 2 ^ 126
  sum_small m xs d few = omega (arith, sum_size digits (2 ^ 66) at_most m xs d)

  pub weighted_sum_small : (m : ℕ) (xs : WeightedScaledTrees) → weighted_common xs ∣ m → total xs * m < 2 ^ 60 → sum (weighted_shares digits m xs) < 2 ^ 126
  weighted_sum_small m xs d few = omega (arith, weighted_sum_size digits (2 ^ 66) at_most m xs d)

module _ (n m : ℕ) (xs : List Tree) (i : ℕ) (x : Tree) (inside : i < length xs) (here : x ≡ get_or xs i x) (fit : AreFit n m (trees_from xs i)) where
  split_fit : AreFit n m (more (scaled_tree x) (trees_from xs (i + 1)))
  split_fit = rw (trees_at xs i x inside here) at fit

  pub here_fit : IsFit n (scaled_tree x)
  here_fit = first_fit n m _ _ split_fit

  pub here_divides : scale (scaled_tree x) ∣ m
  here_divides = first_divides n m _ _ split_fit

  pub next_fit : AreFit n m (trees_from xs (i + 1))
  next_fit = rest_fit n m _ _ split_fit

module _ (n m : ℕ) (xs : List (ℕ × Tree)) (i : ℕ) (x : ℕ × Tree) (inside : i < length xs) (here : x ≡ get_or xs i x) (fit : AreWeightedFit n m (weighted_from xs i)) where
  weighted_split_fit : AreWeightedFit n m (more_weighted x.0 (scaled_tree x.1) (weighted_from xs (i + 1)))
  weighted_split_fit = rw (weighted_at xs i x inside here) at fit

  pub weighted_here_fit : IsFit n (scaled_tree x.1)
  weighted_here_fit = weighted_first_fit n m _ _ _ weighted_split_fit

  pub weighted_here_divides : scale (scaled_tree x.1) ∣ m
  weighted_here_divides = weighted_first_divides n m _ _ _ weighted_split_fit

  pub weighted_next_fit : AreWeightedFit n m (weighted_from xs (i + 1))
  weighted_next_fit = weighted_rest_fit n m _ _ _ weighted_split_fit

-- one argument more
module _ (digits : List ℕ) (m : ℕ) (xs : List Tree) (i : ℕ) (x : Tree) (inside : i < length xs) (here : x ≡ get_or xs i x) where
  shares_at : shares digits m (trees_from xs i) ≡ m / scale (scaled_tree x) * key digits (scaled_tree x) ∷ shares digits m (trees_from xs (i + 1))
  unfolding key shares weighted_shares
  shares_at = rw (trees_at xs i x inside here) refl

  pub sum_next : (sum whole : ℕ) → fold (λ a b. a + b) sum (shares digits m (trees_from xs i)) ≡ whole
      → fold (λ a b. a + b) (sum + m / scale (scaled_tree x) * key digits (scaled_tree x)) (shares digits m (trees_from xs (i + 1))) ≡ whole
  sum_next sum whole h = rw shares_at at h

  pub sum_so_far : (sum whole : ℕ) → fold (λ a b. a + b) sum (shares digits m (trees_from xs i)) ≡ whole
      → sum + m / scale (scaled_tree x) * key digits (scaled_tree x) ≤ whole
  sum_so_far sum whole h = omega (arith, sum_next sum whole h, le_fold (sum + m / scale (scaled_tree x) * key digits (scaled_tree x)) (shares digits m (trees_from xs (i + 1))))

  pub least_next : (least whole : ℕ) → fold (λ a b. min a b) least (shares digits m (trees_from xs i)) ≡ whole
      → fold (λ a b. min a b) (min least (m / scale (scaled_tree x) * key digits (scaled_tree x))) (shares digits m (trees_from xs (i + 1))) ≡ whole
  least_next least whole h = rw shares_at at h

module _ (digits : List ℕ) (m : ℕ) (xs : List (ℕ × Tree)) (i : ℕ) (x : ℕ × Tree) (inside : i < length xs) (here : x ≡ get_or xs i x) where
  weighted_shares_at : weighted_shares digits m (weighted_from xs i) ≡ x.0 * (m / scale (scaled_tree x.1)) * key digits (scaled_tree x.1) ∷ weighted_shares digits m (weighted_from xs (i + 1))
  unfolding key shares weighted_shares
  weighted_shares_at = rw (weighted_at xs i x inside here) refl

  pub weighted_sum_next : (sum whole : ℕ) → fold (λ a b. a + b) sum (weighted_shares digits m (weighted_from xs i)) ≡ whole
      → fold (λ a b. a + b) (sum + x.0 * (m / scale (scaled_tree x.1)) * key digits (scaled_tree x.1)) (weighted_shares digits m (weighted_from xs (i + 1))) ≡ whole
  weighted_sum_next sum whole h = rw weighted_shares_at at h

  pub weighted_sum_so_far : (sum whole : ℕ) → fold (λ a b. a + b) sum (weighted_shares digits m (weighted_from xs i)) ≡ whole
      → sum + x.0 * (m / scale (scaled_tree x.1)) * key digits (scaled_tree x.1) ≤ whole
  weighted_sum_so_far sum whole h = omega (arith, weighted_sum_next sum whole h, le_fold (sum + x.0 * (m / scale (scaled_tree x.1)) * key digits (scaled_tree x.1)) (weighted_shares digits m (weighted_from xs (i + 1))))

-- behind the last argument
pub shares_end : (digits : List ℕ) (m : ℕ) (xs : List Tree) (i : ℕ) → length xs ≤ i → shares digits m (trees_from xs i) ≡ []
unfolding key shares weighted_shares
shares_end digits m xs i out = rw (drop_end xs i out) refl

pub weighted_shares_end : (digits : List ℕ) (m : ℕ) (xs : List (ℕ × Tree)) (i : ℕ) → length xs ≤ i → weighted_shares digits m (weighted_from xs i) ≡ []
unfolding key shares weighted_shares
weighted_shares_end digits m xs i out = rw (drop_end xs i out) refl

-- the least of arguments, of which there may be none
pub least_of_none : (digits : List ℕ) (m : ℕ) → least_of (shares digits m (scaled_trees (map scaled_tree []))) ≡ 0
unfolding key shares weighted_shares least_of
least_of_none digits m = refl

pub least_of_first : (digits : List ℕ) (m : ℕ) (x : Tree) (xs : List Tree)
    → least_of (shares digits m (scaled_trees (map scaled_tree (x ∷ xs)))) ≡ fold (λ a b. min a b) (m / scale (scaled_tree x) * key digits (scaled_tree x)) (shares digits m (trees_from xs 0))
unfolding key shares weighted_shares least_of
least_of_first digits m x xs = refl

-- the key of a leaf
pub leaf_key : (digits : List ℕ) (i : ℕ) → key digits (leaf i) ≡ slice_index digits i
unfolding key shares weighted_shares
leaf_key digits i = refl

pub times_assoc : (a b c : ℕ) → a * (b * c) ≡ a * b * c
times_assoc a b c = omega arith
