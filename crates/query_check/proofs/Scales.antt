-- The scale of trees, from one place of a list on.
use Rattle.std.proofs.Common.{◌≡◌, ℕ, List, map, length, drop, get_or, ◌<◌, ◌≤◌, ◌+◌, ◌*◌, refl, sym, arith, Bool, true, false, ◌∙◌}
use Rattle.std.specs.Prelude.{◌==◌, ◌&&◌}
use Rattle.std.proofs.lemmas.Bool.Decides.{nat_tests}
use Rattle.query_check.specs.declared.tree.Tree.{Tree}
use Rattle.query_check.specs.Multiples.{lcm}
use Rattle.query_check.specs.Scale.{count, total, scale, common, weighted_common, is_scaled, are_scaled, are_weighted_scaled}
use Rattle.query_check.specs.Trees.{ScaledTree, leaf, combine, weight, greatest, scaled_tree, scaled_trees, weighted_scaled_tree, weighted_scaled_trees}
use Rattle.query_check.proofs.MultipleLemmas.{lcm_parts, lcm_one, lcm_step}
use Rattle.query_check.proofs.Walks.{drop_at, drop_end}

pub both_left : (a b : Bool) → (a && b) ≡ true → a ≡ true
both_left true b h = refl
both_left false b h = cc

pub both_right : (a b : Bool) → (a && b) ≡ true → b ≡ true
both_right true b h = h
both_right false b h = cc

pub same_number : (m n : ℕ) → (m == n) ≡ true → m ≡ n
same_number m n h = grind (arith, nat_tests)

-- the number before the arguments
abbrev number : ScaledTree → ℕ
number (leaf i) = 1
number (combine e xs) = e
number (weight e xs) = e
number (greatest e xs) = e

lcm_end : (m whole : ℕ) → 0 < whole → lcm m 1 ≡ whole → m ≡ whole
lcm_end m whole pos e =
    let all : 0 < lcm m 1 = rw e pos in
    sym (lcm_one m (lcm_parts m 1 all).0) ∙ e

pub number_is : (t : ScaledTree) → is_scaled t ≡ true → scale t ≡ number t
unfolding is_scaled are_scaled are_weighted_scaled scale common weighted_common
number_is (leaf i) h = refl
number_is (combine e xs) h = sym (same_number e _ (both_left (e == count xs * common xs) (are_scaled xs) h))
number_is (weight e xs) h = sym (same_number e _ (both_left (e == total xs * weighted_common xs) (are_weighted_scaled xs) h))
number_is (greatest e xs) h = sym (same_number e _ (both_left (e == common xs) (are_scaled xs) h))

module _ (xs : List Tree) (i : ℕ) (x : Tree) (inside : i < length xs) (here : x ≡ get_or xs i x) where
  pub common_at : common (scaled_trees (map scaled_tree (drop i xs))) ≡ lcm (scale (scaled_tree x)) (common (scaled_trees (map scaled_tree (drop (i + 1) xs))))
  unfolding scale common weighted_common
  common_at = rw (drop_at xs i x inside here) refl

  pub scaled_at : are_scaled (scaled_trees (map scaled_tree (drop i xs))) ≡ true → (is_scaled (scaled_tree x) ≡ true) × (are_scaled (scaled_trees (map scaled_tree (drop (i + 1) xs))) ≡ true)
  unfolding is_scaled are_scaled are_weighted_scaled
  scaled_at h =
      let h' : (is_scaled (scaled_tree x) && are_scaled (scaled_trees (map scaled_tree (drop (i + 1) xs)))) ≡ true = rw (drop_at xs i x inside here) at h in
      (both_left (is_scaled (scaled_tree x)) _ h', both_right (is_scaled (scaled_tree x)) _ h')

module _ (xs : List (ℕ × Tree)) (i : ℕ) (x : ℕ × Tree) (inside : i < length xs) (here : x ≡ get_or xs i x) where
  pub weighted_common_at : weighted_common (weighted_scaled_trees (map weighted_scaled_tree (drop i xs))) ≡ lcm (scale (scaled_tree x.1)) (weighted_common (weighted_scaled_trees (map weighted_scaled_tree (drop (i + 1) xs))))
  unfolding scale common weighted_common
  weighted_common_at = rw (drop_at xs i x inside here) refl

  pub weighted_scaled_at : are_weighted_scaled (weighted_scaled_trees (map weighted_scaled_tree (drop i xs))) ≡ true → (is_scaled (scaled_tree x.1) ≡ true) × (are_weighted_scaled (weighted_scaled_trees (map weighted_scaled_tree (drop (i + 1) xs))) ≡ true)
  unfolding is_scaled are_scaled are_weighted_scaled
  weighted_scaled_at h =
      let h' : (is_scaled (scaled_tree x.1) && are_weighted_scaled (weighted_scaled_trees (map weighted_scaled_tree (drop (i + 1) xs)))) ≡ true = rw (drop_at xs i x inside here) at h in
      (both_left (is_scaled (scaled_tree x.1)) _ h', both_right (is_scaled (scaled_tree x.1)) _ h')

  pub total_at : total (weighted_scaled_trees (map weighted_scaled_tree (drop i xs))) ≡ x.0 + total (weighted_scaled_trees (map weighted_scaled_tree (drop (i + 1) xs)))
  unfolding total
  total_at = rw (drop_at xs i x inside here) refl

-- behind the last of a list
pub common_end : (xs : List Tree) (i m whole : ℕ) → length xs ≤ i → 0 < whole → lcm m (common (scaled_trees (map scaled_tree (drop i xs)))) ≡ whole → m ≡ whole
unfolding scale common weighted_common
common_end xs i m whole out pos e = lcm_end m whole pos (rw (drop_end xs i out) at e)

pub weighted_common_end : (xs : List (ℕ × Tree)) (i m whole : ℕ) → length xs ≤ i → 0 < whole → lcm m (weighted_common (weighted_scaled_trees (map weighted_scaled_tree (drop i xs)))) ≡ whole → m ≡ whole
unfolding scale common weighted_common
weighted_common_end xs i m whole out pos e = lcm_end m whole pos (rw (drop_end xs i out) at e)

pub total_end : (xs : List (ℕ × Tree)) (i : ℕ) → length xs ≤ i → total (weighted_scaled_trees (map weighted_scaled_tree (drop i xs))) ≡ 0
unfolding total
total_end xs i out = rw (drop_end xs i out) refl

-- the common multiple, one tree more
pub common_next : (xs : List Tree) (i : ℕ) (x : Tree) → i < length xs → x ≡ get_or xs i x → (m whole : ℕ) → 0 < whole → lcm m (common (scaled_trees (map scaled_tree (drop i xs)))) ≡ whole
    → (lcm (lcm m (scale (scaled_tree x))) (common (scaled_trees (map scaled_tree (drop (i + 1) xs)))) ≡ whole) × (0 < m) × (0 < scale (scaled_tree x)) × (0 < common (scaled_trees (map scaled_tree (drop (i + 1) xs)))) × (lcm m (scale (scaled_tree x)) ≤ whole)
common_next xs i x inside here m whole pos e = lcm_step m (scale (scaled_tree x)) (common (scaled_trees (map scaled_tree (drop (i + 1) xs)))) whole pos (rw (common_at xs i x inside here) at e)

pub weighted_common_next : (xs : List (ℕ × Tree)) (i : ℕ) (x : ℕ × Tree) → i < length xs → x ≡ get_or xs i x → (m whole : ℕ) → 0 < whole → lcm m (weighted_common (weighted_scaled_trees (map weighted_scaled_tree (drop i xs)))) ≡ whole
    → (lcm (lcm m (scale (scaled_tree x.1))) (weighted_common (weighted_scaled_trees (map weighted_scaled_tree (drop (i + 1) xs)))) ≡ whole) × (0 < m) × (0 < scale (scaled_tree x.1)) × (0 < weighted_common (weighted_scaled_trees (map weighted_scaled_tree (drop (i + 1) xs)))) × (lcm m (scale (scaled_tree x.1)) ≤ whole)
weighted_common_next xs i x inside here m whole pos e = lcm_step m (scale (scaled_tree x.1)) (weighted_common (weighted_scaled_trees (map weighted_scaled_tree (drop (i + 1) xs)))) whole pos (rw (weighted_common_at xs i x inside here) at e)
