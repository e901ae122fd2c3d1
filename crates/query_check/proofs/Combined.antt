-- The scale of an operator over its arguments.
use Rattle.std.proofs.Common.{◌≡◌, ℕ, List, [], ◌∷◌, map, Some, None, length, ◌<◌, ◌≤◌, ◌+◌, ◌*◌, ◌^◌, zero, suc, refl, ap, arith, ◌∙◌}
use Rattle.query_check.specs.declared.tree.Tree.{Tree}
use Rattle.query_check.specs.Check.{combined, weighed, greatest_of}
use Rattle.query_check.specs.Limit.{below_limit}
use Rattle.query_check.specs.Scale.{count, total, scale, common, weighted_common}
use Rattle.query_check.specs.Trees.{ScaledTrees, WeightedScaledTrees, combine, weight, greatest, scaled_tree, scaled_trees}
use Rattle.query_check.proofs.Limits.{is_below, is_beyond}

pub count_is : (xs : List Tree) → count (scaled_trees (map scaled_tree xs)) ≡ length xs
unfolding count
count_is [] = refl
count_is (x ∷ xs) = ap (λ n. 1 + n) (count_is xs) ∙ omega arith

pub parts_positive : (a b : ℕ) → 0 < a * b → (0 < a) × (0 < b)
parts_positive zero b h = absurd (omega (arith, h))
parts_positive (suc a) zero h = absurd (omega (arith, h))
parts_positive (suc a) (suc b) h = (omega arith, omega arith)

pub le_times_left : (a b : ℕ) → 0 < a → b ≤ a * b
le_times_left zero b h = absurd (omega arith)
le_times_left (suc a) b h = omega arith

pub le_times_right : (a b : ℕ) → 0 < b → a ≤ a * b
le_times_right a zero h = absurd (omega arith)
le_times_right a (suc b) h = omega arith

module _ (xs : ScaledTrees) where
  pub combined_scale : scale (combined xs) ≡ count xs * common xs
  unfolding combined scale common weighted_common
  combined_scale = refl

  pub combined_is : combined xs ≡ combine (count xs * common xs) xs
  unfolding combined
  combined_is = refl

  pub greatest_scale : scale (greatest_of xs) ≡ common xs
  unfolding greatest_of scale common weighted_common
  greatest_scale = refl

  pub greatest_is : greatest_of xs ≡ greatest (common xs) xs
  unfolding greatest_of
  greatest_is = refl

  pub greatest_le : common xs ≤ scale (greatest_of xs)
  greatest_le = rw greatest_scale (omega arith)

  pub combined_parts : 0 < scale (combined xs) → (0 < count xs) × (0 < common xs)
  combined_parts h = parts_positive (count xs) (common xs) (rw combined_scale at h)

  pub combined_common : 0 < scale (combined xs) → common xs ≤ scale (combined xs)
  combined_common h = rw combined_scale (le_times_left (count xs) (common xs) (combined_parts h).0)

module _ (xs : WeightedScaledTrees) where
  pub weighed_scale : scale (weighed xs) ≡ total xs * weighted_common xs
  unfolding weighed scale common weighted_common
  weighed_scale = refl

  pub weighed_is : weighed xs ≡ weight (total xs * weighted_common xs) xs
  unfolding weighed
  weighed_is = refl

  pub weighed_parts : 0 < scale (weighed xs) → (0 < total xs) × (0 < weighted_common xs)
  weighed_parts h = parts_positive (total xs) (weighted_common xs) (rw weighed_scale at h)

  pub weighed_common : 0 < scale (weighed xs) → weighted_common xs ≤ scale (weighed xs)
  weighed_common h = rw weighed_scale (le_times_left (total xs) (weighted_common xs) (weighed_parts h).0)

  pub weighed_total : 0 < scale (weighed xs) → total xs ≤ scale (weighed xs)
  weighed_total h = rw weighed_scale (le_times_right (total xs) (weighted_common xs) (weighed_parts h).1)

pub combined_too_large : (xs : List Tree) (m : ℕ) → below_limit (common (scaled_trees (map scaled_tree xs))) ≡ Some m → below_limit (length xs * m) ≡ None → 2 ^ 60 ≤ scale (combined (scaled_trees (map scaled_tree xs)))
combined_too_large xs m h found =
    let is : m ≡ common (scaled_trees (map scaled_tree xs)) = (is_below _ _ h).0 in
    let big : 2 ^ 60 ≤ length xs * common (scaled_trees (map scaled_tree xs)) = rw is at (is_beyond _ found) in
    rw (combined_scale (scaled_trees (map scaled_tree xs)), count_is xs) big

pub combined_fits : (xs : List Tree) (m e : ℕ) → below_limit (common (scaled_trees (map scaled_tree xs))) ≡ Some m → below_limit (length xs * m) ≡ Some e
    → (e ≡ count (scaled_trees (map scaled_tree xs)) * common (scaled_trees (map scaled_tree xs))) × (scale (combined (scaled_trees (map scaled_tree xs))) < 2 ^ 60)
combined_fits xs m e h found =
    let is : m ≡ common (scaled_trees (map scaled_tree xs)) = (is_below _ _ h).0 in
    let fits = is_below _ _ found in
    let small : length xs * common (scaled_trees (map scaled_tree xs)) < 2 ^ 60 = rw is at fits.1 in
    let number : e ≡ length xs * common (scaled_trees (map scaled_tree xs)) = rw is at fits.0 in
    (rw (count_is xs) number, rw (combined_scale (scaled_trees (map scaled_tree xs)), count_is xs) small)

pub weighed_too_large : (xs : WeightedScaledTrees) (m s : ℕ) → below_limit (weighted_common xs) ≡ Some m → below_limit (total xs) ≡ Some s → below_limit (s * m) ≡ None → 2 ^ 60 ≤ scale (weighed xs)
weighed_too_large xs m s h t found =
    let is : m ≡ weighted_common xs = (is_below _ _ h).0 in
    let sum : s ≡ total xs = (is_below _ _ t).0 in
    let big : 2 ^ 60 ≤ total xs * weighted_common xs = rw (is, sum) at (is_beyond _ found) in
    rw (weighed_scale xs) big

pub weighed_fits : (xs : WeightedScaledTrees) (m s e : ℕ) → below_limit (weighted_common xs) ≡ Some m → below_limit (total xs) ≡ Some s → below_limit (s * m) ≡ Some e → (e ≡ total xs * weighted_common xs) × (scale (weighed xs) < 2 ^ 60)
weighed_fits xs m s e h t found =
    let is : m ≡ weighted_common xs = (is_below _ _ h).0 in
    let sum : s ≡ total xs = (is_below _ _ t).0 in
    let fits = is_below _ _ found in
    let small : total xs * weighted_common xs < 2 ^ 60 = rw (is, sum) at fits.1 in
    let number : e ≡ total xs * weighted_common xs = rw (is, sum) at fits.0 in
    (number, rw (weighed_scale xs) small)
