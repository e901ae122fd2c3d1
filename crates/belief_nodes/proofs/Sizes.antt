-- How large a key is.
use Rattle.std.proofs.Common.{◌≡◌, ℕ, ◌*◌, ◌/◌, ◌≤◌, List, [], refl, arith, inl, inr, min, mul-le-mul_left}
use Rattle.std.specs.Prelude.{All, sum, length, slice_index}
use Rattle.std.specs.Int.{◌∣◌}
use Rattle.std.proofs.Math.Nat.{div-mul_cancel, min-eq_left, min-eq_right}
use Rattle.std.proofs.lemmas.Bool.{cases_lt}
use Rattle.std.proofs.lemmas.List.{get_or_past}
use Rattle.query_check.specs.Scale.{scale, common, weighted_common, count, total}
use Rattle.query_check.specs.Trees.{ScaledTree, ScaledTrees, WeightedScaledTrees}
use Rattle.belief_nodes.specs.Keys.{key, shares, weighted_shares}
use Rattle.belief_nodes.specs.Products.{one}
use Rattle.belief_nodes.proofs.Kept.{IsKept, tree_kept, sum_kept, weighted_sum_kept}

min_at_most : (k l b : ℕ) → k ≤ b → l ≤ b → min k l ≤ b
min_at_most k l b h h' = elim (cases_lt l k) [
  | inl x ↦ rw (let e : min k l ≡ l = min-eq_right (omega arith) in e) h'
  | inr x ↦ rw (min-eq_left x) h
]

size_kept : (b : ℕ) → IsKept (λ r k l e. k ≤ e * b)
size_kept b = record {
  empty = λ e. omega arith;
  added = λ r s k k' l l' e f h h'. omega arith;
  taken = λ r a k l e h. (let x : a * k ≤ a * (e * b) = mul-le-mul_left a h in omega arith);
  chosen = λ r s k k' l l' e h h'. min_at_most k k' (e * b) h h';
}

-- past their end digits are 0
leaf_size : (digits : List ℕ) (b : ℕ) → All (λ c. c ≤ b) digits → (i : ℕ) → slice_index digits i ≤ 1 * b
leaf_size digits b h i = elim (cases_lt i (length digits)) [
  | inl x ↦ omega (arith, h i 0 x)
  | inr x ↦ rw (get_or_past digits i 0 x) (omega arith)
]

module _ (digits : List ℕ) (b : ℕ) (h : All (λ c. c ≤ b) digits) where
  pub key_size : (t : ScaledTree) → key digits t ≤ scale t * b
  key_size t = tree_kept (λ r k l e. k ≤ e * b) (size_kept b) [] digits digits (leaf_size digits b h) t

  pub sum_size : (m : ℕ) (xs : ScaledTrees) → common xs ∣ m → sum (shares digits m xs) ≤ count xs * m * b
  sum_size m xs d = omega (arith, sum_kept (λ r k l e. k ≤ e * b) (size_kept b) [] digits digits (leaf_size digits b h) m xs one 0 0 0 d (omega arith))

  pub weighted_sum_size : (m : ℕ) (xs : WeightedScaledTrees) → weighted_common xs ∣ m → sum (weighted_shares digits m xs) ≤ total xs * m * b
  weighted_sum_size m xs d = omega (arith, weighted_sum_kept (λ r k l e. k ≤ e * b) (size_kept b) [] digits digits (leaf_size digits b h) m xs one 0 0 0 d (omega arith))

  pub share_size : (m : ℕ) (t : ScaledTree) → scale t ∣ m → m / scale t * key digits t ≤ m * b
  share_size m t d =
      let is : m / scale t * scale t ≡ m = div-mul_cancel (scale t) d in
      let a : m / scale t * key digits t ≤ m / scale t * (scale t * b) = mul-le-mul_left (m / scale t) (key_size t) in
      let c : m / scale t * scale t * b ≡ m * b = rw is refl in
      omega arith
