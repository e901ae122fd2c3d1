-- What the product and two keys of a tree keep of what its leaves have.
use Rattle.std.proofs.Common.{◌≡◌, ℕ, ◌+◌, ◌*◌, ◌/◌, List, arith, refl, min}
use Rattle.std.specs.Prelude.{fold, slice_index, slice_index_or, cond}
use Rattle.std.specs.Int.{◌∣◌}
use Rattle.std.specs.List.{best_of}
use Rattle.std.proofs.Math.Nat.{div-mul_cancel}
use Rattle.std.proofs.lemmas.Nat.Gcd.{dvd_refl, dvd_trans}
use Rattle.ri_base.specs.Ratio.{Ratio}
use Rattle.query_check.specs.Scale.{scale, common, weighted_common, count, total}
use Rattle.query_check.specs.Trees.{ScaledTree, ScaledTrees, WeightedScaledTrees, leaf, combine, weight, greatest, none, more, none_weighted, more_weighted}
use Rattle.query_check.proofs.MultipleLemmas.{lcm_left, lcm_right}
use Rattle.belief_nodes.specs.Keys.{key, shares, weighted_shares, least_of}
use Rattle.belief_nodes.specs.Products.{one, times, power, is_greater, greatest_of, product, powers, weighted_powers}

-- a relation of a product, two keys and a scale that passes from the arguments of an operator to the operator
pub record IsKept (R : Ratio → ℕ → ℕ → ℕ → Type 0) : Type 0 where
  pub empty : (e : ℕ) → R one 0 0 e
  pub added : (r s : Ratio) (k k' l l' e f : ℕ) → R r k l e → R s k' l' f → R (times r s) (k + k') (l + l') (e + f)
  pub taken : (r : Ratio) (a k l e : ℕ) → R r k l e → R (power r a) (a * k) (a * l) (a * e)
  pub chosen : (r s : Ratio) (k k' l l' e : ℕ) → R r k l e → R s k' l' e → R (cond (is_greater s r) s r) (min k k') (min l l') e

module _ (R : Ratio → ℕ → ℕ → ℕ → Type 0) (kept : IsKept R) where
  -- brought to a scale that is a multiple
  brought : (r : Ratio) (k l e m : ℕ) → e ∣ m → R r k l e → R (power r (m / e)) (m / e * k) (m / e * l) m
  brought r k l e m d h = rw (div-mul_cancel e d) at (kept.taken r (m / e) k l e h)

  -- and taken w times
  weighed : (r : Ratio) (k l e m w : ℕ) → e ∣ m → R r k l e → R (power r (w * (m / e))) (w * (m / e) * k) (w * (m / e) * l) (w * m)
  weighed r k l e m w d h =
      let is : m / e * e ≡ m = div-mul_cancel e d in
      let same : w * (m / e) * e ≡ w * m = (let y : w * (m / e * e) ≡ w * m = rw is refl in omega arith) in
      rw same at (kept.taken r (w * (m / e)) k l e h)

module _ (R : Ratio → ℕ → ℕ → ℕ → Type 0) (kept : IsKept R) (beliefs : List Ratio) (c d : List ℕ)
    (leaves : (i : ℕ) → R (slice_index_or beliefs i one) (slice_index c i) (slice_index d i) 1) where
  mutual
    unfolding product powers weighted_powers key shares weighted_shares scale common weighted_common count total greatest_of least_of

    pub tree_kept : (t : ScaledTree) → R (product beliefs t) (key c t) (key d t) (scale t)
    tree_kept (leaf i) = leaves i
    tree_kept (combine e xs) =
        let same : 0 + count xs * common xs ≡ count xs * common xs = omega arith in
        rw same at (sum_kept (common xs) xs one 0 0 0 (dvd_refl (common xs)) (kept.empty 0))
    tree_kept (weight e xs) =
        let same : 0 + total xs * weighted_common xs ≡ total xs * weighted_common xs = omega arith in
        rw same at (weighted_sum_kept (weighted_common xs) xs one 0 0 0 (dvd_refl (weighted_common xs)) (kept.empty 0))
    tree_kept (greatest e none) = kept.empty 1
    tree_kept (greatest e (more x xs)) =
        best_kept (common (more x xs)) xs _ _ _ (dvd_trans _ (lcm_right (scale x) (common xs)) (dvd_refl (common (more x xs))))
        (brought R kept _ _ _ (scale x) (common (more x xs)) (lcm_left (scale x) (common xs)) (tree_kept x))

    pub sum_kept : (m : ℕ) (xs : ScaledTrees) (r : Ratio) (k l e : ℕ) → common xs ∣ m → R r k l e
        → R (fold times r (powers beliefs m xs)) (fold (λ a b. a + b) k (shares c m xs)) (fold (λ a b. a + b) l (shares d m xs)) (e + count xs * m)
    sum_kept m none r k l e v h = (let same : e + 0 * m ≡ e = omega arith in rw same h)
    sum_kept m (more x xs) r k l e v h =
        let same : e + (1 + count xs) * m ≡ e + m + count xs * m = omega arith in
        rw same (sum_kept m xs _ _ _ (e + m) (dvd_trans _ (lcm_right (scale x) (common xs)) v)
        (kept.added _ _ _ _ _ _ _ _ h (brought R kept _ _ _ (scale x) m (dvd_trans _ (lcm_left (scale x) (common xs)) v) (tree_kept x))))

    pub weighted_sum_kept : (m : ℕ) (xs : WeightedScaledTrees) (r : Ratio) (k l e : ℕ) → weighted_common xs ∣ m → R r k l e
        → R (fold times r (weighted_powers beliefs m xs)) (fold (λ a b. a + b) k (weighted_shares c m xs)) (fold (λ a b. a + b) l (weighted_shares d m xs)) (e + total xs * m)
    weighted_sum_kept m none_weighted r k l e v h = (let same : e + 0 * m ≡ e = omega arith in rw same h)
    weighted_sum_kept m (more_weighted w x xs) r k l e v h =
        let same : e + (w + total xs) * m ≡ e + w * m + total xs * m = omega arith in
        rw same (weighted_sum_kept m xs _ _ _ (e + w * m) (dvd_trans _ (lcm_right (scale x) (weighted_common xs)) v)
        (kept.added _ _ _ _ _ _ _ _ h (weighed R kept _ _ _ (scale x) m w (dvd_trans _ (lcm_left (scale x) (weighted_common xs)) v) (tree_kept x))))

    best_kept : (m : ℕ) (xs : ScaledTrees) (r : Ratio) (k l : ℕ) → common xs ∣ m → R r k l m
        → R (best_of is_greater r (powers beliefs m xs)) (fold (λ a b. min a b) k (shares c m xs)) (fold (λ a b. min a b) l (shares d m xs)) m
    best_kept m none r k l v h = h
    best_kept m (more x xs) r k l v h =
        best_kept m xs _ _ _ (dvd_trans _ (lcm_right (scale x) (common xs)) v)
        (kept.chosen _ _ _ _ _ _ _ h (brought R kept _ _ _ (scale x) m (dvd_trans _ (lcm_left (scale x) (common xs)) v) (tree_kept x)))
