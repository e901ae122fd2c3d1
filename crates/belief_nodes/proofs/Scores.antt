-- The score of a key encloses the logarithm of the belief.
use Rattle.std.proofs.Common.{ℕ, ◌+◌, ◌*◌, ◌/◌, ◌^◌, ◌<◌, ◌≤◌, List, arith, inl, inr, pow_pos, pow_mono, mul-pos, mul-le-mul_left, mul-le-mul_right, mul-lt-mul_of_pos_right}
use Rattle.std.specs.Prelude.{All}
use Rattle.std.proofs.Math.Nat.{pow-le-pow_left, one-le-pow, div-mul-le_self, lt-div-mul-add}
use Rattle.std.proofs.Math.Pow.{pow-lt}
use Rattle.std.proofs.lemmas.Bool.{cases_lt}
use Rattle.std.proofs.lemmas.Nat.{mul-pow}
use Rattle.ri_base.specs.Ratio.{Ratio, IsBelief}
use Rattle.log_chain.specs.declared.chain.TheConstants.{LAST}
use Rattle.log_chain.proofs.Powers.{lower_power, upper_power, pow-mul, pow-pow_comm, pow_order}
use Rattle.query_check.specs.Scale.{scale}
use Rattle.query_check.specs.Trees.{ScaledTree}
use Rattle.log_chain.specs.Score.{score}
use Rattle.belief_nodes.specs.Keys.{key_at}
use Rattle.belief_nodes.specs.Products.{product}
use Rattle.belief_nodes.proofs.Enclosures.{key_encloses_lem}
use Rattle.belief_nodes.proofs.Powers.{Encloses}

-- s is at most k * m / (e * n)
scored_lower : (n : ℕ) (r : Ratio) (k e m s : ℕ) → 0 < n → Encloses n r k e → s * (e * n) ≤ k * m → 2 ^ (s * e) * r.p ^ m ≤ r.q ^ m
scored_lower n r k e m s pos h le =
    let a : 2 ^ (k * m) * (r.p ^ n) ^ m ≤ (r.q ^ n) ^ m = lower_power _ _ k m h.lower in
    let l : s * e * n ≤ k * m = omega arith in
    let b : 2 ^ (s * e * n) * (r.p ^ n) ^ m ≤ 2 ^ (k * m) * (r.p ^ n) ^ m = mul-le-mul_right _ (pow_mono l) in
    let c : 2 ^ (s * e * n) * (r.p ^ n) ^ m ≤ (r.q ^ n) ^ m = omega arith in
    let d : (2 ^ (s * e)) ^ n * (r.p ^ m) ^ n ≤ (r.q ^ m) ^ n = rw (pow-mul, pow-pow_comm r.p n m, pow-pow_comm r.q n m) at c in
    pow_order _ _ n pos (rw mul-pow d)

-- s + 1 is more than that, and the width of the key is at most one
scored_upper : (n : ℕ) (r : Ratio) (k e m s : ℕ) → Encloses n r k e → k * m < (s + 1) * (e * n) → 2 * m ≤ n → r.q ^ m < 2 ^ ((s + 2) * e) * r.p ^ m
scored_upper n r k e m s h less half = elim (cases_lt (r.q ^ m) (2 ^ ((s + 2) * e) * r.p ^ m)) [
  | inl x ↦ x
  | inr x ↦ (
      let a : (2 ^ ((s + 2) * e) * r.p ^ m) ^ n ≤ (r.q ^ m) ^ n = pow-le-pow_left x n in
      let b : (2 ^ ((s + 2) * e)) ^ n * (r.p ^ m) ^ n ≤ (r.q ^ m) ^ n = rw mul-pow at a in
      let c : 2 ^ ((s + 2) * e * n) * (r.p ^ m) ^ n ≤ (r.q ^ m) ^ n = rw pow-mul b in
      let u : (r.q ^ n) ^ m ≤ 2 ^ ((k + 2 * e) * m) * (r.p ^ n) ^ m = upper_power _ _ (k + 2 * e) m h.upper in
      let v : (r.q ^ m) ^ n ≤ 2 ^ ((k + 2 * e) * m) * (r.p ^ m) ^ n = rw (pow-pow_comm r.q n m, pow-pow_comm r.p n m) at u in
      let w : e * (2 * m) ≤ e * n = mul-le-mul_left e half in
      let y : (k + 2 * e) * m < (s + 2) * e * n = omega arith in
      let z : 2 ^ ((k + 2 * e) * m) * (r.p ^ m) ^ n < 2 ^ ((s + 2) * e * n) * (r.p ^ m) ^ n = mul-lt-mul_of_pos_right (pow-lt y) (one-le-pow n (r.p ^ m) (one-le-pow m r.p h.positive)) in
      absurd (omega arith))
]

module _ (t : ScaledTree) (beliefs : List Ratio) (h : All IsBelief beliefs) where
  pub score_lower : 2 ^ (score (scale t) (key_at LAST beliefs t) * scale t) * (product beliefs t).p ^ 1000000 ≤ (product beliefs t).q ^ 1000000
  score_lower =
      scored_lower (2 ^ LAST) _ _ _ 1000000 _ (pow_pos LAST) (key_encloses_lem t beliefs LAST h (omega arith))
      (div-mul-le_self (key_at LAST beliefs t * 1000000) (scale t * 2 ^ LAST))

  pub score_upper : 0 < scale t → (product beliefs t).q ^ 1000000 < 2 ^ ((score (scale t) (key_at LAST beliefs t) + 2) * scale t) * (product beliefs t).p ^ 1000000
  score_upper some =
      let z = key_at LAST beliefs t * 1000000 in
      let d = scale t * 2 ^ LAST in
      let a : z < z / d * d + d = lt-div-mul-add (mul-pos some (pow_pos LAST)) in
      let b : z < (z / d + 1) * d = omega arith in
      scored_upper (2 ^ LAST) _ _ _ 1000000 _ (key_encloses_lem t beliefs LAST h (omega arith)) b (omega arith)
