-- The key of a window encloses the logarithm of its product, and what the keys of two windows tell.
use Rattle.std.proofs.Common.{◌≡◌, ℕ, ◌+◌, ◌*◌, ◌^◌, ◌<◌, ◌≤◌, List, length, arith, inl, inr, pow_mono, pow-add, mul-pos, mul-le-mul_left, mul-le-mul_right, mul-lt-mul_of_pos_right, le_of_lt}
use Rattle.std.specs.Prelude.{All, slice_index, slice_index_or}
use Rattle.std.proofs.Math.Nat.{pow-le-pow_left, one-le-pow}
use Rattle.std.proofs.Math.ListN.{length-map}
use Rattle.std.proofs.Math.Pow.{pow-lt}
use Rattle.std.proofs.lemmas.Bool.{cases_lt}
use Rattle.std.proofs.lemmas.List.{get_or_past, get_or-map}
use Rattle.std.proofs.lemmas.Nat.{mul-pow}
use Rattle.ri_base.specs.Ratio.{Ratio, IsBelief}
use Rattle.log_chain.specs.Chain.{chain}
use Rattle.log_chain.specs.declared.chain.TheConstants.{LAST}
use Rattle.log_chain.proofs.Bounds.{chain_lower, chain_upper}
use Rattle.query_check.specs.Scale.{scale}
use Rattle.query_check.specs.Trees.{ScaledTree}
use Rattle.belief_nodes.specs.Keys.{key_at, digits_at}
use Rattle.belief_nodes.specs.Order.{IsGreater, IsWithin}
use Rattle.belief_nodes.specs.Products.{one, product}
use Rattle.belief_nodes.proofs.Kept.{tree_kept}
use Rattle.belief_nodes.proofs.Powers.{Encloses, encloses_one, encloses_kept}

digits_enclose : (r : Ratio) (k : ℕ) → IsBelief r → k ≤ 60 → Encloses (2 ^ k) r (chain r.p r.q k).digits 1
digits_enclose r k h few =
    let above = chain_upper r.p r.q k h.positive h.at_most_one h.fits few in
    record {
      positive = h.positive;
      lower = chain_lower r.p r.q k h.positive h.at_most_one h.fits;
      upper = le_of_lt above;
      strict = λ some. above;
    }

-- past its end a list of beliefs has 1, and one of digits 0
leaf_encloses : (beliefs : List Ratio) (k : ℕ) → All IsBelief beliefs → k ≤ 60 → (i : ℕ) → Encloses (2 ^ k) (slice_index_or beliefs i one) (slice_index (digits_at k beliefs) i) 1
leaf_encloses beliefs k h few i = elim (cases_lt i (length beliefs)) [
  | inl x ↦ rw (get_or-map (λ r. (chain r.p r.q k).digits) beliefs i one 0 x) (digits_enclose (slice_index_or beliefs i one) k (h i one x) few)
  | inr x ↦ (
      let out : length (digits_at k beliefs) ≤ i = rw length-map x in
      rw (get_or_past beliefs i one x, get_or_past (digits_at k beliefs) i 0 out) (encloses_one (2 ^ k) 1))
]

pub key_encloses_lem : (t : ScaledTree) (beliefs : List Ratio) (k : ℕ) → All IsBelief beliefs → k ≤ 60 → Encloses (2 ^ k) (product beliefs t) (key_at k beliefs t) (scale t)
key_encloses_lem t beliefs k h few =
    tree_kept (λ r c d e. Encloses (2 ^ k) r c e) (encloses_kept (2 ^ k)) beliefs (digits_at k beliefs) (digits_at k beliefs) (leaf_encloses beliefs k h few) t

-- X / S is at most U, Y / T at least V, and U at most V
across : (X S U Y T V : ℕ) → X ≤ U * S → V * T ≤ Y → U ≤ V → X * T ≤ Y * S
across X S U Y T V up low le =
    let a : X * T ≤ U * S * T = mul-le-mul_right T up in
    let b : U * (S * T) ≤ V * (S * T) = mul-le-mul_right (S * T) le in
    let c : V * T * S ≤ Y * S = mul-le-mul_right S low in
    omega arith

across_strict : (X S U Y T V : ℕ) → 0 < S * T → X ≤ U * S → V * T ≤ Y → U < V → X * T < Y * S
across_strict X S U Y T V pos up low less =
    let a : X * T ≤ U * S * T = mul-le-mul_right T up in
    let b : U * (S * T) < V * (S * T) = mul-lt-mul_of_pos_right less pos in
    let c : V * T * S ≤ Y * S = mul-le-mul_right S low in
    omega arith

-- a key that is larger by more than 2 * e is that of a smaller number
apart : (n : ℕ) (r s : Ratio) (k l e : ℕ) → Encloses n r k e → Encloses n s l e → k + 2 * e < l → s.p * r.q < r.p * s.q
apart n r s k l e h h' less = elim (cases_lt (s.p * r.q) (r.p * s.q)) [
  | inl x ↦ x
  | inr x ↦ (
      let a : (r.p * s.q) ^ n ≤ (s.p * r.q) ^ n = pow-le-pow_left x n in
      let b : r.p ^ n * s.q ^ n ≤ s.p ^ n * r.q ^ n = rw (mul-pow, mul-pow) at a in
      let two : 2 ^ (k + 2 * e) < 2 ^ l = pow-lt less in
      let c : r.q ^ n * s.p ^ n < s.q ^ n * r.p ^ n = across_strict _ _ _ _ _ _ (mul-pos (one-le-pow n r.p h.positive) (one-le-pow n s.p h'.positive)) h.upper h'.lower two in
      absurd (omega arith))
]

-- keys that differ by at most 2 * e are those of numbers near to each other
near : (n : ℕ) (r s : Ratio) (k l e : ℕ) → Encloses n r k e → Encloses n s l e → k ≤ l + 2 * e → (s.p * r.q) ^ n ≤ (r.p * s.q) ^ n * 2 ^ (4 * e)
near n r s k l e h h' le =
    let two : 2 ^ (k + 2 * e) ≤ 2 ^ (l + 4 * e) = (let x : k + 2 * e ≤ l + 4 * e = omega arith in pow_mono x) in
    let b : 2 ^ (4 * e) * (2 ^ l * s.p ^ n) ≤ 2 ^ (4 * e) * s.q ^ n = mul-le-mul_left (2 ^ (4 * e)) h'.lower in
    let four : 2 ^ (l + 4 * e) ≡ 2 ^ l * 2 ^ (4 * e) = pow-add 2 l (4 * e) in
    let b' : 2 ^ (l + 4 * e) * s.p ^ n ≤ s.q ^ n * 2 ^ (4 * e) = rw four (omega arith) in
    let c : r.q ^ n * s.p ^ n ≤ s.q ^ n * 2 ^ (4 * e) * r.p ^ n = across _ _ _ _ _ _ h.upper b' two in
    rw (mul-pow, mul-pow) (omega arith)

module _ (t : ScaledTree) (a b : List Ratio) (ha : All IsBelief a) (hb : All IsBelief b) where
  pub keys_apart_lem : (k : ℕ) → k ≤ 60 → key_at k a t + 2 * scale t < key_at k b t → IsGreater t a b
  keys_apart_lem k few less = apart (2 ^ k) _ _ _ _ _ (key_encloses_lem t a k ha few) (key_encloses_lem t b k hb few) less

  pub keys_within_lem : key_at LAST a t ≤ key_at LAST b t + 2 * scale t → IsWithin t b a
  keys_within_lem le = near (2 ^ LAST) _ _ _ _ _ (key_encloses_lem t a LAST ha (omega arith)) (key_encloses_lem t b LAST hb (omega arith)) le
