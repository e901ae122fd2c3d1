-- Keys at two levels.
use Rattle.std.proofs.Common.{◌≡◌, ℕ, zero, suc, ◌+◌, ◌-◌, ◌*◌, ◌^◌, ◌<◌, ◌≤◌, List, length, arith, inl, inr, min, le_of_lt, pow_pos, pow-suc, mul-le-mul_left, mul-le-mul_right}
use Rattle.std.specs.Prelude.{slice_index, slice_index_or}
use Rattle.std.proofs.Math.ListN.{length-map}
use Rattle.std.proofs.Math.Nat.{min-eq_left, min-eq_right, min-le_left, min-le_right}
use Rattle.std.proofs.lemmas.Bool.{cases_lt}
use Rattle.std.proofs.lemmas.List.{get_or_past, get_or-map}
use Rattle.ri_base.specs.Ratio.{Ratio}
use Rattle.log_chain.specs.Chain.{chain}
use Rattle.log_chain.proofs.Bounds.{chain_half, chain_small}
use Rattle.query_check.specs.Scale.{scale}
use Rattle.query_check.specs.Trees.{ScaledTree}
use Rattle.belief_nodes.specs.Keys.{key_at, digits_at}
use Rattle.belief_nodes.specs.Products.{one}
use Rattle.belief_nodes.proofs.Kept.{IsKept, tree_kept}
use Rattle.belief_nodes.proofs.Sizes.{key_size}

-- l is k with more binary digits, as many as a = 2 ^ s says
pub record IsLonger (a k l e : ℕ) : Type 0 where
  pub low : k * a ≤ l
  pub high : l + e ≤ (k + e) * a

longer_min : (a k k' l l' e : ℕ) → IsLonger a k l e → IsLonger a k' l' e → IsLonger a (min k k') (min l l') e
longer_min a k k' l l' e h h' =
    let x : min k k' * a ≤ k * a = mul-le-mul_right a (min-le_left k k') in
    let y : min k k' * a ≤ k' * a = mul-le-mul_right a (min-le_right k k') in
    let u : min l l' + e ≤ (k + e) * a = omega (arith, h.high, min-le_left l l') in
    let v : min l l' + e ≤ (k' + e) * a = omega (arith, h'.high, min-le_right l l') in
    record {
      low = elim (cases_lt l l') [
        | inl less ↦ rw (min-eq_left (le_of_lt less)) (omega (arith, h.low))
        | inr most ↦ rw (min-eq_right most) (omega (arith, h'.low))
      ];
      high = elim (cases_lt k k') [
        | inl less ↦ rw (min-eq_left (le_of_lt less)) u
        | inr most ↦ rw (min-eq_right most) v
      ];
    }

longer_kept : (a : ℕ) → 0 < a → IsKept (λ r k l e. IsLonger a k l e)
longer_kept a pos = record {
  empty = λ e. record { low = omega arith; high = (let x : e * 1 ≤ e * a = mul-le-mul_left e pos in omega arith) };
  added = λ r s k k' l l' e f h h'. record { low = omega (arith, h.low, h'.low); high = omega (arith, h.high, h'.high) };
  taken = λ r b k l e h.
      (let x : b * (k * a) ≤ b * l = mul-le-mul_left b h.low in
      let y : b * (l + e) ≤ b * ((k + e) * a) = mul-le-mul_left b h.high in
      record { low = omega arith; high = omega arith });
  chosen = λ r s k k' l l' e h h'. longer_min a k k' l l' e h h';
}

digits_longer : (p q k s : ℕ) → IsLonger (2 ^ s) (chain p q k).digits (chain p q (k + s)).digits 1
digits_longer p q k zero =
    let none : 2 ^ 0 ≡ 1 = omega arith in
    let same : k + 0 ≡ k = omega arith in
    rw (none, same) (record { low = omega arith; high = omega arith })
digits_longer p q k (suc s) =
    let h = digits_longer p q k s in
    let next : k + suc s ≡ suc (k + s) = omega arith in
    let half = chain_half p q (k + s) in
    let two : 2 ^ suc s ≡ 2 ^ s * 2 = pow-suc 2 s in
    rw (next, two) (record { low = omega (arith, h.low); high = omega (arith, h.high) })

leaf_longer : (beliefs : List Ratio) (k s i : ℕ) → IsLonger (2 ^ s) (slice_index (digits_at k beliefs) i) (slice_index (digits_at (k + s) beliefs) i) 1
leaf_longer beliefs k s i = elim (cases_lt i (length beliefs)) [
  | inl x ↦
      rw (get_or-map (λ r. (chain r.p r.q k).digits) beliefs i one 0 x, get_or-map (λ r. (chain r.p r.q (k + s)).digits) beliefs i one 0 x)
      (digits_longer (slice_index_or beliefs i one).p (slice_index_or beliefs i one).q k s)
  | inr x ↦ (
      let out : length (digits_at k beliefs) ≤ i = rw length-map x in
      let out' : length (digits_at (k + s) beliefs) ≤ i = rw length-map x in
      let some = pow_pos s in
      rw (get_or_past (digits_at k beliefs) i 0 out, get_or_past (digits_at (k + s) beliefs) i 0 out') (record { low = omega arith; high = omega (arith, some) }))
]

pub key_longer : (t : ScaledTree) (beliefs : List Ratio) (k s : ℕ) → IsLonger (2 ^ s) (key_at k beliefs t) (key_at (k + s) beliefs t) (scale t)
key_longer t beliefs k s =
    tree_kept (λ r c d e. IsLonger (2 ^ s) c d e) (longer_kept (2 ^ s) (pow_pos s)) beliefs (digits_at k beliefs) (digits_at (k + s) beliefs) (leaf_longer beliefs k s) t

digits_fit : (beliefs : List Ratio) (k b : ℕ) → b + 1 ≡ 2 ^ (k + 6) → (i d : ℕ) → i < length (digits_at k beliefs) → slice_index_or (digits_at k beliefs) i d ≤ b
digits_fit beliefs k b is i d inside =
    let x : i < length beliefs = rw length-map at inside in
    rw (get_or-map (λ r. (chain r.p r.q k).digits) beliefs i one d x) (omega (arith, is, chain_small (slice_index_or beliefs i one).p (slice_index_or beliefs i one).q k))

one_less : (k e b n : ℕ) → b + 1 ≡ n → k ≤ e * b → 0 < e → k < e * n
one_less k e b n is h some = rw (← is) (omega arith)

pub key_small_lem : (t : ScaledTree) (beliefs : List Ratio) (k : ℕ) → 0 < scale t → key_at k beliefs t < scale t * 2 ^ (k + 6)
key_small_lem t beliefs k some =
    let pos = pow_pos (k + 6) in
    let b = 2 ^ (k + 6) - 1 in
    let is : b + 1 ≡ 2 ^ (k + 6) = omega (arith, pos) in
    one_less (key_at k beliefs t) (scale t) b _ is (key_size (digits_at k beliefs) b (digits_fit beliefs k b is) t) some
