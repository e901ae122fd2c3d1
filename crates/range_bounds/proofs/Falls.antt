-- Smaller beliefs have a greater key.
use Rattle.std.proofs.Common.{◌≤◌, ℕ, zero, suc, List, [], ◌∷◌, arith, mul-le-mul_left}
use Rattle.std.specs.Prelude.{All, slice_index}
use Rattle.std.specs.List.{AllZip}
use Rattle.ri_base.specs.Ratio.{IsBelief, Ratio}
use Rattle.log_chain.proofs.Rises.{chain_digits_rise}
use Rattle.smoothing.specs.Bounds.{IsAtMost}
use Rattle.query_check.specs.Trees.{ScaledTree}
use Rattle.belief_nodes.specs.Keys.{digits_at, key_at}
use Rattle.belief_nodes.proofs.Kept.{IsKept, tree_kept}
use Rattle.belief_nodes.proofs.Lists.{all_first, all_rest}

IsLess : Ratio → ℕ → ℕ → ℕ → Type 0
IsLess r k l e = k ≤ l

kept : IsKept IsLess
unfolding IsLess
kept = record {
  empty = λ e. omega arith;
  added = λ r s k k' l l' e f h i. omega (arith, h, i);
  taken = λ r a k l e h. mul-le-mul_left a h;
  chosen = λ r s k k' l l' e h i. omega (arith, h, i);
}

digits_rise : (k : ℕ) (beliefs bounds : List Ratio) → All IsBelief beliefs → All IsBelief bounds → AllZip IsAtMost beliefs bounds
    → (i : ℕ) → slice_index (digits_at k bounds) i ≤ slice_index (digits_at k beliefs) i
digits_rise k [] [] a b h i = omega arith
digits_rise k [] (s ∷ ss) a b h i = absurd h
digits_rise k (r ∷ rs) [] a b h i = absurd h
digits_rise k (r ∷ rs) (s ∷ ss) a b h zero =
    chain_digits_rise s.p s.q r.p r.q k (all_first IsBelief s ss b).positive (all_first IsBelief r rs a).positive (omega (arith, h.0))
digits_rise k (r ∷ rs) (s ∷ ss) a b h (suc i) = digits_rise k rs ss (all_rest IsBelief r rs a) (all_rest IsBelief s ss b) h.1 i

pub key_falls : (t : ScaledTree) (beliefs bounds : List Ratio) (k : ℕ) → All IsBelief beliefs → All IsBelief bounds → AllZip IsAtMost beliefs bounds → key_at k bounds t ≤ key_at k beliefs t
unfolding IsLess
key_falls t beliefs bounds k a b h = tree_kept IsLess kept beliefs (digits_at k bounds) (digits_at k beliefs) (digits_rise k beliefs bounds a b h) t
