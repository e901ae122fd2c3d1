-- Leaves with the same beliefs have the same digits.
use Rattle.std.proofs.Common.{◌≡◌, ℕ, ◌*◌, List, [], ◌∷◌, arith, refl, ap, ap₂}
use Rattle.std.specs.Prelude.{All}
use Rattle.ri_base.specs.Ratio.{Ratio, IsBelief}
use Rattle.log_chain.specs.Chain.{Chain}
use Rattle.log_chain.proofs.Rises.{chain_same}
use Rattle.belief_nodes.specs.Keys.{digits_at}
use Rattle.belief_nodes.specs.Order.{IsSame}
use Rattle.belief_nodes.proofs.Lists.{all_first, all_rest}

pub digits_same : (a b : List Ratio) (k : ℕ) → All IsBelief a → All IsBelief b → IsSame a b → digits_at k a ≡ digits_at k b
digits_same [] [] k ha hb same = refl
digits_same [] (s ∷ ss) k ha hb same = absurd same
digits_same (r ∷ rs) [] k ha hb same = absurd same
digits_same (r ∷ rs) (s ∷ ss) k ha hb same =
    let e : r.q * s.p ≡ s.q * r.p = omega (arith, same.0) in
    ap₂ (λ (x : ℕ) (xs : List ℕ). x ∷ xs)
    (ap (λ (c : Chain). c.digits) (chain_same r.p r.q s.p s.q k (all_first IsBelief r rs ha).positive (all_first IsBelief s ss hb).positive e))
    (digits_same rs ss k (all_rest IsBelief r rs ha) (all_rest IsBelief s ss hb) same.1)
