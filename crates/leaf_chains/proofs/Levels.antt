-- Chains that were started and taken to a level have the digits of their fractions there.
use Rattle.std.proofs.Common.{◌≡◌, ℕ, List, [], ◌∷◌, map, refl, ap}
use Rattle.ri_base.specs.Ratio.{Ratio, ratio_of}
use Rattle.ri_base.specs.declared.fraction.Fraction.{Fraction}
use Rattle.log_chain.specs.Chain.{chain}
use Rattle.log_chain.specs.Progress.{digits_of}
use Rattle.leaf_chains.specs.Chains.{at_level, started}

pub digits_there : (k : ℕ) (fractions : List Fraction) → map digits_of (map (at_level k) (map started fractions)) ≡ map (λ (r : Ratio). (chain r.p r.q k).digits) (map ratio_of fractions)
digits_there k [] = refl
digits_there k (f ∷ fs) = ap (λ ds. (chain f.p f.q k).digits ∷ ds) (digits_there k fs)

-- and from one level to another
pub there_from : (k n : ℕ) (fractions : List Fraction) → map (at_level n) (map (at_level k) (map started fractions)) ≡ map (at_level n) (map started fractions)
there_from k n [] = refl
there_from k n (f ∷ fs) = ap (λ cs. at_level n (started f) ∷ cs) (there_from k n fs)
