-- The leaves of a candidate at the first level and at the last.
use Rattle.std.specs.Prelude.{ℕ, List, map}
use Rattle.log_chain.specs.Chain.{chain}
use Rattle.log_chain.specs.Progress.{Progress}
use Rattle.log_chain.specs.declared.chain.TheConstants.{FIRST, LAST}
use Rattle.ri_base.specs.Ratio.{Ratio}
use Rattle.ri_base.specs.declared.fraction.Fraction.{Fraction}
use Rattle.leaf_chains.specs.Chains.{at_level, started}

-- the digits at level k of the logarithms of these beliefs
abbrev pub digits_at : ℕ → List Ratio → List ℕ
digits_at k beliefs = map (λ r. (chain r.p r.q k).digits) beliefs

-- the belief whose digits these are
abbrev pub belief : Progress → Ratio
belief a = record { p = a.p; q = a.q }

-- fractions with their digits at the first level
abbrev pub early : List Fraction → List Progress
early fractions = map (at_level FIRST) (map started fractions)

-- and at the last
abbrev pub late : List Progress → List Progress
late leaves = map (at_level LAST) leaves
