-- Chains of digits at one level.
use Rattle.std.specs.Prelude.{◌≡◌, ℕ, List}
use Rattle.std.specs.List.{All}
use Rattle.ri_base.specs.declared.fraction.Fraction.{Fraction}
use Rattle.log_chain.specs.Progress.{Progress}

-- the chain of a fraction before any squaring
abbrev pub started : Fraction → Progress
started f = record { p = f.p; q = f.q; level = 0 }

-- the same fraction's at another level
abbrev pub at_level : ℕ → Progress → Progress
at_level k a = record a { level = k }

abbrev pub AreAt : ℕ → List Progress → Type 0
AreAt k chains = All (λ a. a.level ≡ k) chains
