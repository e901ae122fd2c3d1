-- Fractions as pairs of whole numbers, not reduced.
use Rattle.std.specs.Prelude.{ℕ, ◌^◌, ◌<◌, ◌≤◌}
use Rattle.ri_base.specs.declared.fraction.Fraction.{Fraction}

-- the number p / q
pub record Ratio : Type 0 where
  pub p : ℕ
  pub q : ℕ

-- a fraction of the program, as its numbers stand
abbrev pub ratio_of : Fraction → Ratio
ratio_of f = record { p = f.p; q = f.q }

-- a number that the program can hold as a belief: above 0 and at most 1, in 64 bits
pub record IsBelief (r : Ratio) : Type 0 where
  pub positive : 0 < r.p
  pub at_most_one : r.p ≤ r.q
  pub fits : r.q < 2 ^ 64
