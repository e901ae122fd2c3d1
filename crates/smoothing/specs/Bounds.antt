-- Bounds of the belief of a leaf.
use Rattle.std.specs.Prelude.{ℕ, ◌*◌, ◌^◌, ◌≤◌}
use Rattle.ri_base.specs.Ratio.{Ratio}

-- one fraction is at most another
abbrev pub IsAtMost : Ratio → Ratio → Type 0
IsAtMost r s = r.p * s.q ≤ s.p * r.q

-- a leaf occurs at most `most` times in a document, a field or a passage of at least `least` words, and cf times in the
-- total words of the collection: numbers no greater than those of which beliefs are made
pub record AreLimits (most least cf total : ℕ) : Type 0 where
  pub fits : most ≤ 2 ^ 20
  pub short : least ≤ 2 ^ 20
  pub part : cf ≤ total
  pub few : total ≤ 2 ^ 29
