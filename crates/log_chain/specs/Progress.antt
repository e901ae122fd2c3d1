-- How far the digits of a logarithm were taken.
use Rattle.std.specs.Prelude.{◌≡◌, ℕ, ◌+◌, ◌*◌, ◌^◌, ◌<◌, ◌≤◌}
use Rattle.log_chain.specs.declared.chain.TheConstants.{MAX_LEVEL}
use Rattle.log_chain.specs.Chain.{chain}

-- the number q / p, squared `level` times
pub record Progress : Type 0 where
  pub p : ℕ
  pub q : ℕ
  pub level : ℕ

-- the digits of its logarithm so far
abbrev pub digits_of : Progress → ℕ
digits_of a = (chain a.p a.q a.level).digits

-- what the program keeps: w and d are the digits of q / p after k squarings, before the point and behind it, and y is the rest
pub record IsReached (p q k w d y : ℕ) : Type 0 where
  pub few : k ≤ MAX_LEVEL
  pub behind : d < 2 ^ k
  pub digits : w * 2 ^ k + d ≡ (chain p q k).digits
  pub rest : y ≡ (chain p q k).rest
