-- What is shown of digits that are added up. This is the project's own.
use Rattle.std.specs.Prelude.{ℕ, ◌*◌, ◌/◌, ◌^◌}
use Rattle.log_chain.specs.declared.chain.TheConstants.{LAST}

-- The score of a key in millionths, cut. The key has LAST binary places and is `scale` times as great. The score is at
-- most the logarithm to base 2 of one over the belief, and less than two millionths below it.
abbrev pub score : ℕ → ℕ → ℕ
score scale key = key * 1000000 / (scale * 2 ^ LAST)
