-- An extent as contracts see it: the tokens from begin on up to end, that one not among them.
use Rattle.std.specs.Prelude.{ℕ}

pub record Pair : Type 0 where
  pub begin : ℕ
  pub end : ℕ
