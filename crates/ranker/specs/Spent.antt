-- The numbers that a search keeps of what it has spent.
use Rattle.std.specs.Prelude.{◌≡◌, ◌≤◌, ◌+◌, ◌-◌, ◌^◌, ℕ, max, min}

-- a number of 64 bits and so many more; one that can't go on stays the greatest one
abbrev pub saturated : ℕ → ℕ → ℕ
saturated number more = max number (min (number + more) (2 ^ 64 - 1))

-- a number has risen by as much as a counter
pub record RiseAlike (was now before after : ℕ) : Type 0 where
  pub up : was ≤ now
  pub same : after ≡ saturated before (now - was)
