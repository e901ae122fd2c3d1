-- The counts on which the belief of a leaf rests.
use Rattle.std.specs.Prelude.{ℕ, ◌^◌, ◌≤◌}

-- a leaf occurs tf times in the len words of a document, a field or a passage, and cf times in the total words of the
-- collection: no more often than there are words, which are at most 1,048,576 and 536,870,912
pub record AreCounts (tf len cf total : ℕ) : Type 0 where
  pub within : tf ≤ len
  pub part : cf ≤ total
  pub short : len ≤ 2 ^ 20
  pub few : total ≤ 2 ^ 29
