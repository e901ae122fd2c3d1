-- The leaves of a query: what is counted for each, the ranges of these numbers, and which priors they name.
use Rattle.std.specs.Prelude.{ℕ, ◌≤◌, ◌<◌, ◌^◌, ⊤}
use Rattle.ri_base.specs.declared.hit.LeafStats.{LeafStats}
use Rattle.query_check.specs.Leaves.{LeafTree, extents, prior}
use Rattle.belief_nodes.specs.declared.leaf_count.LeafCount.{LeafCount}

-- a leaf occurs no more often than there are words, which are at most 1,048,576 in a document
pub record IsLeafCount (count : LeafCount) : Type 0 where
  pub within : count.tf ≤ count.len
  pub short : count.len ≤ 2 ^ 20

-- so it is in the collection, which has at most 536,870,912 words
pub record AreLeafStats (stats : LeafStats) : Type 0 where
  pub part : stats.cf ≤ stats.total
  pub few : stats.total ≤ 2 ^ 29

-- a prior that the leaf names is one of so many
abbrev pub HasPrior : ℕ → LeafTree → Type 0
HasPrior many (extents x context) = ⊤
HasPrior many (prior n) = n < many
