-- What every network keeps.
use Rattle.std.specs.Prelude.{◌≡◌, List, length, All}
use Rattle.ri_base.specs.declared.hit.LeafStats.{LeafStats}
use Rattle.query_check.specs.Leaves.{LeafTree}
use Rattle.query_check.specs.Trees.{ScaledTree}
use Rattle.belief_nodes.specs.Fits.{IsFit}
use Rattle.belief_nodes.specs.Leaves.{AreLeafStats}

pub record IsNetwork (leaves : List LeafTree) (stats : List LeafStats) (tree : ScaledTree) : Type 0 where
  pub each : length stats ≡ length leaves
  pub counted : All (λ s. AreLeafStats s) stats
  pub fit : IsFit (length leaves) tree
