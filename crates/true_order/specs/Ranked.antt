-- A ranking: the windows that may be shown, the best first.
use Rattle.std.specs.Prelude.{◌≡◌, ◌<◌, ◌≤◌, List, map, All, AllPairs}
use Rattle.log_chain.specs.declared.chain.TheConstants.{LAST}
use Rattle.ri_base.specs.Ratio.{Ratio, ratio_of}
use Rattle.ri_base.specs.declared.hit.Hit.{Hit}
use Rattle.query_check.specs.Scale.{scale}
use Rattle.query_check.specs.Trees.{ScaledTree}
use Rattle.belief_nodes.specs.Keys.{key_at}

-- the beliefs of the leaves in a hit
abbrev pub hit_beliefs : Hit → List Ratio
hit_beliefs hit = map ratio_of hit.fractions

-- the hits of this query's tree, by rising keys, where hits of one key may stand in any order
pub record IsRanked (tree : ScaledTree) (hits : List Hit) : Type 0 where
  pub some : 0 < scale tree
  pub keys : All (λ hit. hit.key ≡ key_at LAST (hit_beliefs hit) tree) hits
  pub rising : AllPairs (λ a b. a.key ≤ b.key) hits
