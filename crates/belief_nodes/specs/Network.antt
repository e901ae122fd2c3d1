-- A network as contracts see it: the leaves of a checked query, which windows are scored, what the collection has of
-- each leaf, and the tree.
use Rattle.std.specs.Prelude.{List, map}
use Rattle.ri_base.specs.declared.hit.LeafStats.{LeafStats}
use Rattle.ri_base.specs.declared.query.Range.{Range}
use Rattle.query_check.specs.declared.checked.Checked.{Checked}
use Rattle.query_check.specs.Leaves.{LeafTree, leaf_tree}
use Rattle.query_check.specs.Trees.{ScaledTree, scaled_tree}
use Rattle.belief_nodes.specs.declared.network.Network.{Network}

pub record NetworkTree : Type 0 where
  pub leaves : List LeafTree
  pub range : Range
  pub stats : List LeafStats
  pub tree : ScaledTree

abbrev pub network_tree : Network → NetworkTree
network_tree n = record {
  leaves = map leaf_tree n.leaves.items;
  range = n.range;
  stats = n.stats.items;
  tree = scaled_tree n.tree;
}

-- the network of a checked query
abbrev pub network_of : Checked → List LeafStats → NetworkTree
network_of checked stats = record {
  leaves = map leaf_tree checked.leaves.items;
  range = checked.range;
  stats = stats;
  tree = scaled_tree checked.tree;
}
