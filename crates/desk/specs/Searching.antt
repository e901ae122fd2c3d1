-- A search that has passed all documents.
use Rattle.std.specs.Prelude.{◌≡◌, ◌≤◌, ℕ, List, Option, true, length}
use Rattle.ri_base.specs.declared.hit.LeafStats.{LeafStats}
use Rattle.store_ends.specs.Files.{Files}
use Rattle.query_check.specs.Answers.{whole_checked}
use Rattle.query_check.specs.Check.{CheckedTree}
use Rattle.belief_nodes.specs.Network.{network_tree}
use Rattle.disk_index.specs.Snapshots.{Marked}
use Rattle.ranker.specs.Searches.{searched}
use Rattle.ranker.specs.declared.search.Search.{Search}
use Rattle.command_words.specs.declared.words.TheConstants.{MAX_RESULTS}
use Rattle.desk.specs.Shown.{Shown, explanation, results}

-- It searches these parts for a query with these statistics, and for so many results; it has passed all documents.
pub record HasSearched (parts : List Marked) (q : CheckedTree) (stats : List LeafStats) (most : ℕ) (s : Search) : Type 0 where
  pub snapshot : s.snapshot ≡ parts
  pub checked : whole_checked s.checked ≡ q
  pub network : network_tree s.network ≡ record { leaves = q.leaves; range = q.range; stats = stats; tree = q.tree }
  pub most_is : s.most ≡ most
  pub usable : s.usable ≡ true
  pub all : (told : Option Files) → s.at.credit ≡ length (searched told s)

-- its network is that of its query
abbrev pub HasNetwork : Search → Type 0
HasNetwork s = network_tree s.network ≡ record {
  leaves = (whole_checked s.checked).leaves;
  range = (whole_checked s.checked).range;
  stats = (network_tree s.network).stats;
  tree = (whole_checked s.checked).tree;
}

-- how many results are asked for, or the rank of the one that is explained, is in its range
abbrev pub IsShowable : Shown → Type 0
IsShowable (results count labels) = count ≤ MAX_RESULTS
IsShowable (explanation rank) = (1 ≤ rank) × (rank ≤ MAX_RESULTS)

-- how many results are searched for
abbrev pub wanted : Shown → ℕ
wanted (results count labels) = count
wanted (explanation rank) = rank
