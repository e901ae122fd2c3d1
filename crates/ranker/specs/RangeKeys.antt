-- The bounds of a range of 64 ids as one key. This is the project's own.
use Rattle.std.specs.Prelude.{ℕ, Bool, false, is_some, max, List, map, zip, slice_get}
use Rattle.std.specs.Option.{option_map_or}
use Rattle.log_chain.specs.declared.chain.TheConstants.{FIRST}
use Rattle.ri_base.specs.Documents.{Document}
use Rattle.ri_base.specs.Ratio.{Ratio}
use Rattle.ri_base.specs.declared.hit.LeafStats.{LeafStats}
use Rattle.ri_base.specs.declared.query.Range.{Range}
use Rattle.smoothing.specs.Fractions.{fraction_of}
use Rattle.smoothing.specs.declared.rule.RuleKind.{RuleKind}
use Rattle.query_check.specs.Leaves.{LeafTree, extents, prior}
use Rattle.belief_nodes.specs.Keys.{key_at}
use Rattle.belief_nodes.specs.Network.{NetworkTree}
use Rattle.belief_nodes.specs.Priors.{Prior, prior_at, prior_fractions}
use Rattle.belief_nodes.specs.Products.{greatest_of}
use Rattle.range_bounds.specs.Bounds.{least_scored}
use Rattle.range_bounds.specs.Most.{most}
use Rattle.range_bounds.specs.Ranges.{least_length, range_documents}
use Rattle.range_bounds.specs.Tables.{has_counts}
use Rattle.range_bounds.specs.declared.table.RangeTable.{RangeTable}

-- the bound of a leaf: the belief for the most occurrences in the least length that has room for them; that of a prior is its greatest fraction
abbrev pub leaf_bound : RuleKind → List Prior → Range → List Document → LeafTree → LeafStats → Ratio
leaf_bound kind priors range docs (extents x c) stats = fraction_of kind (most docs x) (max (least_scored range c (least_length docs)) (most docs x)) stats.cf stats.total
leaf_bound kind priors range docs (prior n) stats = greatest_of (prior_fractions (prior_at priors n))

-- the bounds of all leaves, in order of their numbers
abbrev pub leaf_bounds : RuleKind → List Prior → Range → List Document → List LeafTree → List LeafStats → List Ratio
leaf_bounds kind priors range docs leaves stats = map (λ leaf. leaf_bound kind priors range docs leaf.0 leaf.1) (zip leaves stats)

-- the key at the first level of the bounds of a range
abbrev pub range_key : RuleKind → List Prior → NetworkTree → List Document → ℕ → ℕ
range_key kind priors network docs range = key_at FIRST (leaf_bounds kind priors network.range (range_documents docs range) network.leaves network.stats) network.tree

-- whether there is a table of the part of a number
abbrev pub has_table : List RangeTable → ℕ → Bool
has_table tables number = is_some (slice_get tables number)

-- whether it has counts of a range
abbrev pub is_told : List RangeTable → ℕ → ℕ → Bool
is_told tables number range = option_map_or (λ t. has_counts t range) (slice_get tables number) false
