-- Bounds of the beliefs of the leaves of a query in the windows of the documents of a range.
use Rattle.std.specs.Prelude.{◌≡◌, ℕ, max, List, length, Option, None, Some, map, zip}
use Rattle.std.specs.List.{AllZip}
use Rattle.ri_base.specs.Documents.{Document}
use Rattle.ri_base.specs.Pair.{Pair}
use Rattle.ri_base.specs.Ratio.{Ratio}
use Rattle.ri_base.specs.declared.hit.LeafStats.{LeafStats}
use Rattle.ri_base.specs.declared.query.Range.{Range}
use Rattle.ri_base.specs.declared.query.Range.TheVariants.{Whole, Field as Fields, Passages}
use Rattle.extent_evaluation.specs.Counts.{len, tf}
use Rattle.smoothing.specs.Bounds.{IsAtMost}
use Rattle.smoothing.specs.Fractions.{fraction_of}
use Rattle.smoothing.specs.declared.rule.RuleKind.{RuleKind}
use Rattle.query_check.specs.Leaves.{LeafTree, extents, prior}
use Rattle.belief_nodes.specs.Priors.{IsGreatestOf, Prior, prior_at, prior_fraction, prior_fractions}
use Rattle.range_bounds.specs.Most.{most}
use Rattle.range_bounds.specs.Ranges.{least_length}
use Rattle.range_bounds.specs.Tables.{told_most}
use Rattle.range_bounds.specs.declared.range_counts.RangeCounts.{RangeCounts}
use Rattle.range_bounds.specs.declared.table.RangeTable.{RangeTable}

-- the least length in which a leaf is scored: a document where whole documents are and each of their tokens counts; a field,
-- a passage or what a field covers may be as short as can be
abbrev pub least_scored : Range → Option (List ℕ) → ℕ → ℕ
least_scored Whole None least = least
least_scored Whole (Some c) least = 0
least_scored (Fields f) context least = 0
least_scored (Passages width every) context least = 0

-- the bound of a leaf: the belief for the most occurrences in the least length that has room for them, by what the collection
-- has of it; that of a prior is its greatest fraction
abbrev pub IsLeafBound : RuleKind → List Prior → Range → List Document → LeafTree → LeafStats → Ratio → Type 0
IsLeafBound kind priors range docs (extents x c) stats r =
    r ≡ fraction_of kind (most docs x) (max (least_scored range c (least_length docs)) (most docs x)) stats.cf stats.total
IsLeafBound kind priors range docs (prior n) stats r = IsGreatestOf (prior_fractions (prior_at priors n)) r

-- the same by the counts of a range
abbrev pub IsToldBound : RuleKind → List Prior → Range → RangeTable → RangeCounts → LeafTree → LeafStats → Ratio → Type 0
IsToldBound kind priors range table counts (extents x c) stats r =
    r ≡ fraction_of kind (told_most table counts x) (max (least_scored range c counts.least) (told_most table counts x)) stats.cf stats.total
IsToldBound kind priors range table counts (prior n) stats r = IsGreatestOf (prior_fractions (prior_at priors n)) r

-- the bounds of all leaves, in order of their numbers
abbrev pub AreBounds : RuleKind → List Prior → Range → List Document → List LeafTree → List LeafStats → List Ratio → Type 0
AreBounds kind priors range docs leaves stats bounds =
    AllZip (λ leaf r. IsLeafBound kind priors range docs leaf.0 leaf.1 r) (zip leaves stats) bounds

-- the belief of a leaf in a window of a document
abbrev pub belief_in : RuleKind → List Prior → Document → Pair → LeafTree → LeafStats → Ratio
belief_in kind priors d w (extents x c) stats = fraction_of kind (tf x d w c) (len d w c) stats.cf stats.total
belief_in kind priors d w (prior n) stats = prior_fraction (prior_at priors n) d.docno (length d.tokens)

-- the beliefs of all leaves, in order of their numbers
abbrev pub beliefs_in : RuleKind → List Prior → Document → Pair → List LeafTree → List LeafStats → List Ratio
beliefs_in kind priors d w leaves stats = map (λ leaf. belief_in kind priors d w leaf.0 leaf.1) (zip leaves stats)

-- each leaf's belief in the window is at most its bound
abbrev pub AreCovered : RuleKind → List Prior → Document → Pair → List LeafTree → List LeafStats → List Ratio → Type 0
AreCovered kind priors d w leaves stats bounds = AllZip IsAtMost (beliefs_in kind priors d w leaves stats) bounds
