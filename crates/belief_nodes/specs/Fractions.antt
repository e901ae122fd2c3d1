-- The beliefs of the leaves of a query in one window, which is a document, a field or a passage.
use Rattle.std.specs.Prelude.{ℕ, List, [], ◌∷◌}
use Rattle.ri_base.specs.Ratio.{Ratio}
use Rattle.ri_base.specs.declared.hit.LeafStats.{LeafStats}
use Rattle.smoothing.specs.Fractions.{fraction_of}
use Rattle.smoothing.specs.declared.rule.RuleKind.{RuleKind}
use Rattle.query_check.specs.Leaves.{LeafTree, extents, prior}
use Rattle.belief_nodes.specs.Priors.{Prior, prior_at, prior_fraction}
use Rattle.belief_nodes.specs.declared.leaf_count.LeafCount.{LeafCount}

-- the belief of one leaf under a smoothing rule, by its counts in the window and in the collection; that of a prior is
-- what the prior tells of the document, by its docno and its length
abbrev pub leaf_fraction : RuleKind → List Prior → List ℕ → ℕ → LeafTree → LeafCount → LeafStats → Ratio
leaf_fraction kind priors docno tokens (extents x c) count stats = fraction_of kind count.tf count.len stats.cf stats.total
leaf_fraction kind priors docno tokens (prior n) count stats = prior_fraction (prior_at priors n) docno tokens

-- the beliefs of all leaves, in order of their numbers
unfoldable pub leaf_fractions : RuleKind → List Prior → List ℕ → ℕ → List LeafTree → List LeafCount → List LeafStats → List Ratio
leaf_fractions kind priors docno tokens [] counts stats = []
leaf_fractions kind priors docno tokens (l ∷ ls) [] stats = []
leaf_fractions kind priors docno tokens (l ∷ ls) (n ∷ ns) [] = []
leaf_fractions kind priors docno tokens (l ∷ ls) (n ∷ ns) (s ∷ ss) =
    leaf_fraction kind priors docno tokens l n s ∷ leaf_fractions kind priors docno tokens ls ns ss
