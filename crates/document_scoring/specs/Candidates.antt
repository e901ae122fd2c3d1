-- The windows of documents that may be shown for a query, with the beliefs of its leaves in them.
use Rattle.std.specs.Prelude.{◌≤◌, ◌<◌, ◌≡◌, ℕ, Bool, true, false, not, nat_lt, if◌then◌else◌, List, [], ◌∷◌, filter, flat_map, length, map, zip}
use Rattle.std.specs.List.{list_all, list_any}
use Rattle.ri_base.specs.Documents.{Document}
use Rattle.ri_base.specs.Pair.{Pair}
use Rattle.ri_base.specs.Query.{FilterTree}
use Rattle.ri_base.specs.Ratio.{Ratio}
use Rattle.ri_base.specs.declared.hit.LeafStats.{LeafStats}
use Rattle.ri_base.specs.declared.query.Range.{Range}
use Rattle.extent_evaluation.specs.Listed.{extent_list}
use Rattle.smoothing.specs.declared.rule.RuleKind.{RuleKind}
use Rattle.query_check.specs.Leaves.{LeafTree}
use Rattle.belief_nodes.specs.Fractions.{leaf_fraction}
use Rattle.belief_nodes.specs.Network.{NetworkTree}
use Rattle.belief_nodes.specs.Priors.{Prior}
use Rattle.belief_nodes.specs.declared.leaf_count.LeafCount.{LeafCount}
use Rattle.windows.specs.Windows.{windows}
use Rattle.document_scoring.specs.Counts.{count_in}

pub record Candidate : Type 0 where
  pub docno : List ℕ
  pub begin : ℕ
  pub end : ℕ
  pub beliefs : List Ratio

-- a window of a document, with so many beliefs
pub record IsWindowOf (d : Document) (leaves : ℕ) (c : Candidate) : Type 0 where
  pub docno_is : c.docno ≡ d.docno
  pub some : c.begin < c.end
  pub within : c.end ≤ length d.tokens
  pub each : length c.beliefs ≡ leaves

-- a leaf occurs in the window; a prior doesn't
abbrev pub occurs : Document → Pair → LeafTree → Bool
occurs d w l = nat_lt 0 (count_in d w l).tf

-- some leaf has an occurrence
abbrev pub some_occurs : List LeafCount → Bool
some_occurs counts = list_any (λ count. nat_lt 0 count.tf) counts

-- the belief of a leaf in the window, by what the collection has of it; that of a prior is the same in each window
abbrev pub leaf_belief : RuleKind → List Prior → Document → Pair → LeafTree → LeafStats → Ratio
leaf_belief kind priors d w leaf stats = leaf_fraction kind priors d.docno (length d.tokens) leaf (count_in d w leaf) stats

-- the beliefs of all leaves, in order of their numbers
abbrev pub beliefs : RuleKind → List Prior → List LeafTree → List LeafStats → Document → Pair → List Ratio
beliefs kind priors leaves stats d w = map (λ leaf. leaf_belief kind priors d w leaf.0 leaf.1) (zip leaves stats)

abbrev pub candidate : RuleKind → List Prior → NetworkTree → Document → Pair → Candidate
candidate kind priors network d w = record {
  docno = d.docno;
  begin = w.begin;
  end = w.end;
  beliefs = beliefs kind priors network.leaves network.stats d w;
}

-- of the windows of a range those in which some leaf occurs
abbrev pub found_windows : List LeafTree → Range → Document → List Pair
found_windows leaves range d = filter (λ w. list_any (occurs d w) leaves) (windows range (length d.tokens) d.fields)

-- the candidates of a document that passes the query's filters
abbrev pub document_candidates : RuleKind → List Prior → NetworkTree → Document → List Candidate
document_candidates kind priors network d =
    map (candidate kind priors network d) (found_windows network.leaves network.range d)

-- a document passes a filter that keeps where the expression has an extent, and one that rejects where it has none
abbrev pub has_some : List Pair → Bool
has_some [] = false
has_some (x ∷ xs) = true

abbrev pub passes : Document → FilterTree → Bool
passes d f = if f.keep then has_some (extent_list f.expr d) else not (has_some (extent_list f.expr d))

-- all candidates of a list of documents
abbrev pub candidates : RuleKind → List Prior → List FilterTree → NetworkTree → List Document → List Candidate
candidates kind priors filters network docs =
    flat_map (document_candidates kind priors network) (filter (λ d. list_all (passes d) filters) docs)
