-- The ranking of a list of documents by a network, which has the statistics that are handed in: one sort of all that may be shown.
use Rattle.std.specs.Prelude.{◌≡◌, ℕ, List, map, take, All}
use Rattle.std.specs.Cmp.Lexicographic.{slice_cmp}
use Rattle.std.specs.List.Sorted.{IsPermutation, IsSortedBy}
use Rattle.std.specs.Ordering.{is_lt, nat_cmp, ordering_then}
use Rattle.std.specs.declared.cmp.Ordering.{Ordering}
use Rattle.log_chain.specs.declared.chain.TheConstants.{LAST}
use Rattle.ri_base.specs.Documents.{Document}
use Rattle.ri_base.specs.Query.{FilterTree}
use Rattle.ri_base.specs.Ratio.{ratio_of}
use Rattle.ri_base.specs.declared.hit.Hit.{Hit}
use Rattle.smoothing.specs.declared.rule.RuleKind.{RuleKind}
use Rattle.query_check.specs.Check.{CheckedTree}
use Rattle.belief_nodes.specs.Keys.{key_at}
use Rattle.belief_nodes.specs.Network.{NetworkTree}
use Rattle.belief_nodes.specs.Priors.{Prior}
use Rattle.document_scoring.specs.Candidates.{Candidate, candidates}
use Rattle.document_scoring.specs.Counts.{stats_of}

-- what a hit is of a candidate
abbrev pub candidate_of : Hit → Candidate
candidate_of hit = record { docno = hit.docno; begin = hit.begin; end = hit.end; beliefs = map ratio_of hit.fractions }

-- the order of hits: by key, then by the bytes of the docno, then by begin and end
abbrev pub hit_order : Hit → Hit → Ordering
hit_order a b = ordering_then (nat_cmp a.key b.key)
    (ordering_then (slice_cmp nat_cmp a.docno b.docno) (ordering_then (nat_cmp a.begin b.begin) (nat_cmp a.end b.end)))

-- all candidates in their order, with their keys at the last level
pub record IsRankingBy (kind : RuleKind) (priors : List Prior) (filters : List FilterTree) (network : NetworkTree) (docs : List Document) (hits : List Hit) : Type 0 where
  pub all : IsPermutation (candidates kind priors filters network docs) (map candidate_of hits)
  pub keys : All (λ hit. hit.key ≡ key_at LAST (map ratio_of hit.fractions) network.tree) hits
  pub sorted : IsSortedBy (λ a b. is_lt (hit_order a b)) hits

-- the answer of at most k hits: the first k of a ranking
abbrev pub IsAnswerBy : RuleKind → List Prior → List FilterTree → NetworkTree → List Document → ℕ → List Hit → Type 0
IsAnswerBy kind priors filters network docs k hits = (ranking : List Hit) × IsRankingBy kind priors filters network docs ranking × (hits ≡ take k ranking)

-- ---- with the statistics of just these documents

-- the network of a query over a list of documents
abbrev pub query_network : CheckedTree → List Document → NetworkTree
query_network q docs = record { leaves = q.leaves; range = q.range; stats = map (stats_of docs) q.leaves; tree = q.tree }

-- what may be shown of the documents for the query
abbrev pub query_candidates : RuleKind → List Prior → CheckedTree → List Document → List Candidate
query_candidates kind priors q docs = candidates kind priors q.filters (query_network q docs) docs
