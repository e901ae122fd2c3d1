-- The answer of a query as a function of a list of documents: all that may be shown, in order, and of these the first.
use Rattle.std.specs.Prelude.{ℕ, List, map, drop}
use Rattle.std.specs.Cmp.Lexicographic.{slice_cmp}
use Rattle.std.specs.Ordering.{nat_cmp, ordering_then}
use Rattle.std.specs.declared.cmp.Ordering.{Ordering}
use Rattle.ri_base.specs.Documents.{Document}
use Rattle.ri_base.specs.Ratio.{Ratio}
use Rattle.ri_base.specs.declared.hit.Hit.{Hit}
use Rattle.log_chain.specs.declared.chain.TheConstants.{LAST}
use Rattle.smoothing.specs.declared.rule.RuleKind.{RuleKind}
use Rattle.query_check.specs.Check.{CheckedTree}
use Rattle.query_check.specs.Trees.{ScaledTree}
use Rattle.belief_nodes.specs.Keys.{key_at}
use Rattle.belief_nodes.specs.Priors.{Prior}
use Rattle.document_scoring.specs.Candidates.{Candidate}
use Rattle.ranker.specs.Ranking.{candidate_of, query_candidates}
use Rattle.sorted_front.specs.Front.{front, in_order}

-- what may be shown, with its key
pub record Entry : Type 0 where
  pub key : ℕ
  pub candidate : Candidate

abbrev pub entry : ScaledTree → Candidate → Entry
entry tree c = record { key = key_at LAST c.beliefs tree; candidate = c }

-- what a hit is an entry of
abbrev pub entry_of : Hit → Entry
entry_of hit = record { key = hit.key; candidate = candidate_of hit }

-- by key, then by the bytes of the docno, then by begin and end
abbrev pub entry_order : Entry → Entry → Ordering
entry_order a b = ordering_then (nat_cmp a.key b.key)
    (ordering_then (slice_cmp nat_cmp a.candidate.docno b.candidate.docno)
    (ordering_then (nat_cmp a.candidate.begin b.candidate.begin) (nat_cmp a.candidate.end b.candidate.end)))

-- all that may be shown for a query of these documents, in order
abbrev pub ranking : RuleKind → List Prior → CheckedTree → List Document → List Entry
ranking kind priors q docs = in_order entry_order (map (entry q.tree) (query_candidates kind priors q docs))

-- the first k results
abbrev pub answer : RuleKind → List Prior → CheckedTree → ℕ → List Document → List Entry
answer kind priors q k docs = front entry_order k (map (entry q.tree) (query_candidates kind priors q docs))

-- the beliefs of the leaves in all that may be shown and isn't among these
abbrev pub beliefs_behind : RuleKind → List Prior → CheckedTree → ℕ → List Document → List (List Ratio)
beliefs_behind kind priors q k docs = map (λ e. e.candidate.beliefs) (drop k (ranking kind priors q docs))
