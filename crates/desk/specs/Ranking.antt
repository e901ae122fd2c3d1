-- The ranking of a list of documents for a checked query, with the statistics of just these documents.
use Rattle.std.specs.Prelude.{◌≡◌, ℕ, List, take}
use Rattle.ri_base.specs.Documents.{Document}
use Rattle.ri_base.specs.declared.hit.Hit.{Hit}
use Rattle.smoothing.specs.declared.rule.RuleKind.{RuleKind}
use Rattle.query_check.specs.Check.{CheckedTree}
use Rattle.belief_nodes.specs.Priors.{Prior}
pub use Rattle.ranker.specs.Ranking.{candidate_of, query_candidates, query_network}
use Rattle.ranker.specs.Ranking.{IsRankingBy}

-- all candidates in their order
abbrev pub IsRanking : RuleKind → List Prior → CheckedTree → List Document → List Hit → Type 0
IsRanking kind priors q docs hits = IsRankingBy kind priors q.filters (query_network q docs) docs hits

-- the answer of at most k hits: the first k of a ranking
abbrev pub IsAnswer : RuleKind → List Prior → CheckedTree → List Document → ℕ → List Hit → Type 0
IsAnswer kind priors q docs k hits = (ranking : List Hit) × IsRanking kind priors q docs ranking × (hits ≡ take k ranking)
