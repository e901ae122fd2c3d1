-- The ranking of a query over the documents of a list.
use Rattle.std.proofs.Common.{◌≡◌, ◌<◌, ◌≤◌, ◌+◌, ℕ, List, length, map, get_or, ap, subst, ◌∙◌, arith, false}
use Rattle.std.specs.Ordering.{is_lt, nat_cmp, ordering_then}
use Rattle.std.specs.declared.cmp.Ordering.{Ordering}
use Rattle.std.proofs.lemmas.Bool.Decides.{nat_tests}
use Rattle.std.proofs.lemmas.List.Sorted.{IsNonDecreasingBy-from_all_adjacent}
use Rattle.ri_base.specs.Documents.{Document}
use Rattle.ri_base.specs.Query.{FilterTree}
use Rattle.ri_base.specs.declared.hit.Hit.{Hit}
use Rattle.ri_base.specs.declared.hit.LeafStats.{LeafStats}
use Rattle.smoothing.specs.declared.rule.RuleKind.{RuleKind}
use Rattle.query_check.specs.Check.{CheckedTree}
use Rattle.query_check.specs.Scale.{scale}
use Rattle.belief_nodes.specs.Network.{NetworkTree}
use Rattle.belief_nodes.specs.Priors.{Prior}
use Rattle.true_order.specs.Ranked.{IsRanked}
use Rattle.document_scoring.specs.Counts.{stats_of}
use Rattle.ranker.specs.Ranking.{IsAnswerBy}
use Rattle.desk.specs.Ranking.{IsAnswer, IsRanking, query_network}

-- The answer by what is told of a query is its answer, where the statistics are those of the documents.
pub IsAnswer-by : (kind : RuleKind) (priors : List Prior) (q : CheckedTree) (filters : List FilterTree) (network : NetworkTree) (stats : List LeafStats) (docs : List Document) (most : ℕ) (hits : List Hit)
    → filters ≡ q.filters → network ≡ record { leaves = q.leaves; range = q.range; stats = stats; tree = q.tree } → stats ≡ map (stats_of docs) q.leaves
    → IsAnswerBy kind priors filters network docs most hits → IsAnswer kind priors q docs most hits
IsAnswer-by kind priors q filters network stats docs most hits asked is summed h =
    let seen : network ≡ query_network q docs = is ∙ ap (λ ss. record { leaves = q.leaves; range = q.range; stats = ss; tree = q.tree }) summed in
    let filtered : IsAnswerBy kind priors q.filters network docs most hits = subst (λ (fs : List FilterTree). IsAnswerBy kind priors fs network docs most hits) asked h in
    subst (λ (n : NetworkTree). IsAnswerBy kind priors q.filters n docs most hits) seen filtered

-- ---- rising keys

first_tells : (x y : ℕ) (o : Ordering) → is_lt (ordering_then (nat_cmp x y) o) ≡ false → y ≤ x
first_tells x y o h = grind (arith, nat_tests)

pub IsRanked-from : (kind : RuleKind) (priors : List Prior) (q : CheckedTree) (docs : List Document) (hits : List Hit)
    → IsRanking kind priors q docs hits → 0 < scale q.tree → IsRanked q.tree hits
IsRanked-from kind priors q docs hits h some =
    let neighbours : (k : ℕ) (d : Hit) → k + 1 < length hits → (get_or hits k d).key ≤ (get_or hits (k + 1) d).key = λ k d more. first_tells _ _ _ (h.sorted k d (omega arith) more) in
    record {
      some = some;
      keys = h.keys;
      rising = λ i j d less inside. IsNonDecreasingBy-from_all_adjacent (λ (hit : Hit). hit.key) hits neighbours i j d (omega (arith, less)) inside;
    }
