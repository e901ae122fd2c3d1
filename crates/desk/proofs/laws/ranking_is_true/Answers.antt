use Rattle.desk.proofs.RankingLemmas.{IsRanked-from}
use Rattle.desk.proofs.laws.ranking_is_true.Goals as goal

pub returns : goal.returns
returns c = λ kind priors q docs ranking k h some. c.order_is_true.ensures q.tree ranking k (IsRanked-from kind priors q docs ranking h some)
