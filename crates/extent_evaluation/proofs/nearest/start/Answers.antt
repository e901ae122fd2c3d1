use Rattle.std.proofs.Common.{arith}
use Rattle.extent_evaluation.proofs.NearestLemmas.{Leads-past}
use Rattle.extent_evaluation.proofs.nearest.start.Goals as goal

pub returns-clause-leads : goal.returns-clause-leads
returns-clause-leads c = Leads-past c.args.ys.now c.args.n c.args.low c.count_below.result (λ k p q. omega (arith, c.count_below.ensures.others k p q))
