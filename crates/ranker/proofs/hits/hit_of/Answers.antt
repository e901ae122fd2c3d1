use Rattle.std.proofs.Common.{List, ap}
use Rattle.ri_base.specs.Ratio.{Ratio}
use Rattle.ranker.proofs.hits.hit_of.Goals as goal

pub returns-clause-candidate : goal.returns-clause-candidate
returns-clause-candidate c = ap (λ (rs : List Ratio). record { docno = c.args.settled.window.docno; begin = c.args.settled.window.begin; end = c.args.settled.window.end; beliefs = rs }) c.in_ok-fractions_of.ensures
