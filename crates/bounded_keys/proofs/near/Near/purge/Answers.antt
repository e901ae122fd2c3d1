use Rattle.std.proofs.Common.{subst}
use Rattle.bounded_keys.specs.Runs.{HoldsRuns}
use Rattle.bounded_keys.proofs.Kepts.{LeavesOut-purged}
use Rattle.bounded_keys.proofs.near.Near.purge.Goals as goal

pub returns-clause-left : goal.returns-clause-left
returns-clause-left g c =
    let runs = c.in_ok-runs.runs in
    LeavesOut-purged g.T.Leading.number g.T.Leading.before c.args.most c.args.threshold runs.run runs.full.items c.args.self.now.items.items c.drop_above.new.items.items runs.items.items c.drop_above.ensures
    (subst (λ (v : _). HoldsRuns g.T.Leading.before c.args.most v.items runs.run runs.full.items runs.items.items) c.replace-items.ensures.value c.in_ok-runs.ensures)
