use Rattle.std.proofs.Common.{inr}
use Rattle.bounded_keys.proofs.Kepts.{LeavesOut-last}
use Rattle.bounded_keys.proofs.near.Near.keep.Goals as goal

pub returns-then-is_passed-clause-left : goal.returns-then-is_passed-clause-left
returns-then-is_passed-clause-left g c =
    LeavesOut-last g.T.Leading.number g.T.Leading.before c.args.most c.args.threshold c.args.self.now.items.items c.args.item
    (inr (c.is_passed.ensures c.if-is_passed.true c.args.most c.requires))
