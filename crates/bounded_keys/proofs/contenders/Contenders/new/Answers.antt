use Rattle.bounded_keys.proofs.Kepts.{Keeps-none}
use Rattle.bounded_keys.proofs.contenders.Contenders.new.Goals as goal

pub returns-clause-kept : goal.returns-clause-kept
returns-clause-kept g c = rw (c.new.ensures.items, c.new-2.ensures.items) (Keeps-none g.T.Ord.cmp g.met.T.Ord.total g.T.Leading.number g.met.T.Leading.by_number c.args.most c.args.scale g.T.Leading.before)
