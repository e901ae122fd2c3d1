use Rattle.bounded_keys.proofs.Kepts.{Keeps-same}
use Rattle.bounded_keys.proofs.laws.offered_in_any_order.Goals as goal

pub returns : goal.returns
returns g c = λ all other kept p h.
    Keeps-same g.T.Ord.cmp g.met.T.Ord.total g.T.Leading.number g.met.T.Leading.by_number kept.most kept.scale all other kept.held kept.near p h
