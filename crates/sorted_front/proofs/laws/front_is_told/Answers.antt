use Rattle.sorted_front.proofs.FrontLemmas.{front_is, front_only}
use Rattle.sorted_front.proofs.laws.front_is_told.Goals as goal

pub returns : goal.returns
returns g c = record { there = front_is _ g.met.T.Ord.total; only = front_only _ g.met.T.Ord.total }
