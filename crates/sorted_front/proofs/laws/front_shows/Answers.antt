use Rattle.sorted_front.proofs.FrontLemmas.{front_shows}
use Rattle.sorted_front.proofs.laws.front_shows.Goals as goal

pub returns : goal.returns
returns g c = front_shows _ g.met.T.Ord.total
