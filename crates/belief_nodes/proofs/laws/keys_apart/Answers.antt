use Rattle.belief_nodes.proofs.Enclosures.{keys_apart_lem}
use Rattle.belief_nodes.proofs.laws.keys_apart.Goals as goal

pub returns : goal.returns
returns c = λ t a b k ha hb few less. keys_apart_lem t a b ha hb k few less
