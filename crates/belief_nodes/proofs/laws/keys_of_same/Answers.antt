use Rattle.std.proofs.Common.{ap, List, ℕ}
use Rattle.belief_nodes.specs.Keys.{key}
use Rattle.belief_nodes.proofs.Same.{digits_same}
use Rattle.belief_nodes.proofs.laws.keys_of_same.Goals as goal

pub returns : goal.returns
returns c = λ t a b k ha hb same. ap (λ (digits : List ℕ). key digits t) (digits_same a b k ha hb same)
