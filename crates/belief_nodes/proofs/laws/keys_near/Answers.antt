use Rattle.belief_nodes.proofs.Enclosures.{keys_within_lem}
use Rattle.belief_nodes.proofs.laws.keys_near.Goals as goal

pub returns : goal.returns
returns c = λ t a b ha hb le le'. record { left = keys_within_lem t b a hb ha le'; right = keys_within_lem t a b ha hb le }
