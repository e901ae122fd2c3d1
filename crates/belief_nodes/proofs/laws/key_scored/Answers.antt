use Rattle.belief_nodes.proofs.Scores.{score_lower, score_upper}
use Rattle.belief_nodes.proofs.laws.key_scored.Goals as goal

pub returns-clause-lower : goal.returns-clause-lower
returns-clause-lower c = λ t beliefs h. score_lower t beliefs h

pub returns-clause-upper : goal.returns-clause-upper
returns-clause-upper c = λ t beliefs h some. score_upper t beliefs h some
