use Rattle.belief_nodes.proofs.Levels.{key_longer, key_small_lem}
use Rattle.belief_nodes.proofs.laws.key_levels.Goals as goal

pub returns-clause-least : goal.returns-clause-least
returns-clause-least c = λ t beliefs k s. (key_longer t beliefs k s).low

pub returns-clause-most : goal.returns-clause-most
returns-clause-most c = λ t beliefs k s. (key_longer t beliefs k s).high

pub returns-clause-small : goal.returns-clause-small
returns-clause-small c = λ t beliefs k some. key_small_lem t beliefs k some
