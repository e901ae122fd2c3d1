use Rattle.std.proofs.Common.{arith}
use Rattle.belief_nodes.proofs.Enclosures.{key_encloses_lem}
use Rattle.belief_nodes.proofs.laws.key_encloses.Goals as goal

pub returns-clause-positive : goal.returns-clause-positive
returns-clause-positive c = λ t beliefs h. (key_encloses_lem t beliefs 0 h (omega arith)).positive

pub returns-clause-lower : goal.returns-clause-lower
returns-clause-lower c = λ t beliefs k h few. (key_encloses_lem t beliefs k h few).lower

pub returns-clause-upper : goal.returns-clause-upper
returns-clause-upper c = λ t beliefs k h few some. (key_encloses_lem t beliefs k h few).strict some
