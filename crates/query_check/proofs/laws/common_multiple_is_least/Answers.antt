use Rattle.query_check.proofs.MultipleLemmas.{lcm_left, lcm_right, lcm_divides}
use Rattle.query_check.proofs.laws.common_multiple_is_least.Goals as goal

pub returns-clause-left : goal.returns-clause-left
returns-clause-left c = λ a b. lcm_left a b

pub returns-clause-right : goal.returns-clause-right
returns-clause-right c = λ a b. lcm_right a b

pub returns-clause-least : goal.returns-clause-least
returns-clause-least c = λ a b n pos x y. lcm_divides a b n pos x y
