use Rattle.ri_ends.proofs.Fronts.{front_short}
use Rattle.ri_ends.proofs.front.Front.missing.Goals as goal

pub returns-clause-at_end : goal.returns-clause-at_end
returns-clause-at_end g c rest n others = front_short _ n _ _ rest others
