use Rattle.std.proofs.Common.{List, sym, subst}
use Rattle.ri_base.specs.Documents.{Document}
use Rattle.range_masks.specs.Held.{AreAnswersOf}
use Rattle.range_masks.proofs.laws.blocks_stay.Goals as goal

pub returns : goal.returns
returns c = λ part told later held same are. subst (λ (docs : List Document). AreAnswersOf docs held) (sym same) are
