use Rattle.std.proofs.Common.{ap}
use Rattle.range_masks.specs.Held.{Held}
use Rattle.range_masks.proofs.HeldLemmas.{nothing-answers, nothing-fits}
use Rattle.range_masks.proofs.blocks.RangeBlocks.nothing.Goals as goal

pub returns-clause-fits : goal.returns-clause-fits
returns-clause-fits c = λ outlines. nothing-fits outlines c.none.result (ap (λ (h : Held). h.blocks) c.none.ensures)

pub returns-clause-answers : goal.returns-clause-answers
returns-clause-answers c = λ docs. nothing-answers docs c.none.result (ap (λ (h : Held). h.blocks) c.none.ensures)
