use Rattle.range_masks.proofs.MaskLemmas.{IsMask-none}
use Rattle.range_masks.proofs.query.leaf_mask.Goals as goal

pub returns-in-Extents-clause-exact : goal.returns-in-Extents-clause-exact
returns-in-Extents-clause-exact g c = λ sound. rw c.in-Extents.is (c.expression_mask.ensures.exact sound)

pub returns-in-Prior-clause-exact : goal.returns-in-Prior-clause-exact
returns-in-Prior-clause-exact g c = λ sound. rw c.in-Prior.is (IsMask-none _ _)
