use Rattle.range_masks.proofs.NextLemmas.{IsPassed-none}
use Rattle.range_masks.proofs.next.next_leaf_range.Goals as goal

pub returns-in-Extents-clause-passed : goal.returns-in-Extents-clause-passed
returns-in-Extents-clause-passed g c = λ sound. rw c.in-Extents.is (c.next_range.ensures.passed sound)

pub returns-in-Prior-clause-passed : goal.returns-in-Prior-clause-passed
returns-in-Prior-clause-passed g c = λ sound. rw c.in-Prior.is (IsPassed-none _ _)
