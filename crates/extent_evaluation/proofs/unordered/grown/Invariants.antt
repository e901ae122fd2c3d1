use Rattle.extent_evaluation.specs.Nearest.{IsTail}
use Rattle.extent_evaluation.proofs.unordered.grown.Given as goal

abbrev pub invariant-loop-from : goal.invariant-loop-from
invariant-loop-from l = IsTail l.list l.low l.from l.least

abbrev pub decreases-loop-from : goal.decreases-loop-from
decreases-loop-from l = l.from
