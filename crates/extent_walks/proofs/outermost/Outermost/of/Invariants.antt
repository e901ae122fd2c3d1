use Rattle.std.proofs.Common.{take}
use Rattle.extent_walks.proofs.PlaceLemmas.{AreOutermost}
use Rattle.extent_walks.proofs.outermost.Outermost.of.Given as goal

abbrev pub invariant-loop-x : goal.invariant-loop-x
invariant-loop-x l = AreOutermost (take l.x-index l.xs) l.items.items l.reach
