use Rattle.std.proofs.Common.{length}
use Rattle.extent_walks.specs.Walks.{AreKept, IsKept, plan}
use Rattle.extent_walks.proofs.BuildLemmas.{IsChainSoFar}
use Rattle.extent_walks.proofs.walk.joined_of.Given as goal

abbrev pub invariant-loop-one : goal.invariant-loop-one
invariant-loop-one l = record {
  kept_others : AreKept l.others.items;
  kept_chain : IsKept l.chain;
  so_far : IsChainSoFar l.n l.fn.all.items l.others.items (plan l.chain);
}

abbrev pub decreases-loop-one : goal.decreases-loop-one
decreases-loop-one l = length l.others.items
