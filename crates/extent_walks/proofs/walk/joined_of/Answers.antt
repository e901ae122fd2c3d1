use Rattle.std.proofs.Common.{◌≡◌, [], ◌∷◌, ◌++◌}
use Rattle.extent_walks.proofs.BuildLemmas.{IsChainSoFar-last, IsChainSoFar-more}
use Rattle.extent_walks.proofs.WalkLaws.{AreKept-pop, IsKept-Joined, IsKept-Shortest, plan-Joined, plan-Shortest}
use Rattle.extent_walks.proofs.walk.joined_of.Goals as goal

pub loop-one-init : goal.loop-one-init
loop-one-init c =
    let fewer = c.pop.new.self.items in
    let popped : c.args.all.items ≡ fewer ++ c.in-Some.last ∷ [] = c.in-Some.ensures.items in
    let kept = AreKept-pop fewer c.in-Some.last (rw popped at c.requires) in
    record {
      kept_others = kept.0;
      kept_chain = rw (IsKept-Shortest, c.in_ok-new.ensures.ok) kept.1;
      so_far = rw (plan-Shortest, c.in_ok-new.ensures.ok) (IsChainSoFar-last c.args.n c.args.all.items fewer c.in-Some.last popped);
    }

pub loop-one-preserved : goal.loop-one-preserved
loop-one-preserved c =
    let fewer = c.pop-in-loop-one.new.self.items in
    let popped : c.loop-one.others.items ≡ fewer ++ c.in-Some-pop.one ∷ [] = c.in-Some-pop.ensures.items in
    let kept = AreKept-pop fewer c.in-Some-pop.one (rw popped at c.loop-one.invariant.kept_others) in
    record {
      kept_others = kept.0;
      kept_chain = rw (IsKept-Joined, c.in_ok-new-2.ensures.ok, c.in_ok-later.ensures.ok) (kept.1, c.new-in-Some-pop.ensures.kept);
      so_far = rw (plan-Joined, c.in_ok-new-2.ensures.ok, c.in_ok-later.ensures.ok, c.new-in-Some-pop.ensures.walk)
          (IsChainSoFar-more c.args.n c.args.all.items c.loop-one.others.items fewer c.in-Some-pop.one _ c.loop-one.invariant.so_far popped);
    }
