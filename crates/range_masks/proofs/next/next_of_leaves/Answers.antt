use Rattle.query_check.specs.Leaves.{LeafTree, leaf_tree}
use Rattle.query_check.specs.declared.leaf_kind.LeafKind.{LeafKind}
use Rattle.range_masks.specs.May.{leaf_may}
use Rattle.range_masks.proofs.MaskLemmas.{any_map}
use Rattle.range_masks.proofs.NextLemmas.{IsPassed-none, IsPassed-same, IsPassed-some, IsPassed-some_more, earlier-from}
use Rattle.range_masks.proofs.next.next_of_leaves.Goals as goal

pub loop-leaf-init : goal.loop-leaf-init
loop-leaf-init g c = record { forward = tt; passed = λ sound. IsPassed-none _ _ }

pub loop-leaf-preserved : goal.loop-leaf-preserved
loop-leaf-preserved g c = record {
  forward = rw c.earlier-next.ensures (earlier-from _ _ _ c.loop-leaf.invariant.forward c.next_leaf_range.ensures.forward);
  passed = λ sound. rw c.earlier-next.ensures (IsPassed-some_more _ (λ (x : LeafKind). leaf_may (leaf_tree x)) c.args.leaves.now c.loop-leaf.leaf-index c.leaf-item.result _ _ _ c.loop-leaf-test.true c.leaf-item.is (c.loop-leaf.invariant.passed sound) (c.next_leaf_range.ensures.passed sound));
}

pub returns-clause-passed : goal.returns-clause-passed
returns-clause-passed g c = λ sound.
    IsPassed-same _ _ _ _ _ (λ d. any_map (λ (x : LeafTree). leaf_may x d) leaf_tree c.args.leaves.now)
    (IsPassed-some _ (λ (x : LeafKind). leaf_may (leaf_tree x)) c.args.leaves.now c.loop-leaf.leaf-index _ _ c.loop-leaf-test.false (c.loop-leaf.invariant.passed sound))
