use Rattle.std.proofs.Common.{refl, arith, ◌∙◌}
use Rattle.query_check.specs.Leaves.{leaf_tree}
use Rattle.query_check.specs.declared.leaf_kind.LeafKind.{LeafKind}
use Rattle.extent_lists.proofs.KeepsLemmas.{Keeps-then}
use Rattle.range_masks.specs.May.{leaf_may}
use Rattle.range_masks.proofs.MaskLemmas.{IsMask-leaves, IsMask-none, IsMask-some, IsMask-some_more}
use Rattle.range_masks.proofs.query.leaves_mask.Goals as goal

pub loop-leaf-init : goal.loop-leaf-init
loop-leaf-init g c = record {
  undamaged = refl;
  keeps = record { documents_stay = refl; no_fault_lost = omega arith; sound_stays = λ u. u; intact_stays = λ u. u; stays_quiet = g.met.P.Postings.quiet_same _ };
  exact = λ sound. IsMask-none _ _;
}

pub loop-leaf-preserved : goal.loop-leaf-preserved
loop-leaf-preserved g c = record {
  undamaged = c.in_ok-found.ensures.undamaged ∙ c.loop-leaf.invariant.undamaged;
  keeps = Keeps-then _ _ _ _ _ g.met.P.Postings.quiet_then _ _ _ c.loop-leaf.invariant.keeps c.leaf_mask.ensures.keeps;
  exact = λ sound.
      let found = rw c.loop-leaf.invariant.keeps.documents_stay at (c.in_ok-found.ensures.exact (c.loop-leaf.invariant.keeps.sound_stays sound)) in
      IsMask-some_more _ _ (λ (x : LeafKind). leaf_may (leaf_tree x)) c.args.leaves.now c.loop-leaf.leaf-index c.leaf-item.result _ _ c.loop-leaf-test.true c.leaf-item.is (c.loop-leaf.invariant.exact sound) found;
}

pub returns-clause-exact : goal.returns-clause-exact
returns-clause-exact g c = λ sound.
    IsMask-leaves _ _ c.args.leaves.now _ (IsMask-some _ _ (λ (x : LeafKind). leaf_may (leaf_tree x)) c.args.leaves.now c.loop-leaf.leaf-index _ c.loop-leaf-test.false (c.loop-leaf.invariant.exact sound))
