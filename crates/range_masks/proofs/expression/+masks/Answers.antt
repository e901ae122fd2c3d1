use Rattle.std.proofs.Common.{refl, true, arith, ◌∙◌}
use Rattle.std.proofs.lemmas.Result.{IfOk-weaker}
use Rattle.ri_base.specs.Expression.{expr_tree}
use Rattle.ri_base.specs.declared.expression.ExtentExpr.{ExtentExpr}
use Rattle.extent_lists.proofs.KeepsLemmas.{Keeps-then}
use Rattle.range_masks.specs.May.{may}
use Rattle.range_masks.proofs.MaskLemmas.{IsMask-all, IsMask-each, IsMask-each_more, IsMask-each_none, IsMask-none, IsMask-same, IsMask-some, IsMask-some_more}
use Rattle.range_masks.proofs.MayLemmas.{may-any, may-band, may-in_field, may-ordered, may-syn, may-unordered, may-word}
use Rattle.range_masks.proofs.expression.+masks.Goals as goal

pub mask_of_each-loop-x-init : goal.mask_of_each-loop-x-init
mask_of_each-loop-x-init g t c = record {
  undamaged = refl;
  keeps = record { documents_stay = refl; no_fault_lost = omega arith; sound_stays = λ u. u; intact_stays = λ u. u; stays_quiet = g.met.P.Postings.quiet_same _ };
  exact = λ sound. IsMask-all _ _;
}

pub mask_of_each-loop-x-preserved : goal.mask_of_each-loop-x-preserved
mask_of_each-loop-x-preserved g t c = record {
  undamaged = c.in_ok-found.ensures.undamaged ∙ c.loop-x.invariant.undamaged;
  keeps = Keeps-then _ _ _ _ _ g.met.P.Postings.quiet_then _ _ _ c.loop-x.invariant.keeps c.mask_of.ensures.keeps;
  exact = λ sound.
      let found = rw c.loop-x.invariant.keeps.documents_stay at (c.in_ok-found.ensures.exact (c.loop-x.invariant.keeps.sound_stays sound)) in
      IsMask-each_more _ _ (λ (x : ExtentExpr). may (expr_tree x)) c.args.all.now c.loop-x.x-index c.x-item.result _ _ c.loop-x-test.true c.x-item.is (c.loop-x.invariant.exact sound) found;
}

pub mask_of_each-returns-then-mask-eq0-clause-exact : goal.mask_of_each-returns-then-mask-eq0-clause-exact
mask_of_each-returns-then-mask-eq0-clause-exact g t c = λ sound.
    let found = rw c.loop-x.invariant.keeps.documents_stay at (c.in_ok-found.ensures.exact (c.loop-x.invariant.keeps.sound_stays sound)) in
    IsMask-each_none _ _ (λ (x : ExtentExpr). may (expr_tree x)) c.args.all.now _ _ c.if-mask-eq0.true
    (IsMask-each_more _ _ (λ (x : ExtentExpr). may (expr_tree x)) c.args.all.now c.loop-x.x-index c.x-item.result _ _ c.loop-x-test.true c.x-item.is (c.loop-x.invariant.exact sound) found)

pub mask_of_each-returns-clause-exact : goal.mask_of_each-returns-clause-exact
mask_of_each-returns-clause-exact g t c = λ sound. IsMask-each _ _ (λ (x : ExtentExpr). may (expr_tree x)) c.args.all.now c.loop-x.x-index _ c.loop-x-test.false (c.loop-x.invariant.exact sound)

pub mask_of_some-loop-x-init : goal.mask_of_some-loop-x-init
mask_of_some-loop-x-init g t c = record {
  undamaged = refl;
  keeps = record { documents_stay = refl; no_fault_lost = omega arith; sound_stays = λ u. u; intact_stays = λ u. u; stays_quiet = g.met.P.Postings.quiet_same _ };
  exact = λ sound. IsMask-none _ _;
}

pub mask_of_some-loop-x-preserved : goal.mask_of_some-loop-x-preserved
mask_of_some-loop-x-preserved g t c = record {
  undamaged = c.in_ok-found.ensures.undamaged ∙ c.loop-x.invariant.undamaged;
  keeps = Keeps-then _ _ _ _ _ g.met.P.Postings.quiet_then _ _ _ c.loop-x.invariant.keeps c.mask_of.ensures.keeps;
  exact = λ sound.
      let found = rw c.loop-x.invariant.keeps.documents_stay at (c.in_ok-found.ensures.exact (c.loop-x.invariant.keeps.sound_stays sound)) in
      IsMask-some_more _ _ (λ (x : ExtentExpr). may (expr_tree x)) c.args.all.now c.loop-x.x-index c.x-item.result _ _ c.loop-x-test.true c.x-item.is (c.loop-x.invariant.exact sound) found;
}

pub mask_of_some-returns-clause-exact : goal.mask_of_some-returns-clause-exact
mask_of_some-returns-clause-exact g t c = λ sound. IsMask-some _ _ (λ (x : ExtentExpr). may (expr_tree x)) c.args.all.now c.loop-x.x-index _ c.loop-x-test.false (c.loop-x.invariant.exact sound)

pub mask_of-returns-in-Word-clause-exact : goal.mask_of-returns-in-Word-clause-exact
mask_of-returns-in-Word-clause-exact g t c = λ sound. IfOk-weaker _ _ _ (λ m h. IsMask-same _ _ _ _ m (λ d. may-word c.args.expr.now d c.in-Word.term c.in-Word.is) h) (c.term_mask.ensures.exact sound)

pub mask_of-returns-in-Ordered-clause-exact : goal.mask_of-returns-in-Ordered-clause-exact
mask_of-returns-in-Ordered-clause-exact g t c = λ sound.
    IfOk-weaker _ _ _ (λ m h. IsMask-same _ _ _ _ m (λ d. may-ordered c.args.expr.now d _ c.in-Ordered.all c.in-Ordered.is) h) (rw c.deref.ensures.value at (c.mask_of_each.ensures.exact sound))

pub mask_of-returns-in-Unordered-clause-exact : goal.mask_of-returns-in-Unordered-clause-exact
mask_of-returns-in-Unordered-clause-exact g t c = λ sound.
    IfOk-weaker _ _ _ (λ m h. IsMask-same _ _ _ _ m (λ d. may-unordered c.args.expr.now d _ c.in-Unordered.all c.in-Unordered.is) h) (rw c.deref-in-Unordered.ensures.value at (c.mask_of_each-in-Unordered.ensures.exact sound))

pub mask_of-returns-in-Syn-clause-exact : goal.mask_of-returns-in-Syn-clause-exact
mask_of-returns-in-Syn-clause-exact g t c = λ sound.
    IfOk-weaker _ _ _ (λ m h. IsMask-same _ _ _ _ m (λ d. may-syn c.args.expr.now d c.in-Syn.all c.in-Syn.is) h) (rw c.deref-in-Syn.ensures.value at (c.mask_of_some.ensures.exact sound))

pub mask_of-returns-in-Any-clause-exact : goal.mask_of-returns-in-Any-clause-exact
mask_of-returns-in-Any-clause-exact g t c = λ sound. IsMask-same _ _ (λ d. true) _ _ (λ d. may-any c.args.expr.now d _ c.in-Any.is) (IsMask-all _ _)

pub mask_of-returns-in-Band-clause-exact : goal.mask_of-returns-in-Band-clause-exact
mask_of-returns-in-Band-clause-exact g t c = λ sound.
    IfOk-weaker _ _ _ (λ m h. IsMask-same _ _ _ _ m (λ d. may-band c.args.expr.now d c.in-Band.all c.in-Band.is) h) (rw c.deref-in-Band.ensures.value at (c.mask_of_each-in-Band.ensures.exact sound))

pub mask_of-returns-in-InField-clause-exact : goal.mask_of-returns-in-InField-clause-exact
mask_of-returns-in-InField-clause-exact g t c = λ sound.
    IfOk-weaker _ _ _ (λ m h. IsMask-same _ _ _ _ m (λ d. may-in_field c.args.expr.now d c.in-InField.x _ c.in-InField.is) h) (rw c.deref-in-InField.ensures at (c.mask_of.ensures.exact sound))
