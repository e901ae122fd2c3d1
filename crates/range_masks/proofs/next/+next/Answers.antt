use Rattle.std.proofs.Common.{◌+◌, arith}
use Rattle.ri_base.specs.Expression.{expr_tree}
use Rattle.ri_base.specs.declared.expression.ExtentExpr.{ExtentExpr}
use Rattle.range_masks.specs.May.{may}
use Rattle.range_masks.proofs.MayLemmas.{may-band, may-in_field, may-ordered, may-syn, may-unordered, may-word}
use Rattle.range_masks.proofs.NextLemmas.{IsPassed-each, IsPassed-each_more, IsPassed-each_none, IsPassed-here, IsPassed-none, IsPassed-same, IsPassed-some, IsPassed-some_more, earlier-from}
use Rattle.range_masks.proofs.next.+next.Goals as goal

pub next_of_each-loop-x-init : goal.next_of_each-loop-x-init
next_of_each-loop-x-init g t c = record { forward = omega arith; passed = λ sound. IsPassed-here _ _ _ }

pub next_of_some-loop-x-init : goal.next_of_some-loop-x-init
next_of_some-loop-x-init g t c = record { forward = tt; passed = λ sound. IsPassed-none _ _ }

pub next_of_some-loop-x-preserved : goal.next_of_some-loop-x-preserved
next_of_some-loop-x-preserved g t c = record {
  forward = rw c.earlier-next.ensures (earlier-from _ _ _ c.loop-x.invariant.forward c.next_range.ensures.forward);
  passed = λ sound. rw c.earlier-next.ensures (IsPassed-some_more _ (λ (x : ExtentExpr). may (expr_tree x)) c.args.all.now c.loop-x.x-index c.x-item.result _ _ _ c.loop-x-test.true c.x-item.is (c.loop-x.invariant.passed sound) (c.next_range.ensures.passed sound));
}

pub next_of_some-returns-clause-passed : goal.next_of_some-returns-clause-passed
next_of_some-returns-clause-passed g t c = λ sound. IsPassed-some _ (λ (x : ExtentExpr). may (expr_tree x)) c.args.all.now c.loop-x.x-index _ _ c.loop-x-test.false (c.loop-x.invariant.passed sound)

pub next_of_each-returns-clause-passed : goal.next_of_each-returns-clause-passed
next_of_each-returns-clause-passed g t c = λ sound. IsPassed-each _ (λ (x : ExtentExpr). may (expr_tree x)) c.args.all.now c.loop-x.x-index _ _ c.loop-x-test.false (c.loop-x.invariant.passed sound)

pub next_range-returns-in-Word-clause-passed : goal.next_range-returns-in-Word-clause-passed
next_range-returns-in-Word-clause-passed g t c = λ sound. IsPassed-same _ _ _ _ _ (λ d. may-word c.args.expr.now d c.in-Word.term c.in-Word.is) (c.next_term_range.ensures.passed sound)

pub next_range-returns-in-Any-clause-passed : goal.next_range-returns-in-Any-clause-passed
next_range-returns-in-Any-clause-passed g t c = λ sound. IsPassed-here _ _ _

pub next_range-returns-in-Ordered-clause-passed : goal.next_range-returns-in-Ordered-clause-passed
next_range-returns-in-Ordered-clause-passed g t c = λ sound.
    IsPassed-same _ _ _ _ _ (λ d. may-ordered c.args.expr.now d _ c.in-Ordered.all c.in-Ordered.is) (rw c.deref.ensures.value at (c.next_of_each.ensures.passed sound))

pub next_range-returns-in-Unordered-clause-passed : goal.next_range-returns-in-Unordered-clause-passed
next_range-returns-in-Unordered-clause-passed g t c = λ sound.
    IsPassed-same _ _ _ _ _ (λ d. may-unordered c.args.expr.now d _ c.in-Unordered.all c.in-Unordered.is) (rw c.deref-in-Unordered.ensures.value at (c.next_of_each-in-Unordered.ensures.passed sound))

pub next_range-returns-in-Band-clause-passed : goal.next_range-returns-in-Band-clause-passed
next_range-returns-in-Band-clause-passed g t c = λ sound.
    IsPassed-same _ _ _ _ _ (λ d. may-band c.args.expr.now d c.in-Band.all c.in-Band.is) (rw c.deref-in-Band.ensures.value at (c.next_of_each-in-Band.ensures.passed sound))

pub next_range-returns-in-Syn-clause-passed : goal.next_range-returns-in-Syn-clause-passed
next_range-returns-in-Syn-clause-passed g t c = λ sound.
    IsPassed-same _ _ _ _ _ (λ d. may-syn c.args.expr.now d c.in-Syn.all c.in-Syn.is) (rw c.deref-in-Syn.ensures.value at (c.next_of_some.ensures.passed sound))

pub next_range-returns-in-InField-clause-passed : goal.next_range-returns-in-InField-clause-passed
next_range-returns-in-InField-clause-passed g t c = λ sound.
    IsPassed-same _ _ _ _ _ (λ d. may-in_field c.args.expr.now d c.in-InField.x _ c.in-InField.is) (rw c.deref-in-InField.ensures at (c.next_range.ensures.passed sound))

pub next_of_each-loop-x-preserved : goal.next_of_each-loop-x-preserved
next_of_each-loop-x-preserved g t c = record {
  forward = omega (arith, c.loop-x.invariant.forward, c.in-Some.ensures.forward);
  passed = λ sound. IsPassed-each_more _ (λ (x : ExtentExpr). may (expr_tree x)) c.args.all.now c.loop-x.x-index c.x-item.result _ _ _ c.loop-x-test.true c.x-item.is (c.loop-x.invariant.passed sound) (c.in-Some.ensures.passed sound);
}

pub next_of_each-returns-in-None-clause-passed : goal.next_of_each-returns-in-None-clause-passed
next_of_each-returns-in-None-clause-passed g t c = λ sound.
    IsPassed-each_none _ (λ (x : ExtentExpr). may (expr_tree x)) c.args.all.now (c.loop-x.x-index + 1) _
    (IsPassed-each_more _ (λ (x : ExtentExpr). may (expr_tree x)) c.args.all.now c.loop-x.x-index c.x-item.result _ _ _ c.loop-x-test.true c.x-item.is (c.loop-x.invariant.passed sound) (c.in-None.ensures.passed sound))
