use Rattle.std.proofs.Common.{map, ap, sym, ◌∙◌, rules}
use Rattle.ri_base.specs.Expression.{expr_tree, expr_trees}
use Rattle.ri_base.specs.declared.expression.ExtentExpr.{ExtentExpr}
use Rattle.extent_lists.specs.Presence.{may_with, may_each_with, may_some_with}
use Rattle.extent_lists.proofs.PresenceLemmas.{may_with-all, may_with-any, may_with-in_field, may_with-syn, may_with-word}
use Rattle.disk_index.specs.Parts.{source_of}
use Rattle.disk_index.specs.Presence.{may_have}
use Rattle.counts.proofs.PresenceLemmas.{each-end, each-fails, each-next, some-end, some-holds, some-next}
use Rattle.counts.proofs.presence.+presence.Goals as goal

pub may_occur-returns-in-Word : goal.may_occur-returns-in-Word
may_occur-returns-in-Word t c = c.may_have.ensures.exact ∙ sym (may_with-word (may_have (source_of c.args.part.now) c.args.range) c.args.expr.now c.in-Word.term c.in-Word.is)

pub may_occur-returns-in-Any : goal.may_occur-returns-in-Any
may_occur-returns-in-Any t c = sym (may_with-any (may_have (source_of c.args.part.now) c.args.range) c.args.expr.now c.in-Any.field-0 c.in-Any.is)

pub each_may-loop-x-preserved : goal.each_may-loop-x-preserved
each_may-loop-x-preserved t c =
    each-next (may_have (source_of c.args.part.now) c.args.range) c.args.all.now c.loop-x.x-index _ c.x-item.result c.loop-x-test.true c.x-item.is (sym c.may_occur.ensures ∙ search rules) c.loop-x.invariant

pub each_may-returns-then-not-may_occur : goal.each_may-returns-then-not-may_occur
each_may-returns-then-not-may_occur t c =
    each-fails (may_have (source_of c.args.part.now) c.args.range) c.args.all.now c.loop-x.x-index _ c.x-item.result c.loop-x-test.true c.x-item.is (sym c.may_occur.ensures ∙ search rules) c.loop-x.invariant

pub each_may-returns : goal.each_may-returns
each_may-returns t c = each-end (may_have (source_of c.args.part.now) c.args.range) c.args.all.now c.loop-x.x-index _ c.loop-x-test.false c.loop-x.invariant

pub some_may-loop-x-preserved : goal.some_may-loop-x-preserved
some_may-loop-x-preserved t c =
    some-next (may_have (source_of c.args.part.now) c.args.range) c.args.all.now c.loop-x.x-index _ c.x-item.result c.loop-x-test.true c.x-item.is (sym c.may_occur.ensures ∙ c.if-may_occur.false) c.loop-x.invariant

pub some_may-returns-then-may_occur : goal.some_may-returns-then-may_occur
some_may-returns-then-may_occur t c =
    some-holds (may_have (source_of c.args.part.now) c.args.range) c.args.all.now c.loop-x.x-index _ c.x-item.result c.loop-x-test.true c.x-item.is (sym c.may_occur.ensures ∙ c.if-may_occur.true) c.loop-x.invariant

pub some_may-returns : goal.some_may-returns
some_may-returns t c = some-end (may_have (source_of c.args.part.now) c.args.range) c.args.all.now c.loop-x.x-index _ c.loop-x-test.false c.loop-x.invariant

pub may_occur-returns-in-Syn : goal.may_occur-returns-in-Syn
may_occur-returns-in-Syn t c =
    let has = may_have (source_of c.args.part.now) c.args.range in
    c.some_may.ensures ∙ ap (λ xs. may_some_with has (expr_trees (map expr_tree xs))) c.deref.ensures.value ∙ sym (may_with-syn has c.args.expr.now c.in-Syn.all c.in-Syn.is)

pub may_occur-returns-in-InField : goal.may_occur-returns-in-InField
may_occur-returns-in-InField t c =
    let has = may_have (source_of c.args.part.now) c.args.range in
    c.may_occur.ensures ∙ ap (λ (y : ExtentExpr). may_with has (expr_tree y)) c.deref-in-InField.ensures ∙ sym (may_with-in_field has c.args.expr.now c.in-InField.x c.in-InField.field-1 c.in-InField.is)

pub may_occur-returns-in-Ordered : goal.may_occur-returns-in-Ordered
may_occur-returns-in-Ordered t c =
    let has = may_have (source_of c.args.part.now) c.args.range in
    c.each_may.ensures ∙ ap (λ xs. may_each_with has (expr_trees (map expr_tree xs))) c.deref-in-Ordered.ensures.value ∙ sym (may_with-all has c.args.expr.now c.in-Ordered.all c.in-Ordered.is)
