use Rattle.std.proofs.Common.{◌∙◌, true, refl, ap, sym}
use Rattle.std.proofs.lemmas.Bool.{both_ways}
use Rattle.ri_base.specs.Expression.{expr_tree}
use Rattle.ri_base.specs.declared.expression.ExtentExpr.{ExtentExpr}
use Rattle.range_bounds.specs.Most.{capped, most}
use Rattle.range_bounds.specs.Ranges.{most_begins, most_places, range_documents}
use Rattle.range_bounds.proofs.Togethers.{in_in_field, in_word}
use Rattle.range_tables.proofs.AbsentLemmas.{each_fails, total_end, total_more, total_none, union_none, window_none}
use Rattle.range_tables.proofs.presence.+presence.Goals as goal

pub each_may-returns-then-not-may_occur : goal.each_may-returns-then-not-may_occur
each_may-returns-then-not-may_occur g t c = λ sound e.
    let docs = range_documents (g.P.Postings.documents c.args.part.now) c.args.range in
    each_fails (most_places docs) (most_begins docs) c.args.all.now c.loop-x.x-index c.x-item.result c.loop-x-test.true c.x-item.is (c.may_occur.ensures sound c.if-not-may_occur.true)

pub each_may-returns : goal.each_may-returns
each_may-returns g t c = λ sound e. absurd (both_ways true e refl)

pub some_may-loop-x-init : goal.some_may-loop-x-init
some_may-loop-x-init g t c = λ sound.
    let docs = range_documents (g.P.Postings.documents c.args.part.now) c.args.range in
    total_none (most_places docs) (most_begins docs)

pub some_may-loop-x-preserved : goal.some_may-loop-x-preserved
some_may-loop-x-preserved g t c = λ sound.
    let docs = range_documents (g.P.Postings.documents c.args.part.now) c.args.range in
    total_more (most_places docs) (most_begins docs) c.args.all.now c.loop-x.x-index c.x-item.result c.loop-x-test.true c.x-item.is (c.loop-x.invariant sound) (c.may_occur.ensures sound c.if-may_occur.false)

pub some_may-returns-then-may_occur : goal.some_may-returns-then-may_occur
some_may-returns-then-may_occur g t c = λ sound e. absurd (both_ways true e refl)

pub some_may-returns : goal.some_may-returns
some_may-returns g t c = λ sound e.
    let docs = range_documents (g.P.Postings.documents c.args.part.now) c.args.range in
    total_end (most_places docs) (most_begins docs) c.args.all.now c.loop-x.x-index c.loop-x-test.false (c.loop-x.invariant sound)

pub may_occur-returns-in-Word : goal.may_occur-returns-in-Word
may_occur-returns-in-Word g t c = λ sound e.
    let docs = range_documents (g.P.Postings.documents c.args.part.now) c.args.range in
    in_word (most_places docs) (most_begins docs) c.args.expr.now c.in-Word.term c.in-Word.is ∙ ap capped (c.may_stand.ensures sound e)

pub may_occur-returns-in-Any : goal.may_occur-returns-in-Any
may_occur-returns-in-Any g t c = λ sound e. absurd (both_ways true e refl)

pub may_occur-returns-in-Syn : goal.may_occur-returns-in-Syn
may_occur-returns-in-Syn g t c = λ sound e.
    let docs = range_documents (g.P.Postings.documents c.args.part.now) c.args.range in
    union_none (most_places docs) (most_begins docs) c.args.expr.now c.in-Syn.all c.in-Syn.is (rw c.deref.ensures.value at (c.some_may.ensures sound e))

pub may_occur-returns-in-InField : goal.may_occur-returns-in-InField
may_occur-returns-in-InField g t c = λ sound e.
    let docs = range_documents (g.P.Postings.documents c.args.part.now) c.args.range in
    in_in_field (most_places docs) (most_begins docs) c.args.expr.now c.in-InField.x c.in-InField.field-1 c.in-InField.is
    ∙ sym (ap (λ (y : ExtentExpr). most docs (expr_tree y)) c.deref-in-InField.ensures) ∙ c.may_occur.ensures sound e

pub may_occur-returns-in-Ordered : goal.may_occur-returns-in-Ordered
may_occur-returns-in-Ordered g t c = λ sound e.
    let docs = range_documents (g.P.Postings.documents c.args.part.now) c.args.range in
    window_none (most_places docs) (most_begins docs) c.args.expr.now c.in-Ordered.all c.in-Ordered.is (rw c.deref-in-Ordered.ensures.value at (c.each_may.ensures sound e))
