use Rattle.std.proofs.Common.{List, ap, ◌∙◌}
use Rattle.ri_base.specs.Collection.{document_at}
use Rattle.ri_base.specs.Documents.{Document}
use Rattle.ri_base.specs.Expression.{expr_tree}
use Rattle.document_scoring.proofs.CountLemmas.{counted_all, counted_in, few_none, few_some, inside_found}
use Rattle.document_scoring.proofs.found.counted.Goals as goal

pub returns-in_ok-inside-in-Some-clause-exact : goal.returns-in_ok-inside-in-Some-clause-exact
returns-in_ok-inside-in-Some-clause-exact g c = λ sound.
    let d = document_at (g.P.Postings.documents c.args.part.now) c.args.id in
    let listed = c.extents_have_one_list.ensures.only_one (expr_tree c.args.expr.now) d c.in_ok-found.found (c.in_ok-found.ensures.exact sound) in
    let fields = c.spans.ensures.exact ∙ ap (λ (ds : List Document). (document_at ds c.args.id).fields) c.in_ok-found.ensures.keeps.documents_stay in
    counted_in (expr_tree c.args.expr.now) d c.args.context.now _ _ _ _ c.in-Some.is listed fields c.in_ok-inside-in-Some.ensures.exact

pub returns-in_ok-inside-in-Some-clause-order : goal.returns-in_ok-inside-in-Some-clause-order
returns-in_ok-inside-in-Some-clause-order g c =
    let d = document_at (g.P.Postings.documents c.args.part.now) c.args.id in
    let fields = c.spans.ensures.exact ∙ ap (λ (ds : List Document). (document_at ds c.args.id).fields) c.in_ok-found.ensures.keeps.documents_stay in
    (inside_found _ _ _ d.fields _ c.in_ok-found.ensures.order c.in_ok-inside-in-Some.ensures.exact c.in_ok-inside-in-Some.ensures.few fields).0

pub returns-in_ok-inside-in-Some-clause-few : goal.returns-in_ok-inside-in-Some-clause-few
returns-in_ok-inside-in-Some-clause-few g c =
    let d = document_at (g.P.Postings.documents c.args.part.now) c.args.id in
    let fields = c.spans.ensures.exact ∙ ap (λ (ds : List Document). (document_at ds c.args.id).fields) c.in_ok-found.ensures.keeps.documents_stay in
    few_some c.args.context.now _ _ d.fields c.in-Some.is
    (inside_found _ _ _ d.fields _ c.in_ok-found.ensures.order c.in_ok-inside-in-Some.ensures.exact c.in_ok-inside-in-Some.ensures.few fields).1

pub returns-in-None-clause-exact : goal.returns-in-None-clause-exact
returns-in-None-clause-exact g c = λ sound.
    let d = document_at (g.P.Postings.documents c.args.part.now) c.args.id in
    let listed = c.extents_have_one_list.ensures.only_one (expr_tree c.args.expr.now) d c.in_ok-found.found (c.in_ok-found.ensures.exact sound) in
    counted_all (expr_tree c.args.expr.now) d c.args.context.now _ c.in-None.is listed

pub returns-in-None-clause-few : goal.returns-in-None-clause-few
returns-in-None-clause-few g c = few_none c.args.context.now _ _ c.in-None.is
