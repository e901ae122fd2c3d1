use Rattle.std.proofs.Common.{List, length, option_copied, sym, ap, subst, ◌∙◌}
use Rattle.ri_base.specs.Collection.{document_at}
use Rattle.ri_base.specs.Documents.{Document}
use Rattle.ri_base.specs.Expression.{expr_tree}
use Rattle.field_extents.specs.Extents.{AreInOrder}
use Rattle.field_extents.specs.Fields.{lies_in_some}
use Rattle.field_extents.proofs.Laws.{AreInOrder-filter}
use Rattle.counts.proofs.OccurrenceLemmas.{inside_few, inside_occurs, plain_few, plain_occurs}
use Rattle.counts.proofs.occurrences.occurrences.Goals as goal

pub returns-in-None-clause-exact : goal.returns-in-None-clause-exact
returns-in-None-clause-exact g c = λ sound.
    let d = document_at (g.P.Postings.documents c.args.part.now) c.args.id in
    let listed = c.extents_have_one_list.ensures.only_one (expr_tree c.args.expr.now) d c.in_ok-found.found (c.in_ok-found.ensures.exact sound) in
    let tokens = c.length.ensures.exact ∙ ap (λ (ds : List Document). length (document_at ds c.args.id).tokens) c.in_ok-found.ensures.keeps.documents_stay in
    plain_occurs (expr_tree c.args.expr.now) d (option_copied c.args.context) c.in_ok-found.found c.length.result c.begins_in.result (ap option_copied c.in-None.is) listed tokens c.begins_in.ensures.exact

pub returns-in-None-clause-few : goal.returns-in-None-clause-few
returns-in-None-clause-few g c =
    let d = document_at (g.P.Postings.documents c.args.part.now) c.args.id in
    let tokens = c.length.ensures.exact ∙ ap (λ (ds : List Document). length (document_at ds c.args.id).tokens) c.in_ok-found.ensures.keeps.documents_stay in
    plain_few d (option_copied c.args.context) c.length.result c.begins_in.result (ap option_copied c.in-None.is) tokens c.begins_in.ensures.most

pub returns-clause-exact : goal.returns-clause-exact
returns-clause-exact g c = λ sound.
    let d = document_at (g.P.Postings.documents c.args.part.now) c.args.id in
    let listed = c.extents_have_one_list.ensures.only_one (expr_tree c.args.expr.now) d c.in_ok-found.found (c.in_ok-found.ensures.exact sound) in
    let stay = c.in_ok-found.ensures.keeps.documents_stay in
    let fields = c.spans.ensures.exact ∙ ap (λ (ds : List Document). (document_at ds c.args.id).fields) stay in
    let tokens = c.length-in-Some.ensures.exact ∙ ap (λ (ds : List Document). length (document_at ds c.args.id).tokens) stay in
    inside_occurs (expr_tree c.args.expr.now) d (option_copied c.args.context) c.in-Some.name.now c.in_ok-found.found c.in_ok-kept-in-Some.kept c.spans.result.now c.length-in-Some.result c.begins_in-in-Some.result
    (ap option_copied c.in-Some.is) listed fields c.in_ok-kept-in-Some.ensures.exact tokens c.begins_in-in-Some.ensures.exact

pub returns-clause-few : goal.returns-clause-few
returns-clause-few g c =
    let d = document_at (g.P.Postings.documents c.args.part.now) c.args.id in
    let stay = c.in_ok-found.ensures.keeps.documents_stay in
    let fields = c.spans.ensures.exact ∙ ap (λ (ds : List Document). (document_at ds c.args.id).fields) stay in
    let tokens = c.length-in-Some.ensures.exact ∙ ap (λ (ds : List Document). length (document_at ds c.args.id).tokens) stay in
    inside_few d (option_copied c.args.context) c.in-Some.name.now c.in_ok-kept-in-Some.kept c.spans.result.now c.length-in-Some.result c.begins_in-in-Some.result (ap option_copied c.in-Some.is) fields tokens
    c.begins_in-in-Some.ensures.exact c.in_ok-kept-in-Some.ensures.few

pub begins_in-requires-in-Some : goal.begins_in-requires-in-Some
begins_in-requires-in-Some g c =
    subst AreInOrder (sym c.in_ok-kept-in-Some.ensures.exact) (AreInOrder-filter (lies_in_some c.spans.result.now c.in-Some.name.now) c.in_ok-found.found c.in_ok-found.ensures.order)
