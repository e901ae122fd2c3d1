use Rattle.ri_base.specs.Collection.{document_at}
use Rattle.ri_base.specs.Expression.{expr_tree}
use Rattle.ri_base.specs.Query.{filter_tree}
use Rattle.document_scoring.proofs.FilterLemmas.{passes_is}
use Rattle.document_scoring.proofs.filters.passes.Goals as goal

pub returns-clause-exact : goal.returns-clause-exact
returns-clause-exact g c = λ sound.
    let d = document_at (g.P.Postings.documents c.args.part.now) c.args.id in
    let listed = c.extents_have_one_list.ensures.only_one (expr_tree c.args.filter.now.expr) d c.in_ok-found.found (c.in_ok-found.ensures.exact sound) in
    passes_is d (filter_tree c.args.filter.now) c.in_ok-found.found c.in_ok-first.first c.is_some.result c.is_some.ensures c.in_ok-first.ensures.first listed
