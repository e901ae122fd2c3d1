use Rattle.std.proofs.Common.{List, ap}
use Rattle.ri_base.specs.Collection.{document_at}
use Rattle.ri_base.specs.Documents.{Document}
use Rattle.ri_base.specs.Expression.{expr_tree}
use Rattle.extent_evaluation.proofs.ListedLemmas.{listing_is}
use Rattle.extent_evaluation.proofs.InsideLemmas.{order_from}
use Rattle.extent_ops.proofs.alone.extents_of.Goals as goal

pub returns-in-Ok-clause-exact : goal.returns-in-Ok-clause-exact
returns-in-Ok-clause-exact c = listing_is (expr_tree c.args.expr.now) c.args.doc.now c.in-Ok.found
    (rw (ap (λ (docs : List Document). document_at docs 0) c.in_ok-alone.ensures) at (c.in-Ok.ensures.exact tt))

pub returns-in-Ok-clause-order : goal.returns-in-Ok-clause-order
returns-in-Ok-clause-order c = order_from c.in-Ok.found (c.in-Ok.ensures.exact tt).ascending
