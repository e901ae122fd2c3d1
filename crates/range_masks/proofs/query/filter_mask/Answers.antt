use Rattle.std.proofs.Common.{true, cond, Bool, ap}
use Rattle.std.proofs.lemmas.Result.{IfOk-weaker}
use Rattle.ri_base.specs.Documents.{Document}
use Rattle.ri_base.specs.Expression.{expr_tree}
use Rattle.ri_base.specs.Query.{filter_tree}
use Rattle.range_masks.specs.May.{filter_may, may}
use Rattle.range_masks.proofs.MaskLemmas.{IsMask-all, IsMask-same}
use Rattle.range_masks.proofs.query.filter_mask.Goals as goal

pub returns-then-filter-clause-exact : goal.returns-then-filter-clause-exact
returns-then-filter-clause-exact g c = λ sound.
    let f = c.args.filter.now in
    IfOk-weaker _ _ _
    (λ m h. IsMask-same _ _ (may (expr_tree f.expr)) (filter_may (filter_tree f)) m (λ (d : Document). ap (λ (b : Bool). cond b (may (expr_tree f.expr) d) true) c.if-filter.true) h)
    (c.expression_mask.ensures.exact sound)

pub returns-else-filter-clause-exact : goal.returns-else-filter-clause-exact
returns-else-filter-clause-exact g c = λ sound.
    let f = c.args.filter.now in
    IsMask-same _ _ (λ d. true) (filter_may (filter_tree f)) _ (λ (d : Document). ap (λ (b : Bool). cond b (may (expr_tree f.expr) d) true) c.if-filter.false) (IsMask-all _ _)
