use Rattle.std.proofs.Common.{true, cond, Bool, ap}
use Rattle.ri_base.specs.Documents.{Document}
use Rattle.ri_base.specs.Expression.{expr_tree}
use Rattle.range_masks.specs.May.{may}
use Rattle.range_masks.proofs.NextLemmas.{IsPassed-here, IsPassed-same}
use Rattle.range_masks.proofs.next.next_of_filter.Goals as goal

pub returns-then-filter-clause-passed : goal.returns-then-filter-clause-passed
returns-then-filter-clause-passed g c = λ sound.
    let f = c.args.filter.now in
    IsPassed-same _ _ _ _ _ (λ (d : Document). ap (λ (b : Bool). cond b (may (expr_tree f.expr) d) true) c.if-filter.true) (c.next_range.ensures.passed sound)

pub returns-else-filter-clause-passed : goal.returns-else-filter-clause-passed
returns-else-filter-clause-passed g c = λ sound. IsPassed-here _ _ _
