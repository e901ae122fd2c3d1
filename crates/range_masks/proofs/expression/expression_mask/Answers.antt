use Rattle.std.proofs.lemmas.Result.{IfOk-weaker}
use Rattle.ri_base.specs.Expression.{expr_tree}
use Rattle.range_masks.proofs.MayLemmas.{HasEachDocument-mask}
use Rattle.range_masks.proofs.expression.expression_mask.Goals as goal

pub returns-clause-each : goal.returns-clause-each
returns-clause-each g c = λ sound. IfOk-weaker _ _ _ (λ m h. HasEachDocument-mask (expr_tree c.args.expr.now) c.args.range _ m h) (c.mask_of.ensures.exact sound)
