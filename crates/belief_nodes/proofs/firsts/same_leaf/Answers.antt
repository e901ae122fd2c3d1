use Rattle.belief_nodes.proofs.FirstsLemmas.{same-extents}
use Rattle.belief_nodes.proofs.firsts.same_leaf.Goals as goal

pub returns-then-same_expr : goal.returns-then-same_expr
returns-then-same_expr c = λ yes.
    let o = c.in-Extents-Extents in
    same-extents c.args.a.now c.args.b.now o.x o.y o.context o.other o.is-0 o.is-1 (c.same_expr.ensures c.if-same_expr.true) (c.same_context.ensures yes)
