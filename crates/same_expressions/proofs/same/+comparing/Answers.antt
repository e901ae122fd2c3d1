use Rattle.std.proofs.Common.{◌≡◌, map, ap, sym, ◌∙◌, rules}
use Rattle.ri_base.specs.Expression.{expr_tree}
use Rattle.same_expressions.proofs.SameLemmas.{same-band, same-in_field, same-ordered, same-syn, same-unordered}
use Rattle.same_expressions.proofs.same.+comparing.Goals as goal

pub same_expr-returns-then-m-n : goal.same_expr-returns-then-m-n
same_expr-returns-then-m-n t c = λ yes.
    let o = c.in-Ordered-Ordered in
    same-ordered c.args.a.now c.args.b.now o.m o.n o.xs o.ys o.is-0 o.is-1 c.if-m-n.true
    (sym (ap (map expr_tree) c.deref.ensures.value) ∙ c.same_exprs.ensures yes ∙ ap (map expr_tree) c.deref-then-m-n.ensures.value)

pub same_expr-returns-then-m-n-2 : goal.same_expr-returns-then-m-n-2
same_expr-returns-then-m-n-2 t c = λ yes.
    let o = c.in-Unordered-Unordered in
    same-unordered c.args.a.now c.args.b.now o.m o.n o.xs o.ys o.is-0 o.is-1 c.if-m-n-2.true
    (sym (ap (map expr_tree) c.deref-then-m-n-2.ensures.value) ∙ c.same_exprs-then-m-n-2.ensures yes ∙ ap (map expr_tree) c.deref-then-m-n-2-2.ensures.value)

pub same_expr-returns-in-Syn-Syn : goal.same_expr-returns-in-Syn-Syn
same_expr-returns-in-Syn-Syn t c = λ yes.
    let o = c.in-Syn-Syn in
    same-syn c.args.a.now c.args.b.now o.xs o.ys o.is-0 o.is-1
    (sym (ap (map expr_tree) c.deref-in-Syn-Syn.ensures.value) ∙ c.same_exprs-in-Syn-Syn.ensures yes ∙ ap (map expr_tree) c.deref-in-Syn-Syn-2.ensures.value)

pub same_expr-returns-in-Band-Band : goal.same_expr-returns-in-Band-Band
same_expr-returns-in-Band-Band t c = λ yes.
    let o = c.in-Band-Band in
    same-band c.args.a.now c.args.b.now o.xs o.ys o.is-0 o.is-1
    (sym (ap (map expr_tree) c.deref-in-Band-Band.ensures.value) ∙ c.same_exprs-in-Band-Band.ensures yes ∙ ap (map expr_tree) c.deref-in-Band-Band-2.ensures.value)

pub same_expr-returns-then-eq : goal.same_expr-returns-then-eq
same_expr-returns-then-eq t c = λ yes.
    let o = c.in-InField-InField in
    let same : o.f ≡ o.g = search rules in
    same-in_field c.args.a.now c.args.b.now o.x o.y o.f o.g o.is-0 o.is-1 same (sym (ap expr_tree c.deref-then-eq.ensures) ∙ c.same_expr.ensures yes ∙ ap expr_tree c.deref-then-eq-2.ensures)
