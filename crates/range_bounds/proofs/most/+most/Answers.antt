use Rattle.std.proofs.Common.{◌∙◌, cond, map, ap, sym, unwrap_or, arith}
use Rattle.ri_base.specs.Expression.{expr_tree, expr_trees}
use Rattle.ri_base.specs.declared.expression.ExtentExpr.{ExtentExpr}
use Rattle.range_bounds.specs.Most.{capped, each_occurs, most_of_first, total_most}
use Rattle.range_bounds.specs.Tables.{names_of, terms_of, told, told_most}
use Rattle.range_bounds.proofs.Togethers.{AreTold-more, AreTold-none, first_few, in_any, in_band, in_in_field, in_ordered, in_syn, in_unordered, in_word, told_each, told_first, told_total}
use Rattle.range_bounds.proofs.most.+most.Goals as goal

pub most_together-loop-x-init : goal.most_together-loop-x-init
most_together-loop-x-init t c = record {
  so_far = AreTold-none (told (terms_of c.args.table.now) c.args.counts.now.places.items) (told (names_of c.args.table.now) c.args.counts.now.begins.items);
  few = omega arith;
}

pub most_together-loop-x-preserved : goal.most_together-loop-x-preserved
most_together-loop-x-preserved t c = record {
  so_far = AreTold-more (told (terms_of c.args.table.now) c.args.counts.now.places.items) (told (names_of c.args.table.now) c.args.counts.now.begins.items) c.args.all.now c.loop-x.x-index c.x-item.result
      c.loop-x.together c.with-together.result c.most_of.result c.loop-x-test.true c.x-item.is c.loop-x.invariant.so_far c.most_of.ensures.exact c.with-together.ensures.each c.with-together.ensures.first c.with-together.ensures.total;
  few = first_few c.loop-x.together.first c.with-together.result.first c.most_of.result c.loop-x.invariant.few c.most_of.ensures.few c.with-together.ensures.first;
}

pub most_together-returns-clause-each : goal.most_together-returns-clause-each
most_together-returns-clause-each t c =
    told_each (told (terms_of c.args.table.now) c.args.counts.now.places.items) (told (names_of c.args.table.now) c.args.counts.now.begins.items) c.args.all.now c.loop-x.x-index c.loop-x.together c.loop-x-test.false c.loop-x.invariant.so_far

pub most_together-returns-clause-first : goal.most_together-returns-clause-first
most_together-returns-clause-first t c =
    told_first (told (terms_of c.args.table.now) c.args.counts.now.places.items) (told (names_of c.args.table.now) c.args.counts.now.begins.items) c.args.all.now c.loop-x.x-index c.loop-x.together c.loop-x-test.false c.loop-x.invariant.so_far

pub most_together-returns-clause-total : goal.most_together-returns-clause-total
most_together-returns-clause-total t c =
    told_total (told (terms_of c.args.table.now) c.args.counts.now.places.items) (told (names_of c.args.table.now) c.args.counts.now.begins.items) c.args.all.now c.loop-x.x-index c.loop-x.together c.loop-x-test.false c.loop-x.invariant.so_far

pub most_of-returns-in-Word-clause-exact : goal.most_of-returns-in-Word-clause-exact
most_of-returns-in-Word-clause-exact t c =
    c.most_of_term.ensures ∙ sym (in_word (told (terms_of c.args.table.now) c.args.counts.now.places.items) (told (names_of c.args.table.now) c.args.counts.now.begins.items) c.args.expr.now c.in-Word.term c.in-Word.is)

pub most_of-returns-in-Any-clause-exact : goal.most_of-returns-in-Any-clause-exact
most_of-returns-in-Any-clause-exact t c =
    c.most_of_name.ensures ∙ sym (in_any (told (terms_of c.args.table.now) c.args.counts.now.places.items) (told (names_of c.args.table.now) c.args.counts.now.begins.items) c.args.expr.now c.in-Any.name c.in-Any.is)

pub most_of-returns-in-Ordered-clause-exact : goal.most_of-returns-in-Ordered-clause-exact
most_of-returns-in-Ordered-clause-exact t c =
    let places = told (terms_of c.args.table.now) c.args.counts.now.places.items in
    let begins = told (names_of c.args.table.now) c.args.counts.now.begins.items in
    let e = c.most_together.ensures in
    c.first_of_each.ensures ∙ ap (λ b. cond b (unwrap_or c.most_together.result.first 0) 0) e.each ∙ ap (λ n. cond (each_occurs places begins (expr_trees (map expr_tree c.deref.result.now))) n 0) e.first
    ∙ ap (λ xs. cond (each_occurs places begins (expr_trees (map expr_tree xs))) (most_of_first places begins (expr_trees (map expr_tree xs))) 0) c.deref.ensures.value
    ∙ sym (in_ordered places begins c.args.expr.now c.in-Ordered.field-0 c.in-Ordered.all c.in-Ordered.is)

pub most_of-returns-in-Unordered-clause-exact : goal.most_of-returns-in-Unordered-clause-exact
most_of-returns-in-Unordered-clause-exact t c =
    let places = told (terms_of c.args.table.now) c.args.counts.now.places.items in
    let begins = told (names_of c.args.table.now) c.args.counts.now.begins.items in
    let e = c.most_together-in-Unordered.ensures in
    c.total_of_each.ensures ∙ ap (λ b. cond b c.most_together-in-Unordered.result.total 0) e.each ∙ ap (λ n. cond (each_occurs places begins (expr_trees (map expr_tree c.deref-in-Unordered.result.now))) n 0) e.total
    ∙ ap (λ xs. cond (each_occurs places begins (expr_trees (map expr_tree xs))) (capped (total_most places begins (expr_trees (map expr_tree xs)))) 0) c.deref-in-Unordered.ensures.value
    ∙ sym (in_unordered places begins c.args.expr.now c.in-Unordered.field-0 c.in-Unordered.all c.in-Unordered.is)

pub most_of-returns-in-Syn-clause-exact : goal.most_of-returns-in-Syn-clause-exact
most_of-returns-in-Syn-clause-exact t c =
    let places = told (terms_of c.args.table.now) c.args.counts.now.places.items in
    let begins = told (names_of c.args.table.now) c.args.counts.now.begins.items in
    c.most_together-in-Syn.ensures.total ∙ ap (λ xs. capped (total_most places begins (expr_trees (map expr_tree xs)))) c.deref-in-Syn.ensures.value
    ∙ sym (in_syn places begins c.args.expr.now c.in-Syn.all c.in-Syn.is)

pub most_of-returns-in-Band-clause-exact : goal.most_of-returns-in-Band-clause-exact
most_of-returns-in-Band-clause-exact t c =
    let places = told (terms_of c.args.table.now) c.args.counts.now.places.items in
    let begins = told (names_of c.args.table.now) c.args.counts.now.begins.items in
    c.one_of_each.ensures ∙ ap (λ b. cond b 1 0) c.most_together-in-Band.ensures.each
    ∙ ap (λ xs. cond (each_occurs places begins (expr_trees (map expr_tree xs))) 1 0) c.deref-in-Band.ensures.value
    ∙ sym (in_band places begins c.args.expr.now c.in-Band.all c.in-Band.is)

pub most_of-returns-in-InField-clause-exact : goal.most_of-returns-in-InField-clause-exact
most_of-returns-in-InField-clause-exact t c =
    let places = told (terms_of c.args.table.now) c.args.counts.now.places.items in
    let begins = told (names_of c.args.table.now) c.args.counts.now.begins.items in
    c.most_of.ensures.exact ∙ ap (λ (y : ExtentExpr). told_most c.args.table.now c.args.counts.now (expr_tree y)) c.deref-in-InField.ensures
    ∙ sym (in_in_field places begins c.args.expr.now c.in-InField.x c.in-InField.field-1 c.in-InField.is)
