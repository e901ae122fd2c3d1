use Rattle.std.proofs.Common.{◌≡◌, ◌∙◌, false, map, ap, sym, subst}
use Rattle.std.specs.Prelude.{Contains}
use Rattle.std.specs.Str.{bytes_eq}
use Rattle.ri_base.specs.Expression.{expr_tree, expr_trees}
use Rattle.ri_base.specs.declared.expression.ExtentExpr.{ExtentExpr}
use Rattle.expression_words.specs.Words.{all_words, itself, nothing, words}
use Rattle.expression_words.proofs.WordLemmas.{in_any, in_in_field, in_operator, in_word}
use Rattle.range_tables.proofs.NeedLemmas.{none_end, none_first, none_more, not_own, not_there}
use Rattle.range_tables.proofs.needs.+words.Goals as goal

pub some_has_word-loop-x-init : goal.some_has_word-loop-x-init
some_has_word-loop-x-init t c = none_first c.args.term.now

pub some_has_word-loop-x-preserved : goal.some_has_word-loop-x-preserved
some_has_word-loop-x-preserved t c =
    none_more c.args.term.now c.args.all.now c.loop-x.x-index c.x-item.result c.loop-x-test.true c.x-item.is c.loop-x.invariant (c.has_word.ensures c.if-has_word.false)

pub some_has_word-returns : goal.some_has_word-returns
some_has_word-returns t c = λ e. none_end c.args.term.now c.args.all.now c.loop-x.x-index c.loop-x-test.false c.loop-x.invariant

pub has_word-returns-in-Word : goal.has_word-returns-in-Word
has_word-returns-in-Word t c = λ e.
    let other : bytes_eq c.in-Word.word c.args.term.now ≡ false = sym c.eq.ensures ∙ e in
    not_own c.args.term.now c.in-Word.word other (in_word itself nothing c.args.expr.now c.in-Word.word c.in-Word.is)

pub has_word-returns-in-Any : goal.has_word-returns-in-Any
has_word-returns-in-Any t c = λ e. not_there c.args.term.now (in_any itself nothing c.args.expr.now c.in-Any.field-0 c.in-Any.is)

pub has_word-returns-in-InField : goal.has_word-returns-in-InField
has_word-returns-in-InField t c = λ e has.
    let same = in_in_field itself nothing c.args.expr.now c.in-InField.x c.in-InField.field-1 c.in-InField.is ∙ sym (ap (λ (y : ExtentExpr). words (expr_tree y)) c.deref.ensures) in
    c.has_word.ensures e (subst (λ ws. Contains ws c.args.term.now) same has)

pub has_word-returns-in-Ordered : goal.has_word-returns-in-Ordered
has_word-returns-in-Ordered t c = λ e has.
    let same = in_operator itself nothing c.args.expr.now c.in-Ordered.all c.in-Ordered.is ∙ sym (ap (λ xs. all_words (expr_trees (map expr_tree xs))) c.deref-in-Ordered.ensures.value) in
    c.some_has_word.ensures e (subst (λ ws. Contains ws c.args.term.now) same has)
