use Rattle.std.proofs.Common.{rules, ◌≡◌, ◌∙◌, ◌++◌, ◌∷◌, [], OnOk, append-nil, map, ap, subst, sym}
use Rattle.ri_base.specs.Expression.{expr_tree, expr_trees}
use Rattle.ri_base.specs.declared.expression.ExtentExpr.{ExtentExpr}
use Rattle.expression_words.specs.Words.{all_names, all_words, itself, names, nothing, words}
use Rattle.expression_words.proofs.WordLemmas.{in_any, in_in_field, in_operator, in_word, told_end, told_more, told_none}
use Rattle.expression_words.proofs.words.+asking.Goals as goal

pub ask_all-loop-x-init : goal.ask_all-loop-x-init
ask_all-loop-x-init t c = record {
  terms = told_none itself nothing c.args.asked.now.terms.items;
  names = told_none nothing itself c.args.asked.now.names.items;
}

pub ask_all-loop-x-preserved : goal.ask_all-loop-x-preserved
ask_all-loop-x-preserved t c = record {
  terms = told_more itself nothing c.args.all.now c.loop-x.x-index c.x-item.result c.args.asked.now.terms.items c.loop-x.asked.terms.items c.ask.new.asked.terms.items c.loop-x-test.true c.x-item.is c.loop-x.invariant.terms c.in_ok-ask.ensures.terms;
  names = told_more nothing itself c.args.all.now c.loop-x.x-index c.x-item.result c.args.asked.now.names.items c.loop-x.asked.names.items c.ask.new.asked.names.items c.loop-x-test.true c.x-item.is c.loop-x.invariant.names c.in_ok-ask.ensures.names;
}

pub ask_all-returns-clause-terms : goal.ask_all-returns-clause-terms
ask_all-returns-clause-terms t c = told_end itself nothing c.args.all.now c.loop-x.x-index c.args.asked.now.terms.items c.loop-x.asked.terms.items c.loop-x-test.false c.loop-x.invariant.terms

pub ask_all-returns-clause-names : goal.ask_all-returns-clause-names
ask_all-returns-clause-names t c = told_end nothing itself c.args.all.now c.loop-x.x-index c.args.asked.now.names.items c.loop-x.asked.names.items c.loop-x-test.false c.loop-x.invariant.names

pub ask-returns-in_ok-push-in-Word-clause-terms : goal.ask-returns-in_ok-push-in-Word-clause-terms
ask-returns-in_ok-push-in-Word-clause-terms t c =
    let old = c.args.asked.now.terms.items in
    let pushed : c.push.new.self.items ≡ old ++ c.in-Word.term ∷ [] = search rules in
    pushed ∙ ap (λ l. old ++ l) (sym (in_word itself nothing c.args.expr.now c.in-Word.term c.in-Word.is))

pub ask-returns-in_ok-push-in-Word-clause-names : goal.ask-returns-in_ok-push-in-Word-clause-names
ask-returns-in_ok-push-in-Word-clause-names t c =
    let old = c.args.asked.now.names.items in
    sym (ap (λ l. old ++ l) (in_word nothing itself c.args.expr.now c.in-Word.term c.in-Word.is) ∙ append-nil old)

pub ask-returns-in_ok-push-in-Any-clause-terms : goal.ask-returns-in_ok-push-in-Any-clause-terms
ask-returns-in_ok-push-in-Any-clause-terms t c =
    let old = c.args.asked.now.terms.items in
    sym (ap (λ l. old ++ l) (in_any itself nothing c.args.expr.now c.in-Any.name c.in-Any.is) ∙ append-nil old)

pub ask-returns-in_ok-push-in-Any-clause-names : goal.ask-returns-in_ok-push-in-Any-clause-names
ask-returns-in_ok-push-in-Any-clause-names t c =
    let old = c.args.asked.now.names.items in
    let pushed : c.push-in-Any.new.self.items ≡ old ++ c.in-Any.name ∷ [] = search rules in
    pushed ∙ ap (λ l. old ++ l) (sym (in_any nothing itself c.args.expr.now c.in-Any.name c.in-Any.is))

pub ask-returns-in-Ordered-clause-terms : goal.ask-returns-in-Ordered-clause-terms
ask-returns-in-Ordered-clause-terms t c =
    let same = ap (λ xs. all_words (expr_trees (map expr_tree xs))) c.deref-in-Ordered.ensures.value ∙ sym (in_operator itself nothing c.args.expr.now c.in-Ordered.all c.in-Ordered.is) in
    subst (λ l. OnOk c.ask_all.result (c.ask_all.new.asked.terms.items ≡ c.args.asked.now.terms.items ++ l)) same c.ask_all.ensures.terms

pub ask-returns-in-Ordered-clause-names : goal.ask-returns-in-Ordered-clause-names
ask-returns-in-Ordered-clause-names t c =
    let same = ap (λ xs. all_names (expr_trees (map expr_tree xs))) c.deref-in-Ordered.ensures.value ∙ sym (in_operator nothing itself c.args.expr.now c.in-Ordered.all c.in-Ordered.is) in
    subst (λ l. OnOk c.ask_all.result (c.ask_all.new.asked.names.items ≡ c.args.asked.now.names.items ++ l)) same c.ask_all.ensures.names

pub ask-returns-in-InField-clause-terms : goal.ask-returns-in-InField-clause-terms
ask-returns-in-InField-clause-terms t c =
    let same = ap (λ (y : ExtentExpr). words (expr_tree y)) c.deref.ensures ∙ sym (in_in_field itself nothing c.args.expr.now c.in-InField.x c.in-InField.field-1 c.in-InField.is) in
    subst (λ l. OnOk c.ask.result (c.ask.new.asked.terms.items ≡ c.args.asked.now.terms.items ++ l)) same c.ask.ensures.terms

pub ask-returns-in-InField-clause-names : goal.ask-returns-in-InField-clause-names
ask-returns-in-InField-clause-names t c =
    let same = ap (λ (y : ExtentExpr). names (expr_tree y)) c.deref.ensures ∙ sym (in_in_field nothing itself c.args.expr.now c.in-InField.x c.in-InField.field-1 c.in-InField.is) in
    subst (λ l. OnOk c.ask.result (c.ask.new.asked.names.items ≡ c.args.asked.now.names.items ++ l)) same c.ask.ensures.names
