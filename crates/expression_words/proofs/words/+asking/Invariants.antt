use Rattle.std.proofs.Common.{◌≡◌, ◌++◌, map, take}
use Rattle.ri_base.specs.Expression.{expr_tree, expr_trees}
use Rattle.expression_words.specs.Words.{all_names, all_words}
use Rattle.expression_words.proofs.words.+asking.Given as goal

abbrev pub invariant-ask_all-loop-x : goal.invariant-ask_all-loop-x
invariant-ask_all-loop-x l = record {
  terms : l.asked.terms.items ≡ l.initial.asked.terms.items ++ all_words (expr_trees (map expr_tree (take l.x-index l.all)));
  names : l.asked.names.items ≡ l.initial.asked.names.items ++ all_names (expr_trees (map expr_tree (take l.x-index l.all)));
}
