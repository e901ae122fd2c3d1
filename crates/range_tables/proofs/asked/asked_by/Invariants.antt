use Rattle.std.proofs.Common.{◌≡◌, map, take}
use Rattle.query_check.specs.Leaves.{leaf_tree}
use Rattle.range_tables.specs.Asks.{all_leaf_names, all_leaf_words}
use Rattle.range_tables.proofs.asked.asked_by.Given as goal

abbrev pub invariant-loop-leaf : goal.invariant-loop-leaf
invariant-loop-leaf l = record {
  terms : l.asked.terms.items ≡ all_leaf_words (map leaf_tree (take l.leaf-index l.leaves));
  names : l.asked.names.items ≡ all_leaf_names (map leaf_tree (take l.leaf-index l.leaves));
}
