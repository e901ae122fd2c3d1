use Rattle.std.proofs.Common.{◌≡◌, ◌++◌, map, take}
use Rattle.std.specs.List.{flat_map}
use Rattle.query_check.specs.Leaves.{leaf_tree}
use Rattle.ranker.specs.Blocks.{leaf_words}
use Rattle.ranker.proofs.terms.ask_leaves.Given as goal

abbrev pub invariant-loop-leaf : goal.invariant-loop-leaf
invariant-loop-leaf l = record { so_far : l.asked.terms.items ≡ l.fn.asked.terms.items ++ flat_map leaf_words (map leaf_tree (take l.leaf-index l.leaves)) }
