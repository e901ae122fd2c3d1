use Rattle.std.proofs.Common.{◌≡◌, map, drop}
use Rattle.ri_base.specs.Expression.{expr_tree, expr_trees}
use Rattle.extent_lists.specs.Presence.{may_each_with, may_some_with}
use Rattle.disk_index.specs.Parts.{source_of}
use Rattle.disk_index.specs.Presence.{may_have}
use Rattle.counts.proofs.presence.+presence.Given as goal

abbrev pub invariant-each_may-loop-x : goal.invariant-each_may-loop-x
invariant-each_may-loop-x l =
    may_each_with (may_have (source_of l.part) l.range) (expr_trees (map expr_tree (drop l.x-index l.all))) ≡ may_each_with (may_have (source_of l.part) l.range) (expr_trees (map expr_tree l.all))

abbrev pub invariant-some_may-loop-x : goal.invariant-some_may-loop-x
invariant-some_may-loop-x l =
    may_some_with (may_have (source_of l.part) l.range) (expr_trees (map expr_tree (drop l.x-index l.all))) ≡ may_some_with (may_have (source_of l.part) l.range) (expr_trees (map expr_tree l.all))
