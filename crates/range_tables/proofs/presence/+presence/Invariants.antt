use Rattle.std.proofs.Common.{◌≡◌, map, take}
use Rattle.ri_base.specs.Expression.{expr_tree, expr_trees}
use Rattle.range_bounds.specs.Most.{total_most}
use Rattle.range_bounds.specs.Ranges.{most_begins, most_places, range_documents}
use Rattle.range_tables.proofs.presence.+presence.Given as goal

abbrev pub invariant-some_may-loop-x : goal.invariant-some_may-loop-x
invariant-some_may-loop-x g l = g.P.Postings.sound l.part
    → total_most (most_places (range_documents (g.P.Postings.documents l.part) l.range)) (most_begins (range_documents (g.P.Postings.documents l.part) l.range)) (expr_trees (map expr_tree (take l.x-index l.all))) ≡ 0
