use Rattle.std.proofs.Common.{map, take}
use Rattle.query_check.specs.Leaves.{leaf_tree}
use Rattle.range_bounds.specs.Ranges.{range_documents}
use Rattle.range_tables.specs.Needs.{IsIdle}
use Rattle.range_tables.proofs.needs.is_needed.Given as goal

abbrev pub invariant-loop-leaf : goal.invariant-loop-leaf
invariant-loop-leaf g l = g.P.Postings.sound l.part → IsIdle (map leaf_tree (take l.leaf-index l.leaves)) (range_documents (g.P.Postings.documents l.part) l.range) l.term
