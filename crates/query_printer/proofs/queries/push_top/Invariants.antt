use Rattle.std.proofs.Common.{◌≡◌, ◌++◌, drop, map}
use Rattle.ri_base.specs.Query.{belief_tree}
use Rattle.query_printer.specs.Printed.{more_top_text}
use Rattle.query_printer.proofs.queries.push_top.Given as goal

abbrev pub invariant-loop-x : goal.invariant-loop-x
invariant-loop-x l = l.out.items ++ more_top_text (map belief_tree (drop l.x-index l.rest)) ≡ l.initial.out.items ++ more_top_text (map belief_tree l.rest)
