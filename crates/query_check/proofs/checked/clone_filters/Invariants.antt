use Rattle.std.proofs.Common.{◌≡◌, take, map}
use Rattle.ri_base.specs.Query.{filter_tree}
use Rattle.query_check.proofs.checked.clone_filters.Given as goal

abbrev pub invariant-loop-filter : goal.invariant-loop-filter
invariant-loop-filter l = map filter_tree l.clones.items ≡ map filter_tree (take l.filter-index l.all)
