use Rattle.std.proofs.Common.{◌≡◌, ◌++◌, map, take}
use Rattle.std.specs.List.{flat_map}
use Rattle.ri_base.specs.Query.{filter_tree}
use Rattle.ranker.specs.Blocks.{filter_words}
use Rattle.ranker.proofs.terms.ask_filters.Given as goal

abbrev pub invariant-loop-filter : goal.invariant-loop-filter
invariant-loop-filter l = record { so_far : l.asked.terms.items ≡ l.fn.asked.terms.items ++ flat_map filter_words (map filter_tree (take l.filter-index l.filters)) }
