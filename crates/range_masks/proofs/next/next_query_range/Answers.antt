use Rattle.std.proofs.Common.{map}
use Rattle.ri_base.specs.Query.{filter_tree}
use Rattle.query_check.specs.Leaves.{leaf_tree}
use Rattle.range_masks.specs.May.{filters_may, some_may}
use Rattle.range_masks.proofs.NextLemmas.{IsPassed-and, IsPassed-left}
use Rattle.range_masks.proofs.next.next_query_range.Goals as goal

pub returns-in-Some-clause-passed : goal.returns-in-Some-clause-passed
returns-in-Some-clause-passed g c = λ sound.
    IsPassed-and _ (some_may (map leaf_tree c.args.leaves.now)) (filters_may (map filter_tree c.args.filters.now)) _ _ _
    (c.in-Some.ensures.passed sound) (c.next_of_filters.ensures.passed sound)

pub returns-in-None-clause-passed : goal.returns-in-None-clause-passed
returns-in-None-clause-passed g c = λ sound.
    IsPassed-left _ (some_may (map leaf_tree c.args.leaves.now)) (filters_may (map filter_tree c.args.filters.now)) _ (c.in-None.ensures.passed sound)
