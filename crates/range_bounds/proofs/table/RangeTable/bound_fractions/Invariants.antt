use Rattle.std.proofs.Common.{map, take}
use Rattle.ri_base.specs.Ratio.{ratio_of}
use Rattle.query_check.specs.Leaves.{leaf_tree}
use Rattle.range_bounds.proofs.Told.{AreToldBounds}
use Rattle.range_bounds.proofs.table.RangeTable.bound_fractions.Given as goal

abbrev pub invariant-loop-i : goal.invariant-loop-i
invariant-loop-i g l =
    let priors = map (λ b. (goal.BeliefNode-dyn g (b.vtable, b.value)).meaning b.value) l.plugs in
    AreToldBounds l.rule.kind priors l.network.range l.self l.counts (take l.i (map leaf_tree l.network.leaves.items)) (take l.i l.network.stats.items) (map ratio_of l.bounds.items)
