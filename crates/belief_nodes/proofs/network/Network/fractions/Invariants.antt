use Rattle.std.proofs.Common.{◌≡◌, ◌++◌, map, drop}
use Rattle.ri_base.specs.Ratio.{ratio_of}
use Rattle.query_check.specs.Leaves.{leaf_tree}
use Rattle.belief_nodes.specs.Fractions.{leaf_fractions}
use Rattle.belief_nodes.proofs.network.Network.fractions.Given as goal

abbrev pub invariant-loop-i : goal.invariant-loop-i
invariant-loop-i g l =
    let priors = map (λ b. (goal.BeliefNode-dyn g (b.vtable, b.value)).meaning b.value) l.initial.plugs in
    let leaves = map leaf_tree l.self.leaves.items in
    record {
      stay : map (λ b. (goal.BeliefNode-dyn g (b.vtable, b.value)).meaning b.value) l.plugs ≡ priors;
      so_far : map ratio_of l.fractions.items ++ leaf_fractions l.rule.kind priors l.docno l.len (drop l.i leaves) (drop l.i l.counts) (drop l.i l.self.stats.items)
          ≡ leaf_fractions l.rule.kind priors l.docno l.len leaves l.counts l.self.stats.items;
    }
