use Rattle.std.proofs.Common.{take}
use Rattle.std.specs.List.{All}
use Rattle.query_check.specs.Leaves.{leaf_tree}
use Rattle.query_check.specs.declared.leaf_kind.LeafKind.{LeafKind}
use Rattle.belief_nodes.specs.Leaves.{HasPrior}
use Rattle.without_priors.proofs.have_no_prior.Given as goal

abbrev pub invariant-loop-leaf : goal.invariant-loop-leaf
invariant-loop-leaf l = All (λ (x : LeafKind). HasPrior 0 (leaf_tree x)) (take l.leaf-index l.leaves)
