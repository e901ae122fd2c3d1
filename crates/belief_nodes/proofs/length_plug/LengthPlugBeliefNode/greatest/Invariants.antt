use Rattle.std.proofs.Common.{◌≡◌, ◌∷◌, map, take}
use Rattle.ri_base.specs.Ratio.{ratio_of}
use Rattle.belief_nodes.specs.Products.{greatest_of}
use Rattle.belief_nodes.proofs.length_plug.LengthPlugBeliefNode.greatest.Given as goal

abbrev pub invariant-loop-f : goal.invariant-loop-f
invariant-loop-f l =
    ratio_of l.greatest ≡ greatest_of (ratio_of l.self.rest ∷ map (λ step. ratio_of step.1) (take l.f-index l.self.steps.items))
