use Rattle.std.proofs.Common.{sym}
use Rattle.extent_walks.specs.Walks.{plans}
use Rattle.extent_walks.proofs.ShapeLemmas.{shape-chain}
use Rattle.extent_walks.proofs.WalkLaws.{IsKept-Chain, plan-Chain}
use Rattle.extent_walks.proofs.walk.Walk.shape.Goals as goal

pub returns-in-Chain : goal.returns-in-Chain
returns-in-Chain c =
    let kept = rw (c.in-Chain.is, IsKept-Chain) at c.requires in
    rw (c.in-Chain.is, plan-Chain) (sym (shape-chain c.in-Chain.field-0 (plans c.in-Chain.field-1.items) kept.1))
