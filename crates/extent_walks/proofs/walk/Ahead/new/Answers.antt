use Rattle.extent_walks.specs.Walks.{plan}
use Rattle.extent_walks.proofs.ShapeLemmas.{HasShape-plan}
use Rattle.extent_walks.proofs.walk.Ahead.new.Goals as goal

pub returns-clause-shape : goal.returns-clause-shape
returns-clause-shape c = rw c.shape-shape.ensures (HasShape-plan (plan c.args.walk))
