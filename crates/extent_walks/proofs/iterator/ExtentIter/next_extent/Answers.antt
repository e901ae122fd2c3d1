use Rattle.extent_walks.specs.Walks.{plan}
use Rattle.extent_walks.proofs.LeftLemmas.{first-none, first-some, others-none, others-some}
use Rattle.extent_walks.proofs.iterator.ExtentIter.next_extent.Goals as goal

pub returns-in-None-clause-first : goal.returns-in-None-clause-first
returns-in-None-clause-first c =
    rw (← c.self.view_is)
    (first-none (plan c.self.inside.ahead.walk) (plan c.next.new.self.walk) c.next.ensures.same c.self.inside.from.begin c.self.inside.from.end c.in-None.ensures.next)

pub returns-in-None-clause-others : goal.returns-in-None-clause-others
returns-in-None-clause-others c =
    rw (← c.self.view_is)
    (others-none (plan c.self.inside.ahead.walk) (plan c.next.new.self.walk) c.next.ensures.same c.self.inside.from.begin c.self.inside.from.end c.in-None.ensures.next)

pub returns-in-Some-clause-first : goal.returns-in-Some-clause-first
returns-in-Some-clause-first c =
    rw (← c.self.view_is)
    (first-some (plan c.self.inside.ahead.walk) (plan c.next.new.self.walk) c.next.ensures.same c.self.inside.from.begin c.self.inside.from.end c.in-Some.x c.in-Some.ensures.next)

pub returns-in-Some-clause-others : goal.returns-in-Some-clause-others
returns-in-Some-clause-others c =
    rw (← c.self.view_is, c.behind-self-inside.ensures)
    (others-some (plan c.self.inside.ahead.walk) (plan c.next.new.self.walk) c.next.ensures.same c.self.inside.from.begin c.self.inside.from.end c.in-Some.x c.in-Some.ensures.next)
