use Rattle.script_reader.specs.State.{IsReady, work_left}
use Rattle.script_counts.proofs.counts.count_items.Given as goal

abbrev pub invariant-items : goal.invariant-items
invariant-items g l = IsReady l.reader (g.S.Source.left l.source) (g.S.Source.can_give l.source)

abbrev pub decreases-items : goal.decreases-items
decreases-items g l = work_left l.reader (g.S.Source.can_give l.source)
