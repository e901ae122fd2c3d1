use Rattle.std.proofs.Common.{◌≡◌, List, ◌++◌, length}
use Rattle.first_few.specs.First.{AreFirst}
use Rattle.first_few.proofs.few.FirstFew.offer_all.Given as goal

abbrev pub invariant-loop-item : goal.invariant-loop-item
invariant-loop-item g l = record {
  most : l.self.most ≡ l.fn.self.most;
  first : (all : List g.row.T.Denot) → AreFirst g.T.Ord.cmp l.fn.self.most all l.fn.self.held
      → (taken : List g.row.T.Denot) × (l.fn.items.items ≡ l.items.items ++ taken) × AreFirst g.T.Ord.cmp l.fn.self.most (taken ++ all) l.self.held;
}

abbrev pub decreases-loop-item : goal.decreases-loop-item
decreases-loop-item g l = length l.items.items
