use Rattle.std.proofs.Common.{◌≡◌, List, ◌++◌, length}
use Rattle.bounded_keys.specs.Kept.{AreAmong, IsKept}
use Rattle.bounded_keys.proofs.contenders.Contenders.offer_all.Given as goal

abbrev pub invariant-loop-item : goal.invariant-loop-item
invariant-loop-item g l = record {
  most : l.self.most ≡ l.fn.self.most;
  scale : l.self.scale ≡ l.fn.self.scale;
  kept : (all : List g.row.T.Denot) → IsKept g.T.Ord.cmp g.T.Leading.number g.T.Leading.before all l.fn.self
      → (taken : List g.row.T.Denot) × (l.fn.items.items ≡ l.items.items ++ taken) × IsKept g.T.Ord.cmp g.T.Leading.number g.T.Leading.before (taken ++ all) l.self;
  among : (taken : List g.row.T.Denot) × (l.fn.items.items ≡ l.items.items ++ taken) × AreAmong (l.self.held ++ l.self.near) (taken ++ (l.fn.self.held ++ l.fn.self.near));
}

abbrev pub decreases-loop-item : goal.decreases-loop-item
decreases-loop-item g l = length l.items.items
