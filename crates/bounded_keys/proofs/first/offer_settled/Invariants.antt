use Rattle.std.proofs.Common.{◌≡◌, ◌+◌, ◌-◌, ◌*◌, ◌++◌, List, length, map}
use Rattle.first_few.specs.First.{AreFirst}
use Rattle.log_chain.specs.declared.chain.TheConstants.{FIRST, LAST}
use Rattle.bounded_keys.specs.Entries.{by_key, settled}
use Rattle.bounded_keys.specs.declared.entry.Entry.{Entry}
use Rattle.bounded_keys.specs.declared.entry.Settled.{Settled}
use Rattle.bounded_keys.proofs.first.offer_settled.Given as goal

abbrev pub invariant-loop-entry : goal.invariant-loop-entry
invariant-loop-entry g l = record {
  most : l.first.most ≡ l.fn.first.most;
  taken : (taken : List (Entry g.row.W.Denot)) × (l.fn.entries.items ≡ l.entries.items ++ taken)
      × (l.squares ≡ l.fn.squares + (LAST - FIRST) * g.C.Combination.leaves l.combination * length taken)
      × ((all : List (Settled g.row.W.Denot)) → AreFirst (by_key g.W.Ord.cmp) l.fn.first.most all l.fn.first.held
      → AreFirst (by_key g.W.Ord.cmp) l.fn.first.most (map (settled (g.C.Combination.key_of l.combination)) taken ++ all) l.first.held);
}

abbrev pub decreases-loop-entry : goal.decreases-loop-entry
decreases-loop-entry g l = length l.entries.items
