use Rattle.std.proofs.Common.{◌≡◌, ◌≤◌, take}
use Rattle.std.specs.List.{All}
use Rattle.store_ends.specs.Files.{GoesOn, Leaves, SameWhere}
use Rattle.repository.specs.Entries.{IsOnDisk}
use Rattle.repository.specs.Saved.{IsUnlisted, Saves}
use Rattle.repository.specs.Writes.{IsOther}
use Rattle.repository.proofs.saving.write_parts.Given as goal

abbrev pub invariant-loop-place : goal.invariant-loop-place
invariant-loop-place g l = record {
  saved : Saves (g.T.Store.files l.store) l.fn.numbers l.numbers l.fn.held l.held;
  first : All (λ m. IsOnDisk m.source) (take l.place l.held.parts.closed);
  same : SameWhere (IsOther (IsUnlisted l.fn.numbers.numbers)) (g.T.Store.files l.fn.store) (g.T.Store.files l.store);
  stops : Leaves (g.T.Store.since l.fn.store) (g.T.Store.since l.store) (SameWhere (IsOther (IsUnlisted l.fn.numbers.numbers)) (g.T.Store.files l.fn.store));
  goes_on : GoesOn g.T.Store.layers g.T.Store.clock g.T.Store.longest g.T.Store.held l.fn.store l.store;
  later : g.T.Store.faults l.fn.store ≤ g.T.Store.faults l.store;
  none : g.T.Store.faults l.store ≡ g.T.Store.faults l.fn.store;
}
