use Rattle.std.proofs.Common.{◌≤◌, take}
use Rattle.std.specs.List.{AllZip}
use Rattle.store_ends.specs.Files.{IsQuiet}
use Rattle.repository.specs.Opening.{IsEntryOpened}
use Rattle.repository.proofs.segments.open_entries.Given as goal

abbrev pub invariant-loop-entry : goal.invariant-loop-entry
invariant-loop-entry g l = record {
  opened : AllZip (IsEntryOpened (g.T.Store.files l.fn.store)) (take l.entry-index l.entries) l.parts.items;
  quiet : IsQuiet g.T.Store.files g.T.Store.layers g.T.Store.clock g.T.Store.since g.T.Store.longest g.T.Store.held l.fn.store l.store;
  later : g.T.Store.faults l.fn.store ≤ g.T.Store.faults l.store;
}
