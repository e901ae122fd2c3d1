use Rattle.std.proofs.Common.{◌≡◌, ◌≤◌, true, take}
use Rattle.store_ends.specs.Files.{GoesOn, Leaves, SameWhere}
use Rattle.repository.specs.Numbers.{is_among}
use Rattle.repository.specs.Writes.{AreGone, IsOther}
use Rattle.repository.proofs.removal.remove_files.Given as goal

abbrev pub invariant-loop-number : goal.invariant-loop-number
invariant-loop-number g l = record {
  gone : AreGone (take l.number-index l.numbers) (g.T.Store.files l.store);
  same : SameWhere (IsOther (λ n. is_among n l.numbers ≡ true)) (g.T.Store.files l.fn.store) (g.T.Store.files l.store);
  stops : Leaves (g.T.Store.since l.fn.store) (g.T.Store.since l.store) (SameWhere (IsOther (λ n. is_among n l.numbers ≡ true)) (g.T.Store.files l.fn.store));
  goes_on : GoesOn g.T.Store.layers g.T.Store.clock g.T.Store.longest g.T.Store.held l.fn.store l.store;
  later : g.T.Store.faults l.fn.store ≤ g.T.Store.faults l.store;
  none : g.T.Store.faults l.store ≡ g.T.Store.faults l.fn.store;
}
