use Rattle.std.proofs.Common.{◌≡◌, take}
use Rattle.repository.specs.Entries.{marked_from}
use Rattle.repository.proofs.listing.marked.Given as goal

abbrev pub invariant-loop-id : goal.invariant-loop-id
invariant-loop-id l = l.ids ≡ marked_from 0 (take l.id l.marks)
