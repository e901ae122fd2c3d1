use Rattle.std.proofs.Common.{◌≡◌, take}
use Rattle.repository.specs.Entries.{entries_for}
use Rattle.repository.proofs.listing.entries_for.Given as goal

abbrev pub invariant-loop-part : goal.invariant-loop-part
invariant-loop-part l = l.entries.items ≡ entries_for (take l.part-index l.parts)
