use Rattle.std.proofs.Common.{◌≡◌, take}
use Rattle.range_masks.specs.Most.{most_of_entries}
use Rattle.range_masks.proofs.most.most_of_entries.Given as goal

abbrev pub invariant-loop-entry : goal.invariant-loop-entry
invariant-loop-entry l = l.most ≡ most_of_entries (take l.entry-index l.entries)
