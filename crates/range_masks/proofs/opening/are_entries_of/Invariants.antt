use Rattle.std.proofs.Common.{take}
use Rattle.std.specs.List.{All}
use Rattle.range_masks.specs.Held.{IsEntryOf}
use Rattle.range_masks.proofs.opening.are_entries_of.Given as goal

abbrev pub invariant-loop-entry : goal.invariant-loop-entry
invariant-loop-entry l = All (IsEntryOf l.index.outlines) (take l.entry-index l.entries)
