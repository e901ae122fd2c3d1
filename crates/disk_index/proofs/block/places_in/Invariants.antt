use Rattle.std.proofs.Common.{◌≡◌, drop}
use Rattle.disk_index.specs.Blocks.{places_of}
use Rattle.disk_index.proofs.block.places_in.Given as goal

abbrev pub invariant-loop-entry : goal.invariant-loop-entry
invariant-loop-entry l = places_of l.id (drop l.entry-index l.entries) ≡ places_of l.id l.entries
