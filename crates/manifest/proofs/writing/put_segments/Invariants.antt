use Rattle.std.proofs.Common.{◌≡◌, ◌++◌, drop, length}
use Rattle.std.specs.Int.{w32, to_le_bytes}
use Rattle.std.specs.List.{flat_map}
use Rattle.manifest.specs.Spelling.{spelled_segment}
use Rattle.manifest.proofs.writing.put_segments.Given as goal

abbrev pub invariant-loop-entry : goal.invariant-loop-entry
invariant-loop-entry l = l.out.items ++ flat_map spelled_segment (drop l.entry-index l.entries) ≡ (l.fn.out.items ++ (to_le_bytes w32 (length l.entries))) ++ flat_map spelled_segment l.entries
