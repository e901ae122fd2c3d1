use Rattle.std.proofs.Common.{◌≡◌, ◌++◌, drop, length}
use Rattle.std.specs.Int.{w32, to_le_bytes}
use Rattle.std.specs.List.{flat_map}
use Rattle.manifest.proofs.writing.put_marks.Given as goal

abbrev pub invariant-loop-mark : goal.invariant-loop-mark
invariant-loop-mark l = l.out.items ++ flat_map (to_le_bytes w32) (drop l.mark-index l.marks) ≡ (l.fn.out.items ++ (to_le_bytes w32 (length l.marks))) ++ flat_map (to_le_bytes w32) l.marks
