use Rattle.std.proofs.Common.{◌≡◌, ◌++◌, drop, length}
use Rattle.std.specs.Int.{w64, to_le_bytes}
use Rattle.std.specs.List.{flat_map}
use Rattle.manifest.proofs.writing.put_stale.Given as goal

abbrev pub invariant-loop-number : goal.invariant-loop-number
invariant-loop-number l = l.out.items ++ flat_map (to_le_bytes w64) (drop l.number-index l.stale) ≡ (l.fn.out.items ++ (to_le_bytes w64 (length l.stale))) ++ flat_map (to_le_bytes w64) l.stale
