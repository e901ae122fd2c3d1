use Rattle.std.proofs.Common.{◌≡◌, ◌*◌, drop, take}
use Rattle.disk_index.proofs.part.documents_in_memory.Given as goal

abbrev pub invariant-loop-i : goal.invariant-loop-i
invariant-loop-i l = l.docs ≡ take l.i (drop (64 * l.range) l.sealed)
