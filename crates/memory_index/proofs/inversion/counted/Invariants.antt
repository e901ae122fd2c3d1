use Rattle.std.proofs.Common.{◌≡◌, length}
use Rattle.memory_index.proofs.inversion.counted.Given as goal

abbrev pub invariant-loop-d : goal.invariant-loop-d
invariant-loop-d l = length l.counts.items ≡ length l.ranks
