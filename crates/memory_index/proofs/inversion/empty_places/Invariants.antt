use Rattle.std.proofs.Common.{◌≡◌, [], replicate}
use Rattle.memory_index.proofs.inversion.empty_places.Given as goal

abbrev pub invariant-loop-c : goal.invariant-loop-c
invariant-loop-c l = l.out.items ≡ replicate l.c-index []
