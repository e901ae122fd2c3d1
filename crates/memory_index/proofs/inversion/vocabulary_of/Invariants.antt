use Rattle.std.proofs.Common.{◌≡◌}
use Rattle.memory_index.specs.Inverts.{terms_of}
use Rattle.memory_index.proofs.inversion.vocabulary_of.Given as goal

abbrev pub invariant-loop-s : goal.invariant-loop-s
invariant-loop-s l = l.items.items ≡ terms_of l.yielded
