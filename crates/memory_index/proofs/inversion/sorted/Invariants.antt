use Rattle.std.proofs.Common.{◌≡◌, take}
use Rattle.memory_index.specs.Inverts.{numbered_from}
use Rattle.memory_index.proofs.inversion.sorted.Given as goal

abbrev pub invariant-loop-t : goal.invariant-loop-t
invariant-loop-t l = record { number_is : l.number ≡ l.t-index; so_far : l.out.items ≡ numbered_from 0 (take l.t-index l.terms) }
