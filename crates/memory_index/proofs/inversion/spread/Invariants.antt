use Rattle.std.proofs.Common.{◌≡◌, length, take}
use Rattle.memory_index.specs.Inverts.{AreAllSpread}
use Rattle.memory_index.proofs.inversion.spread.Given as goal

abbrev pub invariant-loop-d : goal.invariant-loop-d
invariant-loop-d l = record { id_is : l.id ≡ l.d-index; spread : AreAllSpread l.postings.items (length l.initial.postings.items) l.ranks (take l.d-index l.docs) }
