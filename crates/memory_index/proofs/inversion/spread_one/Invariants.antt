use Rattle.std.proofs.Common.{◌≡◌, take}
use Rattle.memory_index.specs.Inverts.{AreSpread, ranks_at}
use Rattle.memory_index.proofs.inversion.spread_one.Given as goal

abbrev pub invariant-loop-n : goal.invariant-loop-n
invariant-loop-n l = record { at_is : l.at ≡ l.n-index; spread : AreSpread l.initial.postings.items l.postings.items l.id (ranks_at l.ranks (take l.n-index l.tokens)) }
