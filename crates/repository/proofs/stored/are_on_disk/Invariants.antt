use Rattle.std.proofs.Common.{take}
use Rattle.std.specs.List.{All}
use Rattle.repository.specs.Entries.{IsOnDisk}
use Rattle.repository.proofs.stored.are_on_disk.Given as goal

abbrev pub invariant-loop-part : goal.invariant-loop-part
invariant-loop-part l = All (λ m. IsOnDisk m.source) (take l.part-index l.parts)
