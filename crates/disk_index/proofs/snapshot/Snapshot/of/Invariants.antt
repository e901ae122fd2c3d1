use Rattle.std.proofs.Common.{◌≡◌, take}
use Rattle.disk_index.proofs.snapshot.Snapshot.of.Given as goal

abbrev pub invariant-loop-part : goal.invariant-loop-part
invariant-loop-part l = l.shared.items ≡ take l.part-index l.parts
