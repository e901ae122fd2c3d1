use Rattle.std.proofs.Common.{◌≡◌, take}
use Rattle.manifest.specs.Entries.{with_numbers}
use Rattle.repository.specs.States.{part_numbers}
use Rattle.repository.proofs.numbers.put_parts.Given as goal

abbrev pub invariant-loop-part : goal.invariant-loop-part
invariant-loop-part l = l.taken.keys ≡ with_numbers l.fn.taken.keys (part_numbers (take l.part-index l.parts))
