use Rattle.std.proofs.Common.{◌≡◌, take}
use Rattle.repository.specs.Merges.{all_stale}
use Rattle.repository.specs.States.{part_numbers}
use Rattle.repository.proofs.exchange.note_parts.Given as goal

abbrev pub invariant-loop-part : goal.invariant-loop-part
invariant-loop-part l = l.stale.items ≡ all_stale l.fn.stale.items (part_numbers (take l.part-index l.parts))
