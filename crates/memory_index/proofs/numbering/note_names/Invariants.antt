use Rattle.std.proofs.Common.{take}
use Rattle.memory_index.specs.Numbering.{AreNoted}
use Rattle.memory_index.proofs.numbering.note_names.Given as goal

abbrev pub invariant-loop-name : goal.invariant-loop-name
invariant-loop-name l = AreNoted l.initial.names.keys l.names.keys (take l.name-index l.more)
