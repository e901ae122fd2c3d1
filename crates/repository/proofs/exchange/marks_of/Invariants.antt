use Rattle.std.proofs.Common.{◌≡◌, take}
use Rattle.repository.specs.Merges.{marks_of}
use Rattle.repository.proofs.exchange.marks_of.Given as goal

abbrev pub invariant-loop-part : goal.invariant-loop-part
invariant-loop-part l = l.marks.items ≡ marks_of (take l.part-index l.parts)
