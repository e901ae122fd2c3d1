use Rattle.std.proofs.Common.{◌≡◌, take}
use Rattle.repository.specs.Stands.{marks_from}
use Rattle.repository.proofs.segments.marks_of.Given as goal

abbrev pub invariant-loop-id : goal.invariant-loop-id
invariant-loop-id l = l.marks ≡ marks_from 0 l.count (take l.id-index l.ids)
