use Rattle.std.proofs.Common.{◌≡◌, ◌+◌, take}
use Rattle.std.specs.Prelude.{sum_by}
use Rattle.repository.specs.Places.{bytes_of}
use Rattle.repository.proofs.docno_place.bytes_before.Given as goal

abbrev pub invariant-loop-entry : goal.invariant-loop-entry
invariant-loop-entry l = l.before + sum_by bytes_of (take l.entry-index l.entries) ≡ l.bytes
