use Rattle.std.proofs.Common.{◌≡◌, drop}
use Rattle.store_ends.specs.Past.{first_files}
use Rattle.store_ends.proofs.change.first_of.Given as goal

abbrev pub invariant-loop-other : goal.invariant-loop-other
invariant-loop-other l = first_files (drop l.other-index l.first) l.name ≡ first_files l.first l.name
