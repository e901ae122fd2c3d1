use Rattle.std.proofs.Common.{◌≡◌, Option, Some, sum_by, take}
use Rattle.store_ends.specs.Files.{Files}
use Rattle.disk_index.specs.Snapshots.{live}
use Rattle.counts.specs.Sums.{counted_tokens}
use Rattle.counts.proofs.lengths.covered_in_all.Given as goal

abbrev pub invariant-loop-marked : goal.invariant-loop-marked
invariant-loop-marked l = (told : Option Files) → l.count ≡ sum_by (counted_tokens (Some l.name)) (live told (take l.marked-index l.parts))
