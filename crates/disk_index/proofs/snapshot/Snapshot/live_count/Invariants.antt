use Rattle.std.proofs.Common.{◌≡◌, Option, length, sum_by, take}
use Rattle.store_ends.specs.Files.{Files}
use Rattle.disk_index.specs.Snapshots.{live_in}
use Rattle.disk_index.proofs.snapshot.Snapshot.live_count.Given as goal

abbrev pub invariant-loop-part : goal.invariant-loop-part
invariant-loop-part l = (told : Option Files) → l.count ≡ sum_by (λ m. length (live_in told m)) (take l.part-index l.part-items)
