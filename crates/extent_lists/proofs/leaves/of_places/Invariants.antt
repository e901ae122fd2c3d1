use Rattle.std.proofs.Common.{◌≡◌, map, take}
use Rattle.extent_lists.specs.Rows.{extent_at}
use Rattle.extent_lists.proofs.leaves.of_places.Given as goal

abbrev pub invariant-loop-p : goal.invariant-loop-p
invariant-loop-p l = l.out.items ≡ map extent_at (take l.p-index l.places)
