use Rattle.std.proofs.Common.{◌≡◌, drop}
use Rattle.disk_index.specs.Rebuild.{put_places}
use Rattle.disk_index.proofs.rebuild.put_places.Given as goal

abbrev pub invariant-loop-place : goal.invariant-loop-place
invariant-loop-place l = put_places l.at l.rank (drop l.place-index l.places) l.slots ≡ put_places l.begin l.rank l.places l.initial.slots
