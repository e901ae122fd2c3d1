use Rattle.std.proofs.Common.{◌<◌, take}
use Rattle.std.specs.List.{All}
use Rattle.field_extents.proofs.ReachLemmas.{HasReached}
use Rattle.field_extents.proofs.restriction.inside.Given as goal

abbrev pub invariant-loop-extent : goal.invariant-loop-extent
invariant-loop-extent l = HasReached l.extent-items l.spans l.name l.extent-index l.begun l.reach l.kept × All (λ x. x.begin < x.end) (take l.extent-index l.extent-items)
