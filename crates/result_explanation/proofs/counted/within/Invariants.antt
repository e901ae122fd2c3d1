use Rattle.std.proofs.Common.{◌≡◌, take, filter}
use Rattle.field_extents.specs.Extents.{is_inside}
use Rattle.result_explanation.proofs.counted.within.Given as goal

abbrev pub invariant-loop-x : goal.invariant-loop-x
invariant-loop-x l = l.kept ≡ filter (is_inside l.window) (take l.x-index l.x-items)
