use Rattle.std.proofs.Common.{◌<◌, take}
use Rattle.std.specs.List.{All}
use Rattle.field_extents.proofs.begins.have_tokens.Given as goal

abbrev pub invariant-loop-x : goal.invariant-loop-x
invariant-loop-x l = All (λ x. x.begin < x.end) (take l.x-index l.xs)
