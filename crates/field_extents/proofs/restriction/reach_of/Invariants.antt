use Rattle.std.proofs.Common.{◌≡◌, take}
use Rattle.field_extents.specs.Fields.{greatest_end}
use Rattle.field_extents.proofs.restriction.reach_of.Given as goal

abbrev pub invariant-loop-span : goal.invariant-loop-span
invariant-loop-span l = l.greatest ≡ greatest_end l.name l.fn.reach (take l.span-index l.spans)
