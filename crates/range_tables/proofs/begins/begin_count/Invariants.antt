use Rattle.std.proofs.Common.{take}
use Rattle.range_tables.specs.Begins.{IsCounted}
use Rattle.range_bounds.specs.Ranges.{field_begins}
use Rattle.range_tables.proofs.begins.begin_count.Given as goal

abbrev pub invariant-loop-span : goal.invariant-loop-span
invariant-loop-span l = IsCounted (field_begins l.name (take l.span-index l.spans)) l.begun
