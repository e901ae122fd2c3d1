use Rattle.std.proofs.Common.{◌≡◌, ◌++◌, take}
use Rattle.desk.specs.Scanning.{lines_of}
use Rattle.desk.proofs.scanning.put_lines.Given as goal

-- the lines of the extents that were gone over
abbrev pub invariant-loop-extent : goal.invariant-loop-extent
invariant-loop-extent l = l.lines ≡ l.initial.lines ++ lines_of l.docno (take l.extent-index l.found)
