use Rattle.std.proofs.Common.{◌≡◌, ◌++◌, drop}
use Rattle.std.specs.List.{flat_map}
use Rattle.desk.specs.Lines.{told_line}
use Rattle.desk.proofs.lines.extents_text.Given as goal

-- the lines so far, and those of the extents that are left
abbrev pub invariant-loop-line : goal.invariant-loop-line
invariant-loop-line l = l.text.items ++ flat_map told_line (drop l.line-index l.line-items) ≡ flat_map told_line l.line-items
