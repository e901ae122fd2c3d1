use Rattle.std.proofs.Common.{◌≡◌, ◌++◌, drop}
use Rattle.document_handlers.specs.Scan.{extent_lines}
use Rattle.document_handlers.proofs.scan.extent_lines.Given as goal

-- the lines so far, and those of the extents that are left
abbrev pub invariant-loop-x : goal.invariant-loop-x
invariant-loop-x l = l.lines.items ++ extent_lines l.docno (drop l.x-index l.x-items) ≡ extent_lines l.docno l.x-items
