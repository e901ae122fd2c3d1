use Rattle.std.proofs.Common.{◌≡◌, Option, drop}
use Rattle.store_ends.specs.Files.{Files}
use Rattle.disk_index.specs.Parts.{reads}
use Rattle.disk_index.specs.Snapshots.{live_in, unmarked}
use Rattle.desk.specs.Answer.{document_with}
use Rattle.desk.proofs.places.id_in.Given as goal

-- the document is among those that weren't gone over
abbrev pub invariant-loop-id : goal.invariant-loop-id
invariant-loop-id l = (told : Option Files) → document_with l.docno (live_in told l.marked) ≡ document_with l.docno (unmarked (drop l.id (reads told l.marked.source)) (drop l.id l.marked.marks))
