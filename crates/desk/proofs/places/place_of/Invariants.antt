use Rattle.std.proofs.Common.{◌≡◌, Option, drop}
use Rattle.store_ends.specs.Files.{Files}
use Rattle.disk_index.specs.Snapshots.{live}
use Rattle.desk.specs.Answer.{document_with}
use Rattle.desk.proofs.places.place_of.Given as goal

-- the document is in one of the parts that weren't gone over
abbrev pub invariant-loop-number : goal.invariant-loop-number
invariant-loop-number l = (told : Option Files) → document_with l.docno (live told l.parts) ≡ document_with l.docno (live told (drop l.number l.parts))
