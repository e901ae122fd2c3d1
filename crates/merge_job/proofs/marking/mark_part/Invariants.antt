use Rattle.std.proofs.Common.{◌≡◌, take}
use Rattle.merge_job.specs.Marking.{before}
use Rattle.merge_job.specs.Marks.{mapped}
use Rattle.merge_job.proofs.MarkLemmas.{IsTold}
use Rattle.merge_job.specs.NewParts.{docs_in, marks_in}
use Rattle.merge_job.proofs.marking.mark_part.Given as goal

abbrev pub invariant-loop-id : goal.invariant-loop-id
invariant-loop-id l = record {
  told : IsTold (marks_in l.fn.parts) (before (marks_in l.fn.parts) l.fn.place.part l.fn.place.id) (mapped (take l.id l.old) (take l.id l.now)) (marks_in l.parts) l.place.part l.place.id;
  docs : docs_in l.parts ≡ docs_in l.fn.parts;
}
