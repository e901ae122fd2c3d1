use Rattle.std.proofs.Common.{◌≡◌, None, length, take}
use Rattle.disk_index.specs.Snapshots.{live}
use Rattle.merge_job.specs.Marks.{all_mapped}
use Rattle.merge_job.proofs.MarkLemmas.{IsTold}
use Rattle.merge_job.specs.NewParts.{docs_in, marks_in}
use Rattle.merge_job.proofs.marking.mark_all.Given as goal

abbrev pub invariant-loop-number : goal.invariant-loop-number
invariant-loop-number l = record {
  told : IsTold (marks_in l.fn.parts) 0 (all_mapped (take l.number l.old) (take l.number l.now)) (marks_in l.parts) l.place.part l.place.id;
  counted : length (all_mapped (take l.number l.old) (take l.number l.now)) ≡ length (live None (take l.number l.old));
  docs : docs_in l.parts ≡ docs_in l.fn.parts;
}
