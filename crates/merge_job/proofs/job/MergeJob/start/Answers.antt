use Rattle.std.proofs.Common.{◌∙◌, ◌++◌, ap, map}
use Rattle.seg_codec.specs.Segment.{entry_of}
use Rattle.merge_job.specs.Cut.{Copies}
use Rattle.merge_job.specs.Walk.{entries, rest}
use Rattle.merge_job.proofs.WalkLemmas.{rest-all}
use Rattle.merge_job.proofs.job.MergeJob.start.Goals as goal

pub invariant_of-result : goal.invariant_of-result
invariant_of-result c = record {
  sized = λ told. c.from-size.ensures ∙ c.live_count.ensures told;
  reached = ap (λ (v : Copies). map entry_of v.docs ++ rest entries c.args.snapshot 0 0) c.in_ok-new.ensures ∙ rest-all entries c.args.snapshot;
}
