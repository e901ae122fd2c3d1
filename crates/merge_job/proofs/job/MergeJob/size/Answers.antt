use Rattle.std.proofs.Common.{◌∙◌, None, ap, length}
use Rattle.disk_index.specs.Snapshots.{live}
use Rattle.merge_job.specs.Merge.{Merging, size_of}
use Rattle.merge_job.proofs.job.MergeJob.size.Goals as goal

pub returns-clause-size : goal.returns-clause-size
returns-clause-size c = c.self.invariant.sized None ∙ ap size_of c.self.view_is

pub returns-clause-live : goal.returns-clause-live
returns-clause-live c = λ told. c.self.invariant.sized told ∙ ap (λ (j : Merging). length (live told j.snapshot)) c.self.view_is
