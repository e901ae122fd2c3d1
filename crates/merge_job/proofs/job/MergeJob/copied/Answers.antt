use Rattle.std.proofs.Common.{None, ap, arith}
use Rattle.merge_job.specs.Merge.{size_of}
use Rattle.merge_job.proofs.JobLemmas.{job-lengths}
use Rattle.merge_job.proofs.job.MergeJob.copied.Goals as goal

pub returns-clause-most : goal.returns-clause-most
returns-clause-most c =
    let n = job-lengths _ _ _ _ c.self.invariant in
    let s = c.self.invariant.sized None in
    let v = ap size_of c.self.view_is in
    omega (arith, n, s, v, c.len.ensures)
