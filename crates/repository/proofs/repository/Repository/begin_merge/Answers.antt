use Rattle.std.proofs.Common.{IfSome, subst, sym}
use Rattle.repository.specs.Merges.{IsOpenMerging}
use Rattle.repository.specs.States.{IsBacked, IsNumbered, IsStateIntact, ReadsAs, State}
use Rattle.repository.specs.Ties.{IsTied}
use Rattle.repository.proofs.BeginLemmas.{backed-begun, begun-is, numbered-begun, reads-begun, tied-begun}
use Rattle.repository.proofs.KeepLemmas.{merging-begun}
use Rattle.repository.proofs.StepLemmas.{backed-closed, closed-call, intact-closed, reads-closed}
use Rattle.repository.proofs.TieLemmas.{kept-closed}
use Rattle.repository.proofs.Views.{seen}
use Rattle.repository.proofs.repository.Repository.begin_merge.Goals as goal

pub invariant_of-self : goal.invariant_of-self
invariant_of-self c = kept-closed (seen c.self.view_is) c.snapshot.result c.snapshot.new.self c.snapshot.ensures.closed c.snapshot.ensures.left c.self.invariant

pub returns-in_err-snapshot-clause-backed : goal.returns-in_err-snapshot-clause-backed
returns-in_err-snapshot-clause-backed c = λ told backed.
    let view = seen c.self.view_is in
    let inside : IsBacked told view = subst (λ (x : State). IsBacked told x) (sym c.self.view_is) backed in
    closed-call (IsBacked told) view c.snapshot.result c.snapshot.new.self c.snapshot.ensures.closed c.snapshot.ensures.left inside (backed-closed told view inside)

pub invariant_of-self-in_err-job : goal.invariant_of-self-in_err-job
invariant_of-self-in_err-job c = kept-closed (seen c.self.view_is) c.snapshot.result c.snapshot.new.self c.snapshot.ensures.closed c.snapshot.ensures.left c.self.invariant

pub returns-in_err-job-clause-reads : goal.returns-in_err-job-clause-reads
returns-in_err-job-clause-reads c = λ told col reads.
    let view = seen c.self.view_is in
    let inside : ReadsAs told view col = subst (λ (x : State). ReadsAs told x col) (sym c.self.view_is) reads in
    closed-call (λ (x : State). ReadsAs told x col) view c.snapshot.result c.snapshot.new.self c.snapshot.ensures.closed c.snapshot.ensures.left inside (reads-closed told view col inside)

pub returns-in_err-job-clause-backed : goal.returns-in_err-job-clause-backed
returns-in_err-job-clause-backed c = λ told backed.
    let view = seen c.self.view_is in
    let inside : IsBacked told view = subst (λ (x : State). IsBacked told x) (sym c.self.view_is) backed in
    closed-call (IsBacked told) view c.snapshot.result c.snapshot.new.self c.snapshot.ensures.closed c.snapshot.ensures.left inside (backed-closed told view inside)

pub invariant_of-self-2 : goal.invariant_of-self-2
invariant_of-self-2 c =
    let view = seen c.self.view_is in
    let is = begun-is view c.limits.result c.in_ok-snapshot.ensures.closed c.in_ok-job.ensures c.in_ok-snapshot.ensures.parts c.limits.ensures in (
      λ usable. subst IsNumbered (sym is) (numbered-begun view (c.self.invariant.0 usable)),
      λ usable. subst (λ (x : State). IfSome x.merge (IsTied x.held)) (sym is) (tied-begun view),
    )

pub returns-clause-merging : goal.returns-clause-merging
returns-clause-merging c = λ told backed.
    let view = seen c.self.view_is in
    let is = begun-is view c.limits.result c.in_ok-snapshot.ensures.closed c.in_ok-job.ensures c.in_ok-snapshot.ensures.parts c.limits.ensures in
    subst (λ (x : State). IsOpenMerging told x) (sym is) (merging-begun told view (subst (λ (x : State). IsBacked told x) (sym c.self.view_is) backed))

pub returns-clause-reads : goal.returns-clause-reads
returns-clause-reads c = λ told col reads.
    let view = seen c.self.view_is in
    let is = begun-is view c.limits.result c.in_ok-snapshot.ensures.closed c.in_ok-job.ensures c.in_ok-snapshot.ensures.parts c.limits.ensures in
    subst (λ (x : State). ReadsAs told x col) (sym is) (reads-begun told view col (subst (λ (x : State). ReadsAs told x col) (sym c.self.view_is) reads))

pub returns-clause-backed : goal.returns-clause-backed
returns-clause-backed c = λ told backed.
    let view = seen c.self.view_is in
    let is = begun-is view c.limits.result c.in_ok-snapshot.ensures.closed c.in_ok-job.ensures c.in_ok-snapshot.ensures.parts c.limits.ensures in
    subst (λ (x : State). IsBacked told x) (sym is) (backed-begun told view (subst (λ (x : State). IsBacked told x) (sym c.self.view_is) backed))

-- ---- files that are read as they were put

pub returns-in_err-snapshot-clause-intact : goal.returns-in_err-snapshot-clause-intact
returns-in_err-snapshot-clause-intact c = λ told intact.
    let view = seen c.self.view_is in
    let inside : IsStateIntact told view = subst (λ (x : State). IsStateIntact told x) (sym c.self.view_is) intact in
    closed-call (IsStateIntact told) view c.snapshot.result c.snapshot.new.self c.snapshot.ensures.closed c.snapshot.ensures.left inside (intact-closed told view inside)

pub returns-in_err-job-clause-intact : goal.returns-in_err-job-clause-intact
returns-in_err-job-clause-intact c = λ told intact.
    let view = seen c.self.view_is in
    let inside : IsStateIntact told view = subst (λ (x : State). IsStateIntact told x) (sym c.self.view_is) intact in
    closed-call (IsStateIntact told) view c.snapshot.result c.snapshot.new.self c.snapshot.ensures.closed c.snapshot.ensures.left inside (intact-closed told view inside)

pub returns-clause-intact : goal.returns-clause-intact
returns-clause-intact c = λ told intact.
    let view = seen c.self.view_is in
    let is = begun-is view c.limits.result c.in_ok-snapshot.ensures.closed c.in_ok-job.ensures c.in_ok-snapshot.ensures.parts c.limits.ensures in
    subst (λ (x : State). IsStateIntact told x) (sym is) (intact-closed told view (subst (λ (x : State). IsStateIntact told x) (sym c.self.view_is) intact))
