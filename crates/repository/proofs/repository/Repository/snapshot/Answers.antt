use Rattle.std.proofs.Common.{subst, sym}
use Rattle.repository.specs.Merges.{IsOpenMerging}
use Rattle.repository.specs.States.{IsBacked, IsStateIntact, ReadsAs, State}
use Rattle.repository.proofs.KeepLemmas.{merging-closed}
use Rattle.repository.proofs.StepLemmas.{backed-closed, closed-call, intact-closed, reads-closed}
use Rattle.repository.proofs.TieLemmas.{kept-closed}
use Rattle.repository.proofs.Views.{seen}
use Rattle.repository.proofs.repository.Repository.snapshot.Goals as goal

pub invariant_of-self : goal.invariant_of-self
invariant_of-self c = kept-closed (seen c.self.view_is) c.snapshot.result c.snapshot.new.self c.snapshot.ensures.closed c.snapshot.ensures.left c.self.invariant

pub returns-clause-reads : goal.returns-clause-reads
returns-clause-reads c = λ told col reads.
    let view = seen c.self.view_is in
    let inside : ReadsAs told view col = subst (λ (x : State). ReadsAs told x col) (sym c.self.view_is) reads in
    closed-call (λ (x : State). ReadsAs told x col) view c.snapshot.result c.snapshot.new.self c.snapshot.ensures.closed c.snapshot.ensures.left inside (reads-closed told view col inside)

pub returns-clause-backed : goal.returns-clause-backed
returns-clause-backed c = λ told backed.
    let view = seen c.self.view_is in
    let inside : IsBacked told view = subst (λ (x : State). IsBacked told x) (sym c.self.view_is) backed in
    closed-call (IsBacked told) view c.snapshot.result c.snapshot.new.self c.snapshot.ensures.closed c.snapshot.ensures.left inside (backed-closed told view inside)

pub returns-clause-merging : goal.returns-clause-merging
returns-clause-merging c = λ told open_now.
    let view = seen c.self.view_is in
    let inside : IsOpenMerging told view = subst (λ (x : State). IsOpenMerging told x) (sym c.self.view_is) open_now in
    closed-call (IsOpenMerging told) view c.snapshot.result c.snapshot.new.self c.snapshot.ensures.closed c.snapshot.ensures.left inside (merging-closed told view inside)

pub returns-clause-intact : goal.returns-clause-intact
returns-clause-intact c = λ told intact.
    let view = seen c.self.view_is in
    let inside : IsStateIntact told view = subst (λ (x : State). IsStateIntact told x) (sym c.self.view_is) intact in
    closed-call (IsStateIntact told) view c.snapshot.result c.snapshot.new.self c.snapshot.ensures.closed c.snapshot.ensures.left inside (intact-closed told view inside)
