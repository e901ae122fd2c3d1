use Rattle.std.proofs.Common.{IfSome, subst, sym}
use Rattle.holdings.specs.Contents.{deleted}
use Rattle.repository.specs.Merges.{IsOpenMerging}
use Rattle.repository.specs.States.{IsBacked, IsNumbered, IsStateIntact, State}
use Rattle.repository.specs.Ties.{IsTied}
use Rattle.repository.proofs.KeepLemmas.{merging-deleted}
use Rattle.repository.proofs.StepLemmas.{backed-deleted, held-call, intact-deleted, numbered-deleted}
use Rattle.repository.proofs.TieLemmas.{IfSome-map, tied-deleted}
use Rattle.repository.proofs.Views.{seen}
use Rattle.repository.proofs.repository.Repository.delete.Goals as goal

pub invariant_of-self : goal.invariant_of-self
invariant_of-self c =
    let view = seen c.self.view_is in (
      λ usable. held-call IsNumbered view c.delete.result c.delete.new.self (deleted view.held c.args.docno.now) c.delete.ensures.deleted c.delete.ensures.kept (numbered-deleted view c.args.docno.now) (c.self.invariant.0 usable),
      λ usable. held-call (λ (x : State). IfSome x.merge (IsTied x.held)) view c.delete.result c.delete.new.self (deleted view.held c.args.docno.now) c.delete.ensures.deleted c.delete.ensures.kept (IfSome-map view.merge (IsTied view.held) (IsTied (deleted view.held c.args.docno.now)) (tied-deleted view.held c.args.docno.now)) (c.self.invariant.1 usable),
    )

pub returns-clause-backed : goal.returns-clause-backed
returns-clause-backed c = λ told backed.
    let view = seen c.self.view_is in
    held-call (IsBacked told) view c.delete.result c.delete.new.self (deleted view.held c.args.docno.now) c.delete.ensures.deleted c.delete.ensures.kept (backed-deleted told view c.args.docno.now) (subst (λ (x : State). IsBacked told x) (sym c.self.view_is) backed)

pub returns-clause-merging : goal.returns-clause-merging
returns-clause-merging c = λ told open_now.
    let view = seen c.self.view_is in
    held-call (IsOpenMerging told) view c.delete.result c.delete.new.self (deleted view.held c.args.docno.now) c.delete.ensures.deleted c.delete.ensures.kept (merging-deleted told view c.args.docno.now) (subst (λ (x : State). IsOpenMerging told x) (sym c.self.view_is) open_now)

pub returns-clause-intact : goal.returns-clause-intact
returns-clause-intact c = λ told intact.
    let view = seen c.self.view_is in
    held-call (IsStateIntact told) view c.delete.result c.delete.new.self (deleted view.held c.args.docno.now) c.delete.ensures.deleted c.delete.ensures.kept (intact-deleted told view c.args.docno.now) (subst (λ (x : State). IsStateIntact told x) (sym c.self.view_is) intact)
