use Rattle.std.proofs.Common.{IfSome, subst, sym}
use Rattle.holdings.specs.Contents.{added}
use Rattle.repository.specs.Merges.{IsOpenMerging}
use Rattle.repository.specs.States.{IsBacked, IsNumbered, IsStateIntact, State}
use Rattle.repository.specs.Ties.{IsTied}
use Rattle.repository.proofs.KeepLemmas.{merging-added}
use Rattle.repository.proofs.StepLemmas.{backed-added, held-call, intact-added, numbered-added}
use Rattle.repository.proofs.TieLemmas.{IfSome-map, tied-added}
use Rattle.repository.proofs.Views.{seen}
use Rattle.repository.proofs.repository.Repository.add.Goals as goal

pub invariant_of-self : goal.invariant_of-self
invariant_of-self c =
    let view = seen c.self.view_is in (
      λ usable. held-call IsNumbered view c.add.result c.add.new.self (added view.held c.args.doc.now) c.add.ensures.added c.add.ensures.kept (numbered-added view c.args.doc.now) (c.self.invariant.0 usable),
      λ usable. held-call (λ (x : State). IfSome x.merge (IsTied x.held)) view c.add.result c.add.new.self (added view.held c.args.doc.now) c.add.ensures.added c.add.ensures.kept (IfSome-map view.merge (IsTied view.held) (IsTied (added view.held c.args.doc.now)) (tied-added view.held c.args.doc.now)) (c.self.invariant.1 usable),
    )

pub returns-clause-backed : goal.returns-clause-backed
returns-clause-backed c = λ told backed.
    let view = seen c.self.view_is in
    held-call (IsBacked told) view c.add.result c.add.new.self (added view.held c.args.doc.now) c.add.ensures.added c.add.ensures.kept (backed-added told view c.args.doc.now) (subst (λ (x : State). IsBacked told x) (sym c.self.view_is) backed)

pub returns-clause-merging : goal.returns-clause-merging
returns-clause-merging c = λ told open_now.
    let view = seen c.self.view_is in
    held-call (IsOpenMerging told) view c.add.result c.add.new.self (added view.held c.args.doc.now) c.add.ensures.added c.add.ensures.kept (merging-added told view c.args.doc.now) (subst (λ (x : State). IsOpenMerging told x) (sym c.self.view_is) open_now)

pub returns-clause-intact : goal.returns-clause-intact
returns-clause-intact c = λ told intact.
    let view = seen c.self.view_is in
    held-call (IsStateIntact told) view c.add.result c.add.new.self (added view.held c.args.doc.now) c.add.ensures.added c.add.ensures.kept (intact-added told view c.args.doc.now) (subst (λ (x : State). IsStateIntact told x) (sym c.self.view_is) intact)
