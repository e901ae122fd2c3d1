use Rattle.std.proofs.Common.{◌≡◌, ◌∙◌, true, ap, refl, sym, None}
use Rattle.std.specs.Prelude.{is_some}
use Rattle.std.specs.Option.{option_map}
use Rattle.session_events.specs.declared.event.Event.TheVariants as event
use Rattle.desk.specs.declared.reply.Reply.TheVariants as reply
use Rattle.desk.specs.declared.reply.Refusal.TheVariants.{MergeOpen}
use Rattle.desk.specs.Backed.{Keeps, Steps, merge_of, state_of}
use Rattle.desk.proofs.Cases.{step-merging}
use Rattle.desk.proofs.Exits.{accepted-by, of-now, refused-by, refused-exit}
use Rattle.desk.proofs.Found.{seen}
use Rattle.desk.proofs.MergeExits.{merge-done, mergeopen-step, none-of}
use Rattle.desk.proofs.KeptLemmas.{kept-repository, priors-begun}
use Rattle.desk.proofs.IntactLemmas.{begun-intact, intact-from}
use Rattle.desk.proofs.DocumentExits.{with_repository}
use Rattle.disk_index.specs.Snapshots.{AreIntact}
use Rattle.desk.proofs.kept.Kept.merge.Goals as goal

pub returns-then-merge_open-clause-steps : goal.returns-then-merge_open-clause-steps
returns-then-merge_open-clause-steps c = λ told backed.
    let view = seen c.self.inside in
    let some : is_some view.repository.merge ≡ true = sym c.merge_open.ensures ∙ c.if-merge_open.true in
    of-now told view c.args.self.now (λ (x : Keeps). Steps event.Merge told told x x (reply.Refused MergeOpen)) c.self.view_is (λ inside. refused-exit event.Merge told view MergeOpen (mergeopen-step told view some) inside) backed

pub returns-then-merge_open-clause-refuses : goal.returns-then-merge_open-clause-refuses
returns-then-merge_open-clause-refuses c = λ told.
    let view = seen c.self.inside in
    let some : is_some view.repository.merge ≡ true = sym c.merge_open.ensures ∙ c.if-merge_open.true in
    refused-by event.Merge told view c.args.self.now MergeOpen c.self.view_is (mergeopen-step told view some)

pub returns-clause-steps : goal.returns-clause-steps
returns-clause-steps c = λ told backed.
    let view = seen c.self.inside in
    let none : view.repository.merge ≡ None = none-of view.repository.merge (sym c.merge_open.ensures ∙ c.if-merge_open.false) in
    merge-done told view c.args.self.now c.begin_merge.new.self c.in-Ok.size c.self.view_is none c.in-Ok.ensures.begun (c.in-Ok.ensures.live told) (c.begin_merge.ensures.reads told) (c.begin_merge.ensures.backed told) (c.in-Ok.ensures.merging told) backed

pub returns-clause-refuses : goal.returns-clause-refuses
returns-clause-refuses c = λ told.
    let view = seen c.self.inside in
    let none : view.repository.merge ≡ None = none-of view.repository.merge (sym c.merge_open.ensures ∙ c.if-merge_open.false) in
    accepted-by event.Merge told view c.args.self.now _ c.self.view_is (step-merging (state_of told view) (ap (option_map merge_of) none)) refl

pub invariant_of-self : goal.invariant_of-self
invariant_of-self c = λ usable working.
    let s = c.self.inside in
    kept-repository s.repository c.begin_merge.new.self s.queries.items s.counts (priors-begun c.begin_merge.result s.repository c.begin_merge.new.self c.begin_merge.ensures.begun c.begin_merge.ensures.left) (c.self.invariant usable (ap (λ (x : Keeps). x.repository.usable) c.self.view_is ∙ c.requires.usable.1))

pub invariant_of-self-2 : goal.invariant_of-self-2
invariant_of-self-2 c = λ usable working.
    let s = c.self.inside in
    kept-repository s.repository c.begin_merge.new.self s.queries.items s.counts (priors-begun c.begin_merge.result s.repository c.begin_merge.new.self c.begin_merge.ensures.begun c.begin_merge.ensures.left) (c.self.invariant usable (ap (λ (x : Keeps). x.repository.usable) c.self.view_is ∙ c.requires.usable.1))

pub returns-clause-intact : goal.returns-clause-intact
returns-clause-intact c = λ told whole.
    let view = seen c.self.inside in
    intact-from told told view c.args.self.now (with_repository view c.begin_merge.new.self) c.self.view_is
    (λ w.
    let parts : AreIntact told c.begin_merge.new.self.held.parts.closed = c.begin_merge.ensures.intact told w.parts in
    record {
      parts = parts;
      queries = w.queries;
      merge = begun-intact told view.repository c.begin_merge.new.self c.in-Ok.ensures.begun parts;
    }) whole
