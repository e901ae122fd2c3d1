use Rattle.std.specs.Prelude.{Err, Result}
use Rattle.std.proofs.Common.{◌≡◌, ◌∙◌, length, ap, refl, rules, subst, sym}
use Rattle.holdings.specs.Contents.{Answers, added, answer, is_full}
use Rattle.holdings.specs.Parts.{is_live}
use Rattle.holdings.specs.declared.refusals.AddRefusal.{AddRefusal}
use Rattle.repository.specs.Steps.{with_held}
use Rattle.session_events.specs.declared.event.Event.TheVariants as event
use Rattle.desk.specs.declared.reply.Reply.{Reply}
use Rattle.desk.specs.declared.reply.Reply.TheVariants as reply
use Rattle.desk.specs.Backed.{Keeps, Steps, state_of}
use Rattle.desk.specs.Keeping.{StaysIfRefused}
use Rattle.desk.proofs.Cases.{answers-ok, step-added}
use Rattle.desk.proofs.DocumentExits.{add-done, live-told, not-added-refuses, not-added-steps, with_repository}
use Rattle.desk.proofs.EventExits.{if-ok-all, stays-same}
use Rattle.desk.proofs.Exits.{accepted-by}
use Rattle.desk.proofs.Found.{seen}
use Rattle.desk.proofs.KeptLemmas.{kept-repository, priors-call}
use Rattle.desk.proofs.Points.{memory-damage, on-ok}
use Rattle.desk.proofs.IntactLemmas.{intact-from, intact-moved, merge-moved}
use Rattle.repository.specs.States as repositories
use Rattle.desk.proofs.kept.Kept.add.Goals as goal

pub invariant_of-self : goal.invariant_of-self
invariant_of-self c = λ usable working.
    let s = c.self.inside in
    kept-repository s.repository c.add.new.self s.queries.items s.counts
    (priors-call c.add.result s.repository c.add.new.self (with_held s.repository (added s.repository.held c.args.doc)) c.add.ensures.added c.add.ensures.kept refl) (c.self.invariant usable (sym c.add.ensures.usable ∙ working))

pub returns-in-Ok-clause-steps : goal.returns-in-Ok-clause-steps
returns-in-Ok-clause-steps c = λ told backed.
    let s = c.self.inside in
    let view = seen c.self.inside in
    let live = is_live s.repository.held.parts c.args.doc.docno in
    let full = is_full s.repository.held c.args.doc in
    let kept = c.self.invariant (ap (λ (x : Keeps). x.usable) c.self.view_is ∙ c.requires.usable.0) (ap (λ (x : Keeps). x.repository.usable) c.self.view_is ∙ c.requires.usable.1) in
    let not = answers-ok live full c.args.doc.docno (subst (λ r. Answers r (answer s.repository.held c.args.doc)) c.in-Ok.is c.add.ensures.answer) in
    let shown : reply.Added c.in_ok-docno.docno c.len.result ≡ reply.Added c.args.doc.docno (length c.args.doc.tokens) = search rules in
    subst (λ (r : Reply). Steps (event.Document c.args.doc) told told c.args.self.now (with_repository view c.add.new.self) r) (sym shown)
    (add-done told view c.args.self.now c.add.new.self c.args.doc c.self.view_is kept.early c.in-Ok.ensures.added not.0 not.1 (c.in-Ok.ensures.reads told) (c.add.ensures.backed told) (c.add.ensures.merging told) backed)

pub returns-in-Ok-clause-refuses : goal.returns-in-Ok-clause-refuses
returns-in-Ok-clause-refuses c = λ told.
    let view = seen c.self.inside in
    let live = is_live view.repository.held.parts c.args.doc.docno in
    let full = is_full view.repository.held c.args.doc in
    let not = answers-ok live full c.args.doc.docno (subst (λ r. Answers r (answer view.repository.held c.args.doc)) c.in-Ok.is c.add.ensures.answer) in
    accepted-by (event.Document c.args.doc) told view c.args.self.now _ c.self.view_is (step-added (state_of told view) c.args.doc (live-told told view c.args.doc.docno ∙ not.0) not.1) refl

pub returns-clause-steps : goal.returns-clause-steps
returns-clause-steps c = (
    let view = seen c.self.inside in
    let answers : Answers (Err c.in-Err.refusal) (answer view.repository.held c.args.doc) = subst (λ (r : Result (Unit {0}) AddRefusal). Answers r (answer view.repository.held c.args.doc)) c.in-Err.is c.add.ensures.answer in
    not-added-steps view c.args.self.now c.add.new.self c.args.doc c.self.view_is c.in-Err.ensures.kept c.not_added.result c.in-Err.refusal c.not_added.ensures answers)

pub returns-clause-refuses : goal.returns-clause-refuses
returns-clause-refuses c = (
    let view = seen c.self.inside in
    let answers : Answers (Err c.in-Err.refusal) (answer view.repository.held c.args.doc) = subst (λ (r : Result (Unit {0}) AddRefusal). Answers r (answer view.repository.held c.args.doc)) c.in-Err.is c.add.ensures.answer in
    not-added-refuses view c.args.self.now c.add.new.self c.args.doc c.self.view_is c.in-Err.ensures.kept c.not_added.result c.in-Err.refusal c.not_added.ensures answers)

pub invariant_of-self-2 : goal.invariant_of-self-2
invariant_of-self-2 c = λ usable working.
    let s = c.self.inside in
    kept-repository s.repository c.add.new.self s.queries.items s.counts
    (priors-call c.add.result s.repository c.add.new.self (with_held s.repository (added s.repository.held c.args.doc)) c.add.ensures.added c.add.ensures.kept refl) (c.self.invariant usable (sym c.add.ensures.usable ∙ working))

pub returns-clause-keeps : goal.returns-clause-keeps
returns-clause-keeps c = record {
  form = search rules;
  kind = ap (λ (x : Keeps). x.kind) c.self.view_is;
  unchanged =
      let view = seen c.self.inside in
      if-ok-all c.not_added.result (λ (r : Reply). StaysIfRefused r c.args.self.now (with_repository view c.add.new.self)) (λ r. stays-same r c.args.self.now (with_repository view c.add.new.self) (ap (with_repository view) c.in-Err.ensures.kept ∙ c.self.view_is));
  usable = search rules;
  undamaged = on-ok c.not_added.result _ (ap (λ (x : Keeps). x.cache.damage) c.self.view_is);
  damaged = memory-damage c.not_added.result _ _ (ap (λ (x : Keeps). x.cache.damage) c.self.view_is) (search rules);
}

pub returns-in-Ok-clause-intact : goal.returns-in-Ok-clause-intact
returns-in-Ok-clause-intact c = λ told whole.
    let view = seen c.self.inside in
    intact-from told told view c.args.self.now (with_repository view c.add.new.self) c.self.view_is
    (λ w. record { parts = c.add.ensures.intact told w.parts; queries = w.queries; merge = merge-moved told view.repository.merge c.add.new.self.merge (ap (λ (x : repositories.State). x.merge) c.in-Ok.ensures.added) w.merge }) whole

pub returns-clause-intact : goal.returns-clause-intact
returns-clause-intact c =
    let view = seen c.self.inside in
    on-ok c.not_added.result _ (λ told whole. intact-moved told (with_repository view c.add.new.self) c.args.self.now (ap (with_repository view) c.in-Err.ensures.kept ∙ c.self.view_is) whole)
