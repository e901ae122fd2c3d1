use Rattle.std.proofs.Common.{◌≡◌, ◌∙◌, Option, sym, subst}
use Rattle.store_ends.specs.Files.{Files}
use Rattle.repository.specs.Stands.{Collection, Stands}
use Rattle.desk.specs.declared.reply.Reply.{Reply}
use Rattle.desk.specs.Backed.{IsDeskBacked, Steps, state_of, IsDeskIntact}
use Rattle.desk.specs.Orders.{IsTrueReply}
use Rattle.desk.specs.Points.{kept_behind, may_write}
use Rattle.desk.specs.Step.{step}
use Rattle.desk.specs.Told.{RefusesAs, reply_early, told_early}
use Rattle.desk.proofs.EventExits.{early-by, end-writes, if-ok-all, if-ok-map, no-clash, quiet-done, quiet-now, quiet-on, quiet-stops, true-writing, writing-outside}
use Rattle.desk.proofs.Points.{on-ok}
use Rattle.desk.proofs.IntactLemmas.{on-ok-map}
use Rattle.desk.proofs.kept.Kept.answer.Goals as goal

pub returns-then-may_write-clause-steps : goal.returns-then-may_write-clause-steps
returns-then-may_write-clause-steps g c = if-ok-map c.writing.result (λ (r : Reply). IsDeskBacked (g.T.Store.files c.args.store.now) c.args.self.now → Steps c.args.event (g.T.Store.files c.args.store.now) (g.T.Store.files c.writing.new.store) c.args.self.now c.writing.new.self r) _ (λ r steps backed plugs. steps backed) c.writing.ensures.steps

pub returns-then-may_write-clause-order : goal.returns-then-may_write-clause-order
returns-then-may_write-clause-order g c = if-ok-all c.writing.result (λ (r : Reply). IsDeskBacked (g.T.Store.files c.args.store.now) c.args.self.now → IsTrueReply (state_of (g.T.Store.files c.args.store.now) c.args.self.now) c.args.event r) (λ r backed. true-writing (state_of (g.T.Store.files c.args.store.now) c.args.self.now) c.args.event r (sym c.may_write.ensures ∙ c.if-may_write.true))

pub returns-then-may_write-clause-refuses : goal.returns-then-may_write-clause-refuses
returns-then-may_write-clause-refuses g c = λ hits. c.writing.ensures.refuses

pub returns-then-may_write-clause-early : goal.returns-then-may_write-clause-early
returns-then-may_write-clause-early g c = if-ok-map c.writing.result (λ (r : Reply). (told : Option Files) → RefusesAs r (step (state_of told c.args.self.now) c.args.event).1) (λ (r : Reply). (told : Option Files) → reply_early r ≡ told_early (step (state_of told c.args.self.now) c.args.event).1)
    (λ r refused told. early-by r (step (state_of told c.args.self.now) c.args.event).1 (refused told)) c.writing.ensures.refuses

pub returns-then-may_write-clause-inside : goal.returns-then-may_write-clause-inside
returns-then-may_write-clause-inside g c = λ within. absurd (writing-outside c.args.event (sym c.may_write.ensures ∙ c.if-may_write.true) within)

pub returns-then-may_write-clause-quiet : goal.returns-then-may_write-clause-quiet
returns-then-may_write-clause-quiet g c = λ none. absurd (no-clash (may_write c.args.event) (sym c.may_write.ensures ∙ c.if-may_write.true) none)

pub returns-clause-files : goal.returns-clause-files
returns-clause-files g c = record {
  done = on-ok c.keeping.result ((kept : Collection) → IsDeskBacked (g.T.Store.files c.args.store.now) c.args.self.now → Stands c.args.self.now.repository.held.limits (g.T.Store.files c.args.store.now) kept → Stands c.args.self.now.repository.held.limits (g.T.Store.files c.keeping.new.store) (kept_behind kept (step (state_of (g.T.Store.files c.args.store.now) c.args.self.now) c.args.event)))
      (λ kept backed stands. quiet-done g.T.Store.files g.T.Store.layers g.T.Store.clock g.T.Store.since g.T.Store.longest g.T.Store.held c.args.store.now c.keeping.new.store c.keeping.ensures.quiet c.args.self.now c.args.event kept (sym c.may_write.ensures ∙ c.if-may_write.false) stands);
  now = λ kept backed stands. quiet-now g.T.Store.files g.T.Store.layers g.T.Store.clock g.T.Store.since g.T.Store.longest g.T.Store.held c.args.store.now c.keeping.new.store c.keeping.ensures.quiet c.args.self.now c.args.event kept (sym c.may_write.ensures ∙ c.if-may_write.false) stands;
  stops = λ kept backed stands. quiet-stops g.T.Store.files g.T.Store.layers g.T.Store.clock g.T.Store.since g.T.Store.longest g.T.Store.held c.args.store.now c.keeping.new.store c.keeping.ensures.quiet c.args.self.now c.args.event kept (sym c.may_write.ensures ∙ c.if-may_write.false);
}

pub returns-clause-swept : goal.returns-clause-swept
returns-clause-swept g c = λ last. absurd (end-writes c.args.event (sym c.may_write.ensures ∙ c.if-may_write.false) last)

pub returns-clause-quiet : goal.returns-clause-quiet
returns-clause-quiet g c = λ none. c.keeping.ensures.quiet

pub returns-clause-goes_on : goal.returns-clause-goes_on
returns-clause-goes_on g c = quiet-on g.T.Store.files g.T.Store.layers g.T.Store.clock g.T.Store.since g.T.Store.longest g.T.Store.held c.args.store.now c.keeping.new.store c.keeping.ensures.quiet

pub returns-clause-intact : goal.returns-clause-intact
returns-clause-intact g c =
    on-ok-map c.keeping.result _ _ (λ kept backed whole. subst (λ (f : Option Files). IsDeskIntact f c.keeping.new.self) (sym c.keeping.ensures.quiet.same_files) (kept (g.T.Store.files c.args.store.now) whole)) c.keeping.ensures.intact
